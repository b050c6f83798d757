-- The first fault of a size, from that of its set and that of its numbers.
use Rattle.std.proofs.Common.{◌≡◌, ℕ, ◌+◌, ◌<◌, ◌≤◌, Bool, true, List, ℤ, sym, ◌∙◌, subst, inl, inr, ⊎_elim}
use Rattle.sets.specs.Bits.{row, row_bytes}
use Rattle.sets.specs.Matroid.{Set, with, without, Matroid}
use Rattle.sets.specs.declared.refusal.Refusal.{Refusal}
use Rattle.matroid.proofs.Along.{with_alike, swap_alike}
use Rattle.certificate.specs.Layout.{row_at, count, part}
use Rattle.certificate.specs.Faults.{Outbids, Misjudged, unequal, first, second, SetFault, SplitFault, SizedFault, NumbersFault, Earliest, Clear, Wrong}

-- an offer that outbids a chosen one of a set does so in a set that agrees with it
outbids_along : (n : ℕ) (f : Set → Bool) (p : ℕ → ℤ) (s t : Set) (x : ℕ) → Matroid n f → ((v : ℕ) → v < n → t v ≡ s v) →
    Outbids n f p s x → Outbids n f p t x
outbids_along n f p s t x m e o = (
  o.0,
  o.1,
  e o.0 o.1 ∙ o.2,
  o.3,
  ⊎_elim
      (λ (a : f (with s x) ≡ true). inl (with_alike m s t x e ∙ a))
      (λ (a : f (with (without s o.0) x) ≡ true). inr (swap_alike m s t o.0 x e ∙ a))
      o.4,
)

-- and so for an offer in fault
misjudged_along : (n : ℕ) (f g : Set → Bool) (w : ℕ → ℕ) (p q : ℕ → ℤ) (s t : Set) (x : ℕ) → Matroid n f → Matroid n g → x < n →
    ((v : ℕ) → v < n → t v ≡ s v) → Misjudged n f g w p q s x → Misjudged n f g w p q t x
misjudged_along n f g w p q s t x mf mg l e (unequal h) = unequal h
misjudged_along n f g w p q s t x mf mg l e (first o b) = first (e x l ∙ o) (outbids_along n f p s t x mf e b)
misjudged_along n f g w p q s t x mf mg l e (second o b) = second (e x l ∙ o) (outbids_along n g q s t x mg e b)

module _ (n : ℕ) (f g : Set → Bool) (w : ℕ → ℕ) (sheet : List ℕ) (k : ℕ) (some : 1 ≤ k) (most : k ≤ count n sheet) where
  -- a set with no fault, at its place in the bytes
  pub right_set : (at : ℕ) → at ≡ row_at n (k + 1) → Clear (SetFault n f g k (row sheet at)) → Clear (SizedFault n f g sheet k)
  right_set at e h p d z = h p d (subst (λ (a : ℕ). SetFault n f g k (row sheet a) p d) (sym e) z.2)

  -- a set with a first fault, at its place in the bytes
  pub wrong_set : (at : ℕ) (d : Refusal) → at ≡ row_at n (k + 1) → Earliest (SetFault n f g k (row sheet at)) d → Wrong n f g w sheet k d
  wrong_set at d e h =
      let z = subst (λ (a : ℕ). Earliest (SetFault n f g k (row sheet a)) d) e h in
      inl (z.0, (some, most, z.1), λ q c y. z.2 q c y.2)

  -- the faults of the numbers, over the loaded set and over the one in the bytes
  there : Matroid n f → Matroid n g → (at : ℕ) → at ≡ row_at n (k + 1) → (s : Set) → ((v : ℕ) → v < n → s v ≡ row sheet at v) → (x : ℕ) (d : Refusal) →
      SplitFault n f g w (part sheet (at + row_bytes n)) (part sheet (at + row_bytes n + 8)) k s x d → NumbersFault n f g w sheet k x d
  there mf mg at e s loaded x d z = (
    some,
    most,
    subst (λ (a : ℕ). SplitFault n f g w (part sheet (a + row_bytes n)) (part sheet (a + row_bytes n + 8)) k (row sheet a) x d) e (
      z.0,
      z.1,
      misjudged_along n f g w (part sheet (at + row_bytes n)) (part sheet (at + row_bytes n + 8)) s (row sheet at) x mf mg z.0 (λ v l. sym (loaded v l)) z.2,
    ),
  )

  -- and back from the bytes to the loaded set
  back : Matroid n f → Matroid n g → (at : ℕ) → at ≡ row_at n (k + 1) → (s : Set) → ((v : ℕ) → v < n → s v ≡ row sheet at v) → (x : ℕ) (d : Refusal) →
      NumbersFault n f g w sheet k x d → SplitFault n f g w (part sheet (at + row_bytes n)) (part sheet (at + row_bytes n + 8)) k s x d
  back mf mg at e s loaded x d z =
      let y = subst (λ (a : ℕ). SplitFault n f g w (part sheet (a + row_bytes n)) (part sheet (a + row_bytes n + 8)) k (row sheet a) x d) (sym e) z.2 in (
        y.0,
        y.1,
        misjudged_along n f g w (part sheet (at + row_bytes n)) (part sheet (at + row_bytes n + 8)) (row sheet at) s x mf mg y.0 loaded y.2,
      )

  -- numbers with no fault
  pub right_numbers : Matroid n f → Matroid n g → (at : ℕ) → at ≡ row_at n (k + 1) → (s : Set) → ((v : ℕ) → v < n → s v ≡ row sheet at v) →
      Clear (SplitFault n f g w (part sheet (at + row_bytes n)) (part sheet (at + row_bytes n + 8)) k s) → Clear (NumbersFault n f g w sheet k)
  right_numbers mf mg at e s loaded h x d z = h x d (back mf mg at e s loaded x d z)

  -- numbers with a first fault
  pub wrong_numbers : Matroid n f → Matroid n g → (at : ℕ) → at ≡ row_at n (k + 1) → (s : Set) → ((v : ℕ) → v < n → s v ≡ row sheet at v) → (d : Refusal) →
      Earliest (SplitFault n f g w (part sheet (at + row_bytes n)) (part sheet (at + row_bytes n + 8)) k s) d → Earliest (NumbersFault n f g w sheet k) d
  wrong_numbers mf mg at e s loaded d h =
      (h.0, there mf mg at e s loaded h.0 d h.1, λ q c z. h.2 q c (back mf mg at e s loaded q c z))
