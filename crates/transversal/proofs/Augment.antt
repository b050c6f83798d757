-- A smaller matched set can take an offer from a larger one.
use Rattle.std.proofs.Common.{◌≡◌, ℕ, zero, suc, ◌<◌, ◌≤◌, Bool, true, false, not, ◌&&◌, eqb, refl, ap, ⊎_elim, arith}
use Rattle.std.proofs.lemmas.Bool.{cases_eq}
use Rattle.sets.specs.Matroid.{Set, size, without, with}
use Rattle.sets.proofs.FiniteSets.{look_up, size_without, size_within}
use Rattle.transversal.specs.Volunteers.{Tends, some}
use Rattle.transversal.proofs.Matchings.{put, put_tends, no_larger, last, some_last, some_from}

-- the offers of both sets that the two matchings give to different volunteers
abbrev pub differ : Set → Set → (ℕ → ℕ) → (ℕ → ℕ) → Set
differ s t f g x = (s x && t x) && not (eqb (f x) (g x))

-- v looks after some offer of the set
abbrev pub busy : ℕ → Set → (ℕ → ℕ) → ℕ → Bool
busy n s f v = some n (λ y. s y && eqb (f y) v)

-- who is not busy has no offer
pub idle : (n : ℕ) (s : Set) (f : ℕ → ℕ) (v y : ℕ) → busy n s f v ≡ false → y < n → s y ≡ true → f y ≡ v → ⊥
idle n s f v y e h p q =
    let r : busy n s f v ≡ true = some_from n (λ y. s y && eqb (f y) v) y h (grind arith) in
    grind arith

module _ (can : ℕ → ℕ → Bool) (n volunteers : ℕ) where
  -- in a larger matched set some volunteer is not busy with the smaller one
  pub some_idle : (s t : Set) (f g : ℕ → ℕ) → Tends can n volunteers t g → size n s < size n t →
      (x : ℕ) × (x < n) × (t x ≡ true) × (busy n s f (g x) ≡ false)
  some_idle s t f g tg less =
      ⊎_elim
      (λ r. (r.0, r.1, grind arith, grind arith))
      (λ rest. absurd
      (let o : ℕ → ℕ = λ x. last n (λ y. s y && eqb (f y) (g x)) in
      let at : (x : ℕ) → x < n → t x ≡ true → (o x < n) × ((s (o x) && eqb (f (o x)) (g x)) ≡ true) =
      λ x h p. some_last n (λ y. s y && eqb (f y) (g x)) (let k : (t x && not (busy n s f (g x))) ≡ false = rest x h in grind arith) in
      let k : size n t ≤ size n s = no_larger n n t s o
      (λ x h p. ((at x h p).0, let q : (s (o x) && eqb (f (o x)) (g x)) ≡ true = (at x h p).1 in grind arith))
      (λ x y h k p q e. tg.apart x y h k p q (same (f (o x)) (f (o y)) (g x) (g y) (s (o x)) (s (o y)) (ap f e) (at x h p).1 (at y k q).1)) in
      omega arith))
      (look_up n (λ x. t x && not (busy n s f (g x))))
    where
      same : (a b c d : ℕ) (u v : Bool) → a ≡ b → (u && eqb a c) ≡ true → (v && eqb b d) ≡ true → c ≡ d
      same a b c d u v e p q = grind arith

  -- what is to be shown: an offer of t that s can take
  Grows : Set → Set → Type 0
  Grows s t = (x : ℕ) × (x < n) × (t x ≡ true) × (s x ≡ false) × ((h : ℕ → ℕ) × Tends can n volunteers (with s x) h)

  -- an idle volunteer of t's matching: its offer comes to s, or s's matching changes at it
  step : (s t : Set) (f g : ℕ → ℕ) → Tends can n volunteers s f → Tends can n volunteers t g → (x : ℕ) → x < n → t x ≡ true →
      busy n s f (g x) ≡ false → (b : Bool) → s x ≡ b →
      ((f' : ℕ → ℕ) → Tends can n volunteers s f' → size n (differ s t f' g) < size n (differ s t f g) → Grows s t) → Grows s t
  unfolding Grows
  step s t f g ts tg x h p e false q rec = (
    x,
    h,
    p,
    q,
    (
      put f x (g x),
      put_tends can n volunteers s (with s x) f x (g x) ts (tg.there x h p) (tg.able x h p)
          (λ y k r d. idle n s f (g x) y e k r) (λ y k r. r),
    ),
  )
  step s t f g ts tg x h p e true q rec =
      rec (put f x (g x))
      (put_tends can n volunteers s s f x (g x) ts (tg.there x h p) (tg.able x h p)
      (λ y k r d. idle n s f (g x) y e k r) (λ y k r. grind arith))
      (let d : f x ≡ g x → ⊥ = idle n s f (g x) x e h q in
      let w : suc (size n (without (differ s t f g) x)) ≡ size n (differ s t f g) = size_without n (differ s t f g) x h (grind arith) in
      let l : size n (differ s t (put f x (g x)) g) ≤ size n (without (differ s t f g) x) =
      size_within n (differ s t (put f x (g x)) g) (without (differ s t f g) x) (λ y k r. ⊎_elim (λ u. absurd (grind arith)) (λ u. grind arith) (cases_eq y x)) in
      omega arith)

  -- by the number of offers at which the two matchings differ
  augment : (k : ℕ) (s t : Set) (f g : ℕ → ℕ) → Tends can n volunteers s f → Tends can n volunteers t g →
      size n s < size n t → size n (differ s t f g) < k → Grows s t
  augment zero s t f g ts tg less few = absurd (omega arith)
  augment (suc k) s t f g ts tg less few =
      let r = some_idle s t f g tg less in
      step s t f g ts tg r.0 r.1 r.2 r.3 (s r.0) refl
      (λ f' ts' fewer. augment k s t f' g ts' tg less (omega arith))

  -- a smaller matched set can take an offer from a larger one
  pub grows : (s t : Set) (f g : ℕ → ℕ) → Tends can n volunteers s f → Tends can n volunteers t g → size n s < size n t →
      (x : ℕ) × (x < n) × (t x ≡ true) × (s x ≡ false) × ((h : ℕ → ℕ) × Tends can n volunteers (with s x) h)
  unfolding Grows
  grows s t f g ts tg less = augment (suc (size n (differ s t f g))) s t f g ts tg less (omega arith)
