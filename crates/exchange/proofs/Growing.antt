-- A set that grows backwards along the arcs, in a pass over the elements.
use Rattle.std.proofs.Common.{◌≡◌, ℕ, ◌+◌, ◌*◌, ◌<◌, Bool, true, false, eqb, List, sym, refl, ap, ◌∙◌, ⊎_elim, arith}
use Rattle.std.proofs.lemmas.Bool.{cases_eq, both_ways, eq-eqb, ne_eqb}
use Rattle.sets.specs.Matroid.{pick, Set, size, Within}
use Rattle.sets.specs.Bits.{marked, word_row, row_words}
use Rattle.exchange.proofs.Counting.{size_mono, size_more}
use Rattle.exchange.proofs.Settling.{settles}

-- a set holds, with the head of an arc, its tail
abbrev pub Backwards : ℕ → (ℕ → ℕ → Bool) → Set → Type 0
Backwards n to t = (v x : ℕ) → v < n → x < n → to v x ≡ true → t x ≡ true → t v ≡ true

-- what a pass has done up to i
pub record Grown (n : ℕ) (to : ℕ → ℕ → Bool) (old here : Set) (i : ℕ) (grown : Bool) : Type 0 where
  pub larger : (x : ℕ) → old x ≡ true → here x ≡ true
  pub more : grown ≡ true → size n old < size n here
  pub closed : grown ≡ false → (v x : ℕ) → v < i → x < n → to v x ≡ true → here x ≡ true → here v ≡ true
  pub least : (t : Set) → Backwards n to t → Within n old t → Within n here t

-- an element that is in already, and one with no arc into the set
pub grown_pass : (n : ℕ) (to : ℕ → ℕ → Bool) (old here : Set) (i : ℕ) (grown : Bool) →
    ((x : ℕ) → x < n → to i x ≡ true → here x ≡ true → here i ≡ true) → Grown n to old here i grown → Grown n to old here (i + 1) grown
grown_pass n to old here i grown h g = record {
  larger = g.larger;
  more = g.more;
  closed = λ e v x p q t s.
      ⊎_elim
      (λ (r : v ≡ i). ap here r ∙ h x q (ap (λ (j : ℕ). to j x) (sym r) ∙ t) s)
      (λ (r : v ≡ i → ⊥). g.closed e v x (omega arith) q t s)
      (cases_eq v i);
  least = g.least;
}

-- an element with an arc into the set is taken in
pub grown_take : (n : ℕ) (to : ℕ → ℕ → Bool) (old here after : Set) (i x : ℕ) (grown : Bool) → i < n → x < n → here i ≡ false →
    to i x ≡ true → here x ≡ true → ((j : ℕ) → after j ≡ pick (eqb j i) true (here j)) →
    Grown n to old here i grown → Grown n to old after (i + 1) true
grown_take n to old here after i x grown p q fresh arc in_x each g = record {
  larger = λ j h. wider j (g.larger j h);
  more = λ _.
      let a = size_mono n old here (λ v _ h. g.larger v h) in
      let b = size_more n here after i p fresh (λ v _. settles here after i each v) in
      omega (arith, a, b);
  closed = λ e. absurd (both_ways true e refl);
  least = λ t b h j l r.
      let before = g.least t b h in
      ⊎_elim
      (λ (s : j ≡ i). ap t s ∙ b i x p q arc (before x q in_x))
      (λ (s : j ≡ i → ⊥). before j l (sym (each j ∙ ap (λ (y : Bool). pick y true (here j)) (ne_eqb j i s)) ∙ r))
      (cases_eq j i);
}
  where
    wider : (j : ℕ) → here j ≡ true → after j ≡ true
    wider j h =
        ⊎_elim
        (λ (s : j ≡ i). each j ∙ ap (λ (y : Bool). pick y true (here j)) (eq-eqb j i s))
        (λ (s : j ≡ i → ⊥). each j ∙ ap (λ (y : Bool). pick y true (here j)) (ne_eqb j i s) ∙ h)
        (cases_eq j i)

-- a row at the front of its words, copied
pub copied_row : (n : ℕ) (from to : List ℕ) → ((j : ℕ) → j < 32 * row_words n → word_row to 0 j ≡ word_row from 0 j) →
    (j : ℕ) → j < n → marked to j ≡ marked from j
copied_row n from to h j p =
    let z : 32 * 0 + j ≡ j = omega arith in
    ap (λ (x : ℕ). marked to x) (sym z) ∙ h j (omega arith) ∙ ap (λ (x : ℕ). marked from x) z
