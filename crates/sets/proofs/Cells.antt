-- Rows of bits in a list of numbers of w bits each, whatever such a number is: where a bit lies, what a write of one number
-- does to all bits, and what a row that is written whole has.
use Rattle.std.proofs.Common.{◌≡◌, ℕ, ◌+◌, ◌*◌, ◌/◌, ◌%◌, ◌<◌, Bool, false, not, ◌&&◌, ◌||◌, eqb, List, length, get_or, set, sym, ap, ◌∙◌, ⊎_elim, arith, mod-lt, div-add-mod'}
use Rattle.std.proofs.Math.Nat.{mul_comm, mul-add-div, mul-add-mod_self_left, div-lt_iff_lt-mul}
use Rattle.std.proofs.lemmas.List.{get_or-set_same, get_or-set_other, get_or_default}
use Rattle.std.proofs.lemmas.Bool.{cases_eq, eq-eqb, ne_eqb}
use Rattle.std.proofs.Math.Bool.{or-false, and-true}

-- the number that element i of a row lies in is in the list
pub cell_below : (w at i n : ℕ) → 0 < w → w * at + i < w * n → at + i / w < n
cell_below w at i n h l =
    let e : (w * at + i) / w ≡ at + i / w = mul-add-div h at i in
    let b : (w * at + i) / w < n = (div-lt_iff_lt-mul h).1 (rw (mul_comm n w) l) in
    omega arith

-- two places are one where number and bit are
same_place : (w i j : ℕ) → i / w ≡ j / w → i % w ≡ j % w → i ≡ j
same_place w i j p q =
    sym (div-add-mod' i w) ∙ ap (λ (x : ℕ). x * w + i % w) p ∙ ap (λ (x : ℕ). j / w * w + x) q ∙ div-add-mod' j w

module _ {A : Type 0} (bit : A → ℕ → Bool) (none : A) (w : ℕ) (element : List A → ℕ → Bool)
    (law : (xs : List A) (i : ℕ) → element xs i ≡ bit (get_or xs (i / w) none) (i % w)) (wide : 0 < w) where
  -- element i of a row
  row_element : (xs : List A) (at i : ℕ) → element xs (w * at + i) ≡ bit (get_or xs (at + i / w) none) (i % w)
  row_element xs at i =
      law xs (w * at + i)
      ∙ ap (λ (p : ℕ). bit (get_or xs p none) ((w * at + i) % w)) (mul-add-div wide at i)
      ∙ ap (bit (get_or xs (at + i / w) none)) (mul-add-mod_self_left w at i)

  -- what a read of it gives: bit q of number p
  pub element_read : (xs : List A) (at i p q : ℕ) (x : A) (is : Bool) → w * at + i < w * length xs → p ≡ at + i / w → q ≡ i % w →
      x ≡ get_or xs p x → is ≡ bit x q → is ≡ element xs (w * at + i)
  element_read xs at i p q x is l e f r s =
      let b : p < length xs = omega (arith, cell_below w at i (length xs) wide l) in
      s ∙ ap (λ (y : A). bit y q) (r ∙ get_or_default xs p x none b ∙ ap (λ (y : ℕ). get_or xs y none) e)
      ∙ ap (bit (get_or xs (at + i / w) none)) f ∙ sym (row_element xs at i)

  -- a write of number p that changes bit q alone
  one_bit : (xs : List A) (at i p q : ℕ) (x v : A) (new : Bool → Bool → Bool) → ((b : Bool) → new b false ≡ b) → w * at + i < w * length xs →
      p ≡ at + i / w → q ≡ i % w → x ≡ get_or xs p x → ((k : ℕ) → k < w → bit v k ≡ new (bit x k) (eqb k q)) →
      (j : ℕ) → element (set xs p v) j ≡ new (element xs j) (eqb j (w * at + i))
  one_bit xs at i p q x v new id l e f r each j =
      let b : p < length xs = omega (arith, cell_below w at i (length xs) wide l) in
      let t = w * at + i in
      let number : t / w ≡ p = mul-add-div wide at i ∙ sym e in
      let place : t % w ≡ q = mul-add-mod_self_left w at i ∙ sym f in
      law (set xs p v) j ∙
      ⊎_elim
      (λ (z : j / w ≡ p).
      let was : bit x (j % w) ≡ element xs j =
      ap (λ (y : A). bit y (j % w)) (r ∙ get_or_default xs p x none b ∙ ap (λ (y : ℕ). get_or xs y none) (sym z)) ∙ sym (law xs j) in
      let same : eqb (j % w) q ≡ eqb j t =
      ⊎_elim
      (λ (y : j % w ≡ q). eq-eqb _ _ y ∙ sym (eq-eqb j t (same_place w j t (z ∙ sym number) (y ∙ sym place))))
      (λ (y : j % w ≡ q → ⊥). ne_eqb _ _ y ∙ sym (ne_eqb j t (λ u. y (ap (λ (n : ℕ). n % w) u ∙ place))))
      (cases_eq (j % w) q) in
      ap (λ (n : ℕ). bit (get_or (set xs p v) n none) (j % w)) z ∙ ap (λ (y : A). bit y (j % w)) (get_or-set_same xs p v none b)
      ∙ each (j % w) (mod-lt j wide) ∙ ap (λ (c : Bool). new c (eqb (j % w) q)) was ∙ ap (new (element xs j)) same)
      (λ (z : j / w ≡ p → ⊥).
      ap (λ (y : A). bit y (j % w)) (get_or-set_other xs p (j / w) v none z) ∙ sym (law xs j) ∙ sym (id (element xs j))
      ∙ ap (new (element xs j)) (sym (ne_eqb j t (λ u. z (ap (λ (n : ℕ). n / w) u ∙ number)))))
      (cases_eq (j / w) p)

  -- an element goes in
  pub element_with : (xs : List A) (at i p q : ℕ) (x v : A) → w * at + i < w * length xs → p ≡ at + i / w → q ≡ i % w → x ≡ get_or xs p x →
      ((k : ℕ) → k < w → bit v k ≡ (bit x k || eqb k q)) → (j : ℕ) → element (set xs p v) j ≡ (element xs j || eqb j (w * at + i))
  element_with xs at i p q x v = one_bit xs at i p q x v (λ a b. a || b) or-false

  -- an element comes out
  pub element_without : (xs : List A) (at i p q : ℕ) (x v : A) → w * at + i < w * length xs → p ≡ at + i / w → q ≡ i % w → x ≡ get_or xs p x →
      ((k : ℕ) → k < w → bit v k ≡ (bit x k && not (eqb k q))) → (j : ℕ) → element (set xs p v) j ≡ (element xs j && not (eqb j (w * at + i)))
  element_without xs at i p q x v = one_bit xs at i p q x v (λ a b. a && not b) and-true

  -- a row of the same numbers as another has the same elements
  pub row_same : (xs ys : List A) (at to len : ℕ) → ((p : ℕ) → p < len → get_or ys (to + p) none ≡ get_or xs (at + p) none) →
      (j : ℕ) → j < w * len → element ys (w * to + j) ≡ element xs (w * at + j)
  row_same xs ys at to len same j l =
      let b : j / w < len = (div-lt_iff_lt-mul wide).1 (rw (mul_comm len w) l) in
      row_element ys to j ∙ ap (λ (y : A). bit y (j % w)) (same (j / w) b) ∙ sym (row_element xs at j)

  -- a row of numbers with no bits has no elements
  pub row_empty : (xs : List A) (at len : ℕ) → ((i : ℕ) → bit none i ≡ false) → ((p : ℕ) → p < len → get_or xs (at + p) none ≡ none) →
      (j : ℕ) → j < w * len → element xs (w * at + j) ≡ false
  row_empty xs at len blank zeros j l =
      let b : j / w < len = (div-lt_iff_lt-mul wide).1 (rw (mul_comm len w) l) in
      row_element xs at j ∙ ap (λ (y : A). bit y (j % w)) (zeros (j / w) b) ∙ blank (j % w)
