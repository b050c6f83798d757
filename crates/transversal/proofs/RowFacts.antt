-- Rows of bits in words: what one word tells of a row, and what a write to one row leaves of the others.
use Rattle.std.proofs.Common.{◌≡◌, ℕ, zero, suc, ◌+◌, ◌-◌, ◌*◌, ◌/◌, ◌%◌, ◌^◌, ◌<◌, ◌≤◌, Bool, true, false, not, ◌&&◌, ◌||◌, eqb, ◌⊎◌, List, Option, MatchOption, w32, get_or, replicate, sym, refl, ap, ◌∙◌, inl, inr, ⊎_elim, add-one, arith}
use lib.Bits.{bit_and, bit_or}
use Rattle.std.proofs.lemmas.List.{get_or-replicate}
use Rattle.std.proofs.lemmas.Nat.{mul-le}
use Rattle.std.proofs.lemmas.Nat.Bits.{bit_at-trailing_zeros}
use Rattle.std.proofs.lemmas.Bool.{cases_lt, cases_order}
use Rattle.std.specs.Bool.{then_some}
use Rattle.std.specs.Int.{trailing_zeros}
use Rattle.sets.specs.Bits.{marked, word_row, row_words, SameBut}
use Rattle.sets.specs.Matroid.{Set}
use Rattle.sets.proofs.Stretches.{word_row_is}
use Rattle.sets.proofs.Places.{row_kept}
use Rattle.transversal.specs.Volunteers.{in_row, kept_length, some}
use Rattle.sets.proofs.Masks.{bit, bit_and_lem, bit_not, bit_or_lem, bit_zero}

-- a word that adds nothing to another has no bit that the other lacks
pub word_covers : (xs ys : List ℕ) (from k y : ℕ) → bit_or (get_or xs (from + k) 0) (get_or ys k 0) ≡ get_or ys k 0 →
    32 * k ≤ y → y < 32 * k + 32 → word_row xs from y ≡ true → word_row ys 0 y ≡ true
word_covers xs ys from k y e low high p =
    let a : y / 32 ≡ k = omega arith in
    let b : bit (get_or xs (from + k) 0) (y % 32) ≡ true = ap (λ i. bit (get_or xs (from + i) 0) (y % 32)) (sym a) ∙ (sym (word_row_is xs from y) ∙ p) in
    let d : bit (bit_or (get_or xs (from + k) 0) (get_or ys k 0)) (y % 32) ≡ (bit (get_or xs (from + k) 0) (y % 32) || bit (get_or ys k 0) (y % 32)) =
    bit_or_lem (get_or xs (from + k) 0) (get_or ys k 0) (y % 32) in
    let c : bit (get_or ys k 0) (y % 32) ≡ true = ap (λ w. bit w (y % 32)) (sym e) ∙ (d ∙ ap (λ u. u || bit (get_or ys k 0) (y % 32)) b) in
    let z : k ≡ 0 + y / 32 = omega arith in
    word_row_is ys 0 y ∙ (ap (λ i. bit (get_or ys i 0) (y % 32)) (sym z) ∙ c)

-- the bits of a word of xs that the word of ys lacks are the places that row `row` of xs has and row 0 of ys has not
pub fresh_bit : (xs ys : List ℕ) (row k y : ℕ) → get_or ys k 0 < 2 ^ 32 → y / 32 ≡ k →
    bit (bit_and (get_or xs (row + k) 0) (4294967295 - get_or ys k 0)) (y % 32) ≡ (word_row xs row y && not (word_row ys 0 y))
fresh_bit xs ys row k y h e =
    let a : row + y / 32 ≡ row + k = omega arith in
    let z : 0 + y / 32 ≡ k = omega arith in
    let p : word_row xs row y ≡ bit (get_or xs (row + k) 0) (y % 32) = word_row_is xs row y ∙ ap (λ i. bit (get_or xs i 0) (y % 32)) a in
    let q : word_row ys 0 y ≡ bit (get_or ys k 0) (y % 32) = word_row_is ys 0 y ∙ ap (λ i. bit (get_or ys i 0) (y % 32)) z in
    bit_and_lem (get_or xs (row + k) 0) (4294967295 - get_or ys k 0) (y % 32)
    ∙ ap (λ b. bit (get_or xs (row + k) 0) (y % 32) && b) (bit_not 32 (get_or ys k 0) (y % 32) h (omega arith))
    ∙ ap (λ b. b && not (bit (get_or ys k 0) (y % 32))) (sym p)
    ∙ ap (λ b. word_row xs row y && not b) (sym q)

-- the lowest of these bits is such a place, if it is below n; else no place of word k below n is one
pub first_fresh : (xs ys : List ℕ) (row n k w : ℕ) (b : Bool) (o : Option ℕ) → w ≡ bit_and (get_or xs (row + k) 0) (4294967295 - get_or ys k 0) →
    get_or ys k 0 < 2 ^ 32 → w < 2 ^ 32 → o ≡ then_some b (32 * k + trailing_zeros w32 w) →
    (b ≡ true → (0 < w) × (32 * k + trailing_zeros w32 w < n)) → (b ≡ false → 0 < w → n ≤ 32 * k + trailing_zeros w32 w) →
    MatchOption o ((y : ℕ) → 32 * k ≤ y → y < 32 * k + 32 → y < n → word_row xs row y ≡ true → word_row ys 0 y ≡ true)
    (λ y. (y < n) × (word_row xs row y ≡ true) × (word_row ys 0 y ≡ false))
first_fresh xs ys row n k w true o is h f e t u =
    let some = t refl in
    let low = bit_at-trailing_zeros w32 w some.0 f in
    let y = 32 * k + trailing_zeros w32 w in
    let m : trailing_zeros w32 w ≡ y % 32 = omega (arith, low.0) in
    let b : (word_row xs row y && not (word_row ys 0 y)) ≡ true =
    sym (fresh_bit xs ys row k y h (omega (arith, low.0))) ∙ ap (λ v. bit v (y % 32)) (sym is) ∙ ap (λ v. bit w v) (sym m) ∙ ap (λ v. eqb v 1) low.1 in
    rw e (some.1, first (word_row xs row y) (word_row ys 0 y) b, second (word_row xs row y) (word_row ys 0 y) b)
  where
    first : (a b : Bool) → (a && not b) ≡ true → a ≡ true
    first a b q = grind arith

    second : (a b : Bool) → (a && not b) ≡ true → b ≡ false
    second a b q = grind arith
first_fresh xs ys row n k w false o is h f e t u = rw e (λ y a l q p.
    both (word_row xs row y) (word_row ys 0 y)
    (sym (fresh_bit xs ys row k y h (omega arith)) ∙ ap (λ v. bit v (y % 32)) (sym is) ∙ ⊎_elim
    (λ (z : 0 < w). ap (λ v. eqb v 1) ((bit_at-trailing_zeros w32 w z f).2 (y % 32) (omega (arith, u refl z))))
    (λ (z : w ≤ 0). let e : w ≡ 0 = omega arith in ap (λ v. bit v (y % 32)) e ∙ bit_zero (y % 32))
    (cases_lt 0 w)) p)
  where
    both : (a b : Bool) → (a && not b) ≡ false → a ≡ true → b ≡ true
    both a b q p = grind arith

-- the row from word 0 on is the set of the words
pub row_zero : (xs : List ℕ) (x : ℕ) → word_row xs 0 x ≡ marked xs x
row_zero xs x = let e : 32 * 0 + x ≡ x = omega arith in ap (λ i. marked xs i) e

-- row k of m rows lies in their memory
pub row_in : (k m width len : ℕ) → k < m → m * width ≤ len → k * width + width ≤ len
row_in k m width len h l = let a = mul-le (k + 1) width m width (omega arith) (omega arith) in omega arith

-- row k lies in the words that are kept
pub kept_row : (k n width len : ℕ) → width ≡ row_words n → k < n + 601 → kept_length n ≤ len → k * width + width ≤ len
kept_row k n width len e h l = row_in k (n + 601) width len h (rw e l)

-- words of 0 hold an empty row
pub row_of_zeros : (m y : ℕ) → y < 32 * m → word_row (replicate m 0) 0 y ≡ false
row_of_zeros m y h = word_row_is (replicate m 0) 0 y ∙ (ap (λ w. bit w (y % 32)) (get_or-replicate m (0 + y / 32) 0 0 (omega arith)) ∙ bit_zero (y % 32))

-- two rows share no word
pub rows_off : (k z width : ℕ) → (k ≡ z → ⊥) → (k * width + width ≤ z * width) ⊎ (z * width + width ≤ k * width)
rows_off k z width d = ⊎_elim (λ e. absurd (d e))
    (⊎_elim
    (λ (l : k < z). let a = mul-le (k + 1) width z width (omega arith) (omega arith) in inl (omega arith))
    (λ (l : z < k). let a = mul-le (z + 1) width k width (omega arith) (omega arith) in inr (omega arith)))
    (cases_order k z)

-- a write to row k leaves row z
pub other_row : (k z width : ℕ) (xs ys : List ℕ) → SameBut (k * width) width xs ys → (z ≡ k → ⊥) → (x : ℕ) → x < 32 * width →
    in_row ys width z x ≡ in_row xs width z x
other_row k z width xs ys same d = row_kept (k * width) width xs ys same (z * width) width (rows_off z k width d)

-- one more test of `some`
pub some_more : (m : ℕ) (p : Set) → some (m + 1) p ≡ (p m || some m p)
some_more m p = rw add-one

-- the same tests
pub some_same : (m : ℕ) (p q : Set) → ((v : ℕ) → v < m → p v ≡ q v) → some m p ≡ some m q
some_same zero p q h = refl
some_same (suc m) p q h =
    let r : some m p ≡ some m q = some_same m p q (λ v k. h v (omega arith)) in
    let e : p m ≡ q m = h m (omega arith) in
    grind arith
