-- What is kept: words as sets of groups, and the answers that are read off them.
use Rattle.std.proofs.Common.{◌≡◌, ℕ, zero, suc, ◌+◌, ◌-◌, ◌*◌, ◌/◌, ◌%◌, ◌^◌, ◌<◌, ◌≤◌, Bool, true, false, ◌&&◌, ◌||◌, eqb, leb, List, get_or, sym, ap, ◌∙◌, ap₂, ⊎_elim, arith}
use lib.Bits.{bit_or}
use Rattle.std.proofs.lemmas.Bool.{cases_lt, both_ways, eq-eqb, ne_eqb, lt-ltb, lt-leb, le-leb}
use Rattle.sets.specs.Matroid.{Set}
use Rattle.sets.specs.Bits.{marked, word_row}
use Rattle.sets.proofs.Masks.{bit, bit_above, bit_low, bit_or_lem, bit_shl, bit_shr, bit_zero}
use Rattle.sets.proofs.Stretches.{word_row_is}
use Rattle.sets.proofs.FiniteSets.{look_up}

-- a number of k bits none of which is set is 0
pub no_bits : (k v : ℕ) → v < 2 ^ k → ((j : ℕ) → j < k → bit v j ≡ false) → v ≡ 0
no_bits zero v l h = omega arith
no_bits (suc k) v l h =
    let z : v % 2 ≡ 0 = low v (h 0 (omega arith)) in
    let r : v / 2 ≡ 0 = no_bits k (v / 2) (omega arith) (λ j m. up v j (h (suc j) (omega arith))) in
    omega arith
  where
    low : (v : ℕ) → bit v 0 ≡ false → v % 2 ≡ 0
    low v e = grind arith

    up : (v j : ℕ) → bit v (suc j) ≡ false → bit (v / 2) j ≡ false
    up v j e = let q : 1 + j ≡ suc j = omega arith in bit_shr v 1 j ∙ rw q e

-- a number whose 64 bits are a set is 0 just where the set is empty: the test for 0, where it decides a fact
pub bits_answer : (v : ℕ) (s : Set) (ok : Bool) → v < 2 ^ 64 → ((g : ℕ) → g < 64 → bit v g ≡ s g) →
    ((g : ℕ) → g < 64 → s g ≡ true → ok ≡ false) → (((g : ℕ) → g < 64 → s g ≡ false) → ok ≡ true) → eqb v 0 ≡ ok
bits_answer v s ok l bits stop go =
    ⊎_elim
    (λ (w : (g : ℕ) × (g < 64) × (s g ≡ true)).
    ne_eqb v 0 (λ z. both_ways (bit v w.0) (rw z (bit_zero w.0)) (bits w.0 w.1 ∙ w.2)) ∙ sym (stop w.0 w.1 w.2))
    (λ (h : (g : ℕ) → g < 64 → s g ≡ false). eq-eqb v 0 (no_bits 64 v l (λ g k. bits g k ∙ h g k)) ∙ sym (go h))
    (look_up 64 s)

-- the low and the high half of a row of 64 bits are its two words
pub row_low : (xs : List ℕ) (at j : ℕ) → j < 32 → bit (get_or xs at 0) j ≡ word_row xs at j
row_low xs at j l =
    let p : at + j / 32 ≡ at = omega arith in
    let q : j % 32 ≡ j = omega arith in
    sym (rw (p, q) at (word_row_is xs at j))

pub row_high : (xs : List ℕ) (at j : ℕ) → j < 32 → bit (get_or xs (at + 1) 0) j ≡ word_row xs at (32 + j)
row_high xs at j l =
    let p : at + (32 + j) / 32 ≡ at + 1 = omega arith in
    let q : (32 + j) % 32 ≡ j = omega arith in
    sym (rw (p, q) at (word_row_is xs at (32 + j)))

-- two words, the second above the first, hold the 64 bits of their row
pub two_words : (xs : List ℕ) (at g : ℕ) → get_or xs at 0 < 2 ^ 32 → g < 64 →
    bit (bit_or (get_or xs at 0) (get_or xs (at + 1) 0 * 2 ^ 32 % 2 ^ 64)) g ≡ word_row xs at g
two_words xs at g l k =
    let u = get_or xs at 0 in
    let v = get_or xs (at + 1) 0 in
    bit_or_lem u (v * 2 ^ 32 % 2 ^ 64) g ∙ ap (λ b. bit u g || b) (bit_low (v * 2 ^ 32) 64 g ∙ ap₂ ◌&&◌ (lt-ltb g 64 k) (bit_shl v 32 g)) ∙
    ⊎_elim
    (λ (h : g < 32). first (bit u g) (leb 32 g) (bit v (g - 32)) (lt-leb 32 g h) ∙ row_low xs at g h)
    (λ (h : 32 ≤ g).
    let z : 32 + (g - 32) ≡ g = omega arith in
    let m : g - 32 < 32 = omega arith in
    second (bit u g) (leb 32 g) (bit v (g - 32)) (bit_above u 32 g l h) (le-leb 32 g h) ∙ rw z at (row_high xs at (g - 32) m))
    (cases_lt g 32)
  where
    first : (a b c : Bool) → b ≡ false → (a || (true && (b && c))) ≡ a
    first a b c e = grind arith

    second : (a b c : Bool) → a ≡ false → b ≡ true → (a || (true && (b && c))) ≡ c
    second a b c e f = grind arith

-- the row from word 0 on is the whole
pub head_row : (xs : List ℕ) (j : ℕ) → word_row xs 0 j ≡ marked xs j
head_row xs j = let p : 32 * 0 + j ≡ j = omega arith in ap (marked xs) p
