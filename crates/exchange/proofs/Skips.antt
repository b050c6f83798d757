-- Bits of one row that are not in another, word by word.
use Rattle.std.proofs.Common.{◌≡◌, ℕ, ◌+◌, ◌-◌, ◌*◌, ◌/◌, ◌%◌, ◌^◌, ◌<◌, ◌≤◌, Bool, false, not, ◌&&◌, eqb, List, get_or, sym, ap, ◌∙◌, ⊎_elim, arith}
use native.Mathlib.Nat.{zero-div}
use Rattle.std.proofs.lemmas.Bool.{cases_lt}
use lib.Bits.{bit_and}
use Rattle.sets.specs.Bits.{marked, word_row}
use Rattle.sets.specs.Matroid.{outside}
use Rattle.sets.proofs.Masks.{bit, bit_and_lem, bit_not, bit_shr}

-- the word with the bits of x that are not in y
abbrev pub without_word : ℕ → ℕ → ℕ
without_word x y = bit_and x (4294967295 - y)

-- its bits
word_bit : (x y k : ℕ) → y < 2 ^ 32 → k < 32 → bit (without_word x y) k ≡ (bit x k && not (bit y k))
word_bit x y k h l = bit_and_lem x (4294967295 - y) k ∙ ap (λ (b : Bool). bit x k && b) (bit_not 32 y k h l)

-- an element of the row and not of the other, by the words
pub outside_bit : (row other : List ℕ) (at j : ℕ) → get_or other (j / 32) 0 < 2 ^ 32 →
    outside (word_row row at) (marked other) j ≡ bit (without_word (get_or row (at + j / 32) 0) (get_or other (j / 32) 0)) (j % 32)
unfolding marked
outside_bit row other at j h =
    let p : (32 * at + j) / 32 ≡ at + j / 32 = omega arith in
    let q : (32 * at + j) % 32 ≡ j % 32 = omega arith in
    ap (λ (x : ℕ). bit (get_or row x 0) ((32 * at + j) % 32) && not (bit (get_or other (j / 32) 0) (j % 32))) p
    ∙ ap (λ (x : ℕ). bit (get_or row (at + j / 32) 0) x && not (bit (get_or other (j / 32) 0) (j % 32))) q
    ∙ sym (word_bit (get_or row (at + j / 32) 0) (get_or other (j / 32) 0) (j % 32) h (omega arith))

-- zero has no bit
zero_bit : (k : ℕ) → bit 0 k ≡ false
zero_bit k = ap (λ (x : ℕ). eqb (x % 2) 1) (zero-div (2 ^ k))

-- where nothing is left of a word, no element of the rest of it is one
pub rest_none : (row other : List ℕ) (at i j : ℕ) → get_or other (i / 32) 0 < 2 ^ 32 →
    without_word (get_or row (at + i / 32) 0) (get_or other (i / 32) 0) / 2 ^ (i % 32) ≡ 0 → i ≤ j → j < (i / 32 + 1) * 32 →
    outside (word_row row at) (marked other) j ≡ false
rest_none row other at i j h e p q =
    let s : j / 32 ≡ i / 32 = omega arith in
    let m : j % 32 ≡ i % 32 + (j - i) = omega arith in
    let v = without_word (get_or row (at + i / 32) 0) (get_or other (i / 32) 0) in
    let g : get_or other (j / 32) 0 < 2 ^ 32 = rw s h in
    outside_bit row other at j g
    ∙ ap (λ (x : ℕ). bit (without_word (get_or row (at + x) 0) (get_or other x 0)) (j % 32)) s
    ∙ ap (λ (x : ℕ). bit v x) m ∙ sym (bit_shr v (i % 32) (j - i)) ∙ ap (λ (x : ℕ). bit x (j - i)) e ∙ zero_bit (j - i)

-- one element more that is none
pub skip_more : (P : ℕ → Bool) (from i k : ℕ) → ((j : ℕ) → from ≤ j → j < i → P j ≡ false) → ((j : ℕ) → i ≤ j → j < k → P j ≡ false) →
    (j : ℕ) → from ≤ j → j < k → P j ≡ false
skip_more P from i k h g j p q = ⊎_elim (λ (l : j < i). h j p l) (λ (l : i ≤ j). g j l q) (cases_lt j i)

-- the first bit of the rest tells of the element itself
pub rest_tells : (row other : List ℕ) (at i : ℕ) (b : Bool) → get_or other (i / 32) 0 < 2 ^ 32 →
    eqb (without_word (get_or row (at + i / 32) 0) (get_or other (i / 32) 0) / 2 ^ (i % 32) % 2) 1 ≡ b →
    outside (word_row row at) (marked other) i ≡ b
rest_tells row other at i b h e = outside_bit row other at i h ∙ e

-- from i to i + 1 there is only i
pub only_itself : (P : ℕ → Bool) (i : ℕ) → P i ≡ false → (j : ℕ) → i ≤ j → j < i + 1 → P j ≡ false
only_itself P i h j p q = let e : j ≡ i = omega arith in ap P e ∙ h
