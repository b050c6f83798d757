-- Rows side by side: what a write to one row leaves of the others, and a bit of a row in the row's own count.
use Rattle.std.proofs.Common.{◌≡◌, ℕ, ◌+◌, ◌*◌, ◌/◌, ◌<◌, ◌≤◌, Bool, not, ◌&&◌, ◌||◌, eqb, ◌⊎◌, List, ap, ◌∙◌, inl, inr, ⊎_elim, add-mul, arith}
use Rattle.std.proofs.lemmas.Bool.{cases_order}
use Rattle.std.proofs.lemmas.Nat.{mul-le}
use Rattle.sets.specs.Bits.{marked, word_row, SameBut}
use Rattle.sets.specs.Matroid.{with, without}
use Rattle.sets.proofs.Stretches.{marks_outside}

-- a shift of both leaves the test of two numbers
pub eqb_shift : (a i j : ℕ) → eqb (a + j) (a + i) ≡ eqb j i
eqb_shift a i j = grind arith

-- place k of row z is not in row y, where each row takes m places from `base` on
pub rows_apart : (base m y z k : ℕ) → k < m → (z ≡ y → ⊥) → (base + z * m + k < base + y * m) ⊎ (base + y * m + m ≤ base + z * m + k)
rows_apart base m y z k h ne =
    ⊎_elim
    (λ (e : z ≡ y). absurd (ne e))
    (⊎_elim
    (λ (l : z < y). let p = mul-le (z + 1) m y m (omega arith) (omega arith) in let q = add-mul z 1 m in inl (omega arith))
    (λ (l : y < z). let p = mul-le (y + 1) m z m (omega arith) (omega arith) in let q = add-mul y 1 m in inr (omega arith)))
    (cases_order z y)

-- a row of words after an element went in, or came out
pub row_with : (xs ys : List ℕ) (at i : ℕ) → ((j : ℕ) → marked ys j ≡ (marked xs j || eqb j (32 * at + i))) → (j : ℕ) → word_row ys at j ≡ with (word_row xs at) i j
row_with xs ys at i h j = h (32 * at + j) ∙ ap (λ (b : Bool). marked xs (32 * at + j) || b) (eqb_shift (32 * at) i j)

-- the same of an element that came out
pub row_without : (xs ys : List ℕ) (at i : ℕ) → ((j : ℕ) → marked ys j ≡ (marked xs j && not (eqb j (32 * at + i)))) → (j : ℕ) → word_row ys at j ≡ without (word_row xs at) i j
row_without xs ys at i h j = h (32 * at + j) ∙ ap (λ (b : Bool). marked xs (32 * at + j) && not b) (eqb_shift (32 * at) i j)

-- a row of words that shares no word with the stretch that was written is as it was
pub row_kept : (at m : ℕ) (xs ys : List ℕ) → SameBut at m xs ys → (other len : ℕ) → (other + len ≤ at) ⊎ (at + m ≤ other) → (j : ℕ) → j < 32 * len →
    word_row ys other j ≡ word_row xs other j
row_kept at m xs ys s other len o j h =
    marks_outside at m xs ys s (32 * other + j)
    (⊎_elim (λ (l : other + len ≤ at). inl (omega arith)) (λ (l : at + m ≤ other). inr (omega arith)) o)

-- another row of m words in a table of rows is as it was
pub table_row_kept : (base m y : ℕ) (xs ys : List ℕ) → SameBut (base + y * m) m xs ys → (z : ℕ) → (z ≡ y → ⊥) → (j : ℕ) → j < 32 * m →
    word_row ys (base + z * m) j ≡ word_row xs (base + z * m) j
table_row_kept base m y xs ys s z ne j h =
    let o = rows_apart base m y z (j / 32) (omega arith) ne in
    marks_outside (base + y * m) m xs ys s (32 * (base + z * m) + j)
    (⊎_elim
    (λ (l : base + z * m + j / 32 < base + y * m). inl (omega arith))
    (λ (l : base + y * m + m ≤ base + z * m + j / 32). inr (omega arith)) o)
