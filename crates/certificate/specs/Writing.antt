-- A certificate's bytes, written from the rows and the numbers of a choice. Assumes nothing: these are definitions.
use Rattle.std.specs.Prelude.{◌≡◌, ℕ, ◌+◌, ◌-◌, ◌*◌, ◌<◌, ◌≤◌, ◌&&◌, List, nat_lt, slice_index}
use Rattle.sets.specs.Bits.{row, row_bytes, le8}
use Rattle.certificate.specs.Layout.{row_at}

-- row i of the certificate holds the first n bits of row i of the sets, and no others
abbrev pub RowWritten : ℕ → List ℕ → List ℕ → ℕ → Type 0
RowWritten n sets sheet i = (j : ℕ) → j < 8 * row_bytes n → row sheet (row_at n i) j ≡ (nat_lt j n && row sets (i * row_bytes n) j)

-- behind row i, from the third on, stand two numbers of eight bytes for each offer
abbrev pub NumbersWritten : ℕ → List ℕ → List ℕ → ℕ → Type 0
NumbersWritten n numbers sheet i =
    (x : ℕ) → x < 2 * n → le8 sheet (row_at n i + row_bytes n + 8 * x) ≡ slice_index numbers (2 * ((i - 2) * n) + x)

-- the first rows of the certificate are written, with their numbers
pub record Written (n : ℕ) (sets numbers sheet : List ℕ) (rows : ℕ) : Type 0 where
  pub bits : (i : ℕ) → i < rows → RowWritten n sets sheet i
  pub parts : (i : ℕ) → 2 ≤ i → i < rows → NumbersWritten n numbers sheet i

-- all but the bytes from row i to the next is as it was
abbrev pub OnlyRow : ℕ → ℕ → List ℕ → List ℕ → Type 0
OnlyRow n i old new = (p : ℕ) → (p < row_at n i → slice_index new p ≡ slice_index old p) × (row_at n (i + 1) ≤ p → slice_index new p ≡ slice_index old p)
