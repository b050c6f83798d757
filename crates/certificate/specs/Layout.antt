-- Where the parts of a certificate stand in its bytes: a row of bits for the largest set, one for its dual set, and for each
-- size from 1 on a row for its set and two signed numbers of eight bytes for each offer. Assumes nothing: these are definitions.
use Rattle.std.specs.Prelude.{◌≡◌, ℕ, ◌+◌, ◌-◌, ◌*◌, ◌<◌, ◌≤◌, false, List, length, ℤ}
use Rattle.std.specs.Int.{w64, cast_signed}
use Rattle.sets.specs.Bits.{row, row_bytes, le8}
use Rattle.sets.specs.Matroid.{Set, size}

-- row i begins behind i rows and the numbers of i - 2 sizes
abbrev pub row_at : ℕ → ℕ → ℕ
row_at n i = i * row_bytes n + (i - 2) * (16 * n)

-- the largest set, its dual set, and the set of size k
abbrev pub largest_set : ℕ → List ℕ → Set
largest_set n sheet = row sheet (row_at n 0)

abbrev pub dual_set : ℕ → List ℕ → Set
dual_set n sheet = row sheet (row_at n 1)

abbrev pub sized_set : ℕ → List ℕ → ℕ → Set
sized_set n sheet k = row sheet (row_at n (k + 1))

-- how many offers the largest set has: the number of sizes
abbrev pub count : ℕ → List ℕ → ℕ
count n sheet = size n (largest_set n sheet)

-- how many bytes a certificate takes
abbrev pub needed : ℕ → List ℕ → ℕ
needed n sheet = row_at n (count n sheet + 2)

-- the number of offer x among numbers that begin at a byte, sixteen bytes apart: two's complement, the low byte first
unfoldable pub part : List ℕ → ℕ → ℕ → ℤ
part sheet at x = cast_signed w64 (le8 sheet (at + 16 * x))

-- where the numbers of size k begin
abbrev pub numbers_at : ℕ → ℕ → ℕ
numbers_at n k = row_at n (k + 1) + row_bytes n

-- the two parts of the weight of an offer at size k
abbrev pub first_part : ℕ → List ℕ → ℕ → ℕ → ℤ
first_part n sheet k = part sheet (numbers_at n k)

abbrev pub second_part : ℕ → List ℕ → ℕ → ℕ → ℤ
second_part n sheet k = part sheet (numbers_at n k + 8)

-- the row at a byte is whole, and has no bit from n on
pub record Clean (n : ℕ) (sheet : List ℕ) (at : ℕ) : Type 0 where
  pub whole : at + row_bytes n ≤ length sheet
  pub clear : (j : ℕ) → n ≤ j → j < 8 * row_bytes n → row sheet at j ≡ false
