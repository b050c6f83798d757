-- How a rule of volunteers stands in a file: two bytes for how many there are, then a row of bits for each.
use Rattle.std.specs.Prelude.{◌≡◌, ℕ, zero, suc, ◌+◌, ◌-◌, ◌*◌, ◌<◌, ◌≤◌, Bool, true, cond, List, length, Ok, Err, Result, nat_lt}
use Rattle.sets.specs.declared.refusal.Refusal.{Refusal}
use Rattle.sets.specs.declared.refusal.Refusal.TheVariants.{Length, Range}
use Rattle.sets.specs.declared.refusal.Source.TheVariants.{Offers}
use Rattle.sets.specs.Bits.{row, row_bytes, le2}
use Rattle.sets.specs.Refusals.{First}
use Rattle.transversal.specs.Volunteers.{can_tend, some, Well}

-- how many volunteers the rule at p says that it has
abbrev pub count : List ℕ → ℕ → ℕ
count file p = le2 file p

-- the place behind the rule at p
abbrev pub end : List ℕ → ℕ → ℕ → ℕ
end file n p = p + 2 + count file p * row_bytes n

-- what can be wrong with the rule at p: it is cut off, it has too many volunteers, or a row has a bit behind the last offer
pub data Fault (file : List ℕ) (n p : ℕ) : Refusal → Type 0 where
  short : length file < end file n p → Fault file n p (Length Offers (length file))
  many : p + 2 ≤ length file → 600 < count file p → Fault file n p (Range Offers p)
  stray_bit : (v i : ℕ) → v < count file p → p + 2 + v * row_bytes n + row_bytes n ≤ length file → n ≤ i → i < 8 * row_bytes n →
      can_tend file n (p + 2) v i ≡ true → Fault file n p (Range Offers (p + 2 + v * row_bytes n + row_bytes n - 1))

-- the row at `at` has a bit from n on
abbrev pub stray : List ℕ → ℕ → ℕ → Bool
stray file n at = some (8 * row_bytes n - n) (λ k. row file at (n + k))

-- reads `left` rows from `at` on, one after the other
abbrev pub read_rows : List ℕ → ℕ → ℕ → ℕ → ℕ → Result ℕ Refusal
read_rows file n volunteers zero at = Ok volunteers
read_rows file n volunteers (suc left) at =
    cond (nat_lt (length file) (at + row_bytes n)) (Err (Length Offers (length file)))
    (cond (stray file n at) (Err (Range Offers (at + row_bytes n - 1))) (read_rows file n volunteers left (at + row_bytes n)))

-- reads the rule at p, front to back: how many volunteers it has
abbrev pub read : List ℕ → ℕ → ℕ → Result ℕ Refusal
read file n p =
    cond (nat_lt (length file) (p + 2)) (Err (Length Offers (length file)))
    (cond (nat_lt 600 (count file p)) (Err (Range Offers p)) (read_rows file n (count file p) (count file p) (p + 2)))

-- a rule is read just where it is well formed
abbrev pub ReadsWell : Type 0
ReadsWell =
    (file : List ℕ) (n p volunteers : ℕ) →
    (read file n p ≡ Ok volunteers → (p + 2 ≤ length file) × (volunteers ≡ count file p) × Well file n volunteers (p + 2))
    × ((p + 2 ≤ length file) × (volunteers ≡ count file p) × Well file n volunteers (p + 2) → read file n p ≡ Ok volunteers)

-- a refusal is the first of all faults
abbrev pub RefusesFirst : Type 0
RefusesFirst = (file : List ℕ) (n p : ℕ) (e : Refusal) → read file n p ≡ Err e → First (Fault file n p) e
