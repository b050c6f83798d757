-- Reading a rule of rows, in the order of its bytes, and all that can be wrong with one.
use Rattle.std.specs.Prelude.{◌≡◌, ℕ, zero, suc, ◌+◌, ◌*◌, ◌%◌, ◌<◌, ◌≤◌, Bool, cond, not, ◌&&◌, List, length, Ok, Err, Result, ◌==◌, nat_le, nat_lt, slice_index}
use Rattle.sets.specs.declared.refusal.Refusal.{Refusal}
use Rattle.sets.specs.declared.refusal.Refusal.TheVariants.{Length, Row}
use Rattle.sets.specs.declared.refusal.Source.TheVariants.{Offers}
use Rattle.sets.specs.Refusals.{First}
use Rattle.linear.specs.declared.Shape.{Shape}
use Rattle.linear.specs.Rows.{some, Prime, Well}

-- some number between 1 and p divides p
abbrev pub divisible : ℕ → Bool
divisible p = some p (λ d. nat_lt 1 d && p % d == 0)

-- a prime from 2 to 251, by trying every divisor
abbrev pub small_prime : ℕ → Bool
small_prime p = nat_lt 1 p && nat_le p 251 && not (divisible p)

-- a length from 1 to 64
abbrev pub good_length : ℕ → Bool
good_length l = nat_lt 0 l && nat_le l 64

-- the numbers of rows in order, `left` of them from the place `at` on: each is there, and below the prime
abbrev pub read_numbers : List ℕ → Shape → ℕ → ℕ → Result Shape Refusal
read_numbers file shape zero at = Ok shape
read_numbers file shape (suc left) at =
    cond (nat_le (length file) at) (Err (Length Offers (length file)))
    (cond (nat_le shape.prime (slice_index file at)) (Err (Row at)) (read_numbers file shape left (at + 1)))

-- the prime and the length that stand at p
abbrev pub shape_at : List ℕ → ℕ → Shape
shape_at file p = record { prime = slice_index file p; len = slice_index file (p + 1) }

-- a rule at the place p: the prime, the length, and then the numbers of the n rows
abbrev pub read : List ℕ → ℕ → ℕ → Result Shape Refusal
read file n p =
    cond (nat_le (length file) p) (Err (Length Offers (length file)))
    (cond (not (small_prime (slice_index file p))) (Err (Row p))
    (cond (nat_le (length file) (p + 1)) (Err (Length Offers (length file)))
    (cond (not (good_length (slice_index file (p + 1)))) (Err (Row (p + 1)))
    (read_numbers file (shape_at file p) (n * slice_index file (p + 1)) (p + 2)))))

-- the place behind the rule
abbrev pub end : List ℕ → ℕ → ℕ → ℕ
end file n p = p + 2 + n * slice_index file (p + 1)

-- all that can be wrong with a rule at p: it ends early, its prime is none up to 251, its length is not from 1 to 64,
-- or the k-th number of its rows is not below the prime
pub data Fault (file : List ℕ) (n p : ℕ) : Refusal → Type 0 where
  short : length file < end file n p → Fault file n p (Length Offers (length file))
  no_prime : p < length file → ((Prime (slice_index file p) × (slice_index file p ≤ 251)) → ⊥) → Fault file n p (Row p)
  bad_length : p + 1 < length file → ((1 ≤ slice_index file (p + 1)) × (slice_index file (p + 1) ≤ 64) → ⊥) → Fault file n p (Row (p + 1))
  too_large : (k : ℕ) → k < n * slice_index file (p + 1) → p + 2 + k < length file → slice_index file p ≤ slice_index file (p + 2 + k) →
      Fault file n p (Row (p + 2 + k))

-- a rule is read exactly if it stands in the file as it should, with the prime and the length in front of its rows
abbrev pub ReadsWell : Type 0
ReadsWell =
    (file : List ℕ) (n p : ℕ) (shape : Shape) →
    (read file n p ≡ Ok shape → (p + 2 ≤ length file) × (shape ≡ shape_at file p) × Well file n shape.prime shape.len (p + 2))
    × ((p + 2 ≤ length file) × (shape ≡ shape_at file p) × Well file n shape.prime shape.len (p + 2) → read file n p ≡ Ok shape)

-- a refusal is the first of all faults
abbrev pub RefusesFirst : Type 0
RefusesFirst = (file : List ℕ) (n p : ℕ) (e : Refusal) → read file n p ≡ Err e → First (Fault file n p) e
