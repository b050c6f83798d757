-- A choice for every size: where it is written in the lent memory, and what it shows. Assumes nothing: these are definitions.
-- n is the number of offers, f and g the tests of the two rules, w the weights.
use Rattle.std.specs.Prelude.{◌≡◌, ℕ, zero, suc, ◌+◌, ◌-◌, ◌*◌, ◌<◌, ◌≤◌, Bool, true, cond, List, ℤ, Ok, Err, Result, nat_lt, slice_index}
use Rattle.std.specs.Int.{w64, cast_signed}
use Rattle.sets.specs.declared.refusal.Refusal.{Refusal}
use Rattle.sets.specs.declared.refusal.Refusal.TheVariants.{Short}
use Rattle.sets.specs.declared.refusal.Lent.TheVariants.{Sets, Numbers, Work}
use Rattle.matroid.specs.declared.problem.Problem.{Problem}
use Rattle.matroid.specs.Problem.{weight_of}
use Rattle.matroid.specs.Reading.{and_then, read}
use Rattle.matroid.specs.Rules.{allows, kept_length}
use Rattle.sets.specs.Bits.{row, row_bytes, row_words}
use Rattle.sets.specs.Matroid.{Set, size, weight}
use Rattle.matroid.specs.Optimal.{Dual, SignedSplit}

-- how many bytes of sets and how many numbers a choice takes
abbrev pub sets_length : ℕ → ℕ
sets_length n = (n + 2) * row_bytes n

abbrev pub numbers_length : ℕ → ℕ
numbers_length n = 2 * (n * n)

-- how many words of work memory a choice takes
abbrev pub work_length : ℕ → ℕ
work_length n = 5 * n + (n + 6) * row_words n + 2 * kept_length n

-- what is tried before anything is written: the file, then the lengths of the lent slices, in this order
abbrev pub admitted : List ℕ → ℕ → ℕ → ℕ → Result Problem Refusal
admitted file sets numbers work =
    and_then (read file) (λ problem.
    cond (nat_lt sets (sets_length problem.n)) (Err (Short Sets))
    (cond (nat_lt numbers (numbers_length problem.n)) (Err (Short Numbers))
    (cond (nat_lt work (work_length problem.n)) (Err (Short Work)) (Ok problem))))

-- the largest set, its dual set, and the set of size j + 1
abbrev pub largest_set : List ℕ → Set
largest_set sets = row sets 0

abbrev pub dual_set : ℕ → List ℕ → Set
dual_set n sets = row sets (row_bytes n)

abbrev pub sized_set : ℕ → List ℕ → ℕ → Set
sized_set n sets j = row sets ((j + 2) * row_bytes n)

-- the two parts of the weight of offer x at size j + 1, signed numbers of 64 bits
abbrev pub first_part : ℕ → List ℕ → ℕ → ℕ → ℤ
first_part n numbers j x = cast_signed w64 (slice_index numbers (2 * (j * n + x)))

abbrev pub second_part : ℕ → List ℕ → ℕ → ℕ → ℤ
second_part n numbers j x = cast_signed w64 (slice_index numbers (2 * (j * n + x) + 1))

-- what the set of a size weighs; the empty set weighs nothing
abbrev pub weight_of_size : ℕ → (ℕ → ℕ) → List ℕ → ℕ → ℕ
weight_of_size n w sets zero = 0
weight_of_size n w sets (suc j) = weight n w (sized_set n sets j)

-- the exchanges that a round asks of a set of k offers: each pair of one outside and one inside, of both rules
abbrev pub round_calls : ℕ → ℕ → ℕ
round_calls n k = 2 * k * (n - k)

-- those of all rounds, the last one too, which finds no path
abbrev pub all_calls : ℕ → ℕ → ℕ
all_calls n zero = round_calls n 0
all_calls n (suc k) = all_calls n k + round_calls n (suc k)

-- the set of size j + 1, with numbers that show that none of its size is heavier
pub record Sized (n : ℕ) (f g : Set → Bool) (w : ℕ → ℕ) (sets numbers : List ℕ) (j : ℕ) : Type 0 where
  pub sized : size n (sized_set n sets j) ≡ suc j
  pub split : SignedSplit n f g w (first_part n numbers j) (second_part n numbers j) (sized_set n sets j)
  pub heaviest : (t : Set) → f t ≡ true → g t ≡ true → size n t ≡ suc j → weight n w t ≤ weight n w (sized_set n sets j)

-- a largest set with its dual set, and a heaviest set for every size up to it
pub record Chosen (n : ℕ) (f g : Set → Bool) (w : ℕ → ℕ) (sets numbers : List ℕ) (count : ℕ) : Type 0 where
  pub counted : size n (largest_set sets) ≡ count
  pub dual : Dual n f g (largest_set sets) (dual_set n sets)
  pub largest : (t : Set) → f t ≡ true → g t ≡ true → size n t ≤ count
  pub each : (j : ℕ) → j < count → Sized n f g w sets numbers j
  pub gains : (j : ℕ) → suc j < count →
      weight_of_size n w sets (suc (suc j)) + weight_of_size n w sets j ≤ weight_of_size n w sets (suc j) + weight_of_size n w sets (suc j)

-- what choosing from a file gives: a choice for its two rules and weights, in as many rounds as the largest set has offers,
-- and behind what is written the lent numbers and sets are as they were
pub record Choice (file : List ℕ) (problem : Problem) (size rounds calls : ℕ) (sets numbers sets' numbers' : List ℕ) : Type 0 where
  pub chosen : Chosen problem.n (allows file problem.n problem.first) (allows file problem.n problem.second) (weight_of file) sets' numbers' size
  pub in_rounds : rounds ≡ size
  pub at_most_all : size ≤ problem.n
  pub counted : calls ≡ all_calls problem.n size
  pub few_calls : (k : ℕ) → k ≤ size → round_calls problem.n k ≤ problem.n * problem.n
  pub numbers_behind : (p : ℕ) → 2 * (size * problem.n) ≤ p → slice_index numbers' p ≡ slice_index numbers p
  pub sets_behind : (p : ℕ) → (size + 2) * row_bytes problem.n ≤ p → slice_index sets' p ≡ slice_index sets p
