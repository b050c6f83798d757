-- The theorems on rounds at the two small matroids on the elements 0, 1 and 2: not both of 0 and 1, and not both of 1 and 2.
-- Assumes nothing: facts whose proofs are owed by the functions that name them.
use Rattle.std.specs.Prelude.{◌≡◌, ℕ, ◌+◌, ◌≤◌, true, pos, ◌-ℤ◌}
use Rattle.sets.specs.Matroid.{Set, size, weight}
use Rattle.matroid.specs.Optimal.{Dual, Split, SignedSplit}
use Rattle.matroid.specs.Examples.{left, right, price, middle, outer}
use Rattle.exchange.specs.Round.{State, Labels}
use Rattle.exchange.specs.Paths.{along}
use Rattle.exchange.specs.Examples.{costs, steps, earlier, coming, going}
use Rattle.weighted.specs.Next.{raised, Next}

-- the round after 1 is chosen: 2 and 0 come, 1 goes, and 1 is gained
abbrev pub SmallRound : Type 0
SmallRound =
    Next 3 left right price (λ x. 0) 999995 middle (λ x. true) costs steps earlier 0 ×
    State 3 left right price (raised (λ x. true) (λ x. 0) costs 4) 999999 (along middle coming going 1)

-- the state of 1 splits the weights, and 1 is a heaviest choice of one element
abbrev pub SmallState : Type 0
SmallState =
    SignedSplit 3 left right price (λ x. pos 0) (λ x. pos (price x) -ℤ pos 0) middle ×
    ((t : Set) → left t ≡ true → right t ≡ true → size 3 t ≡ 1 → weight 3 price t ≤ 5)

-- there are labels for the state of 1, there is a state of two elements, some choice has a dual set,
-- and two elements gain no more over 1 than 1 over nothing
abbrev pub SmallExistence : Type 0
SmallExistence =
    ((reached : Set) × (d : ℕ → ℕ) × (k : ℕ → ℕ) × (back : ℕ → ℕ) × Labels 3 left right price (λ x. 0) middle reached d k back) ×
    ((a : ℕ → ℕ) × (loss : ℕ) × (s : Set) × State 3 left right price a loss s × (size 3 s ≡ 2)) ×
    ((s : Set) × (u : Set) × Dual 3 left right s u) ×
    (weight 3 price outer + 0 ≤ 5 + 5)

-- 1 has a weight splitting, its path gives two elements, and 0 and 2 with no path are a largest choice
abbrev pub SmallConverses : Type 0
SmallConverses =
    ((a : ℕ → ℕ) × (b : ℕ → ℕ) × Split 3 left right price a b middle) ×
    ((t : Set) × (left t ≡ true) × (right t ≡ true) × (size 3 t ≡ 2)) ×
    ((t : Set) → left t ≡ true → right t ≡ true → size 3 t ≤ 2)
