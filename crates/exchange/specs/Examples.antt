-- The theorems on paths at the two small matroids on the elements 0, 1 and 2: not both of 0 and 1, and not both of 1 and 2.
-- Assumes nothing: definitions, and facts whose proofs are owed by the functions that name them.
use Rattle.std.specs.Prelude.{◌≡◌, ℕ, zero, suc, Bool, true, false, not, ◌&&◌}
use Rattle.sets.specs.Matroid.{Set, none, Matroid}
use Rattle.matroid.specs.Optimal.{Dual, Split}
use Rattle.matroid.specs.Examples.{left, right, price, middle, outer}
use Rattle.exchange.specs.Round.{State, Labels, End, Closed}
use Rattle.exchange.specs.Paths.{Augmenting, Distinct, BestPath, NoMore, Augmented, along, Leading}
use Rattle.exchange.specs.Predecessors.{Predecessors}

-- where 1 is chosen, 2 can be added by the first, 1 can go for it, and 0 can come for 1: costs 0, 1 and 1, steps 1, 2 and 3
abbrev pub costs : ℕ → ℕ
costs zero = 1
costs (suc zero) = 1
costs (suc (suc x)) = 0

abbrev pub steps : ℕ → ℕ
steps zero = 3
steps (suc zero) = 2
steps (suc (suc x)) = 1

abbrev pub earlier : ℕ → ℕ
earlier zero = 1
earlier (suc zero) = 2
earlier (suc (suc x)) = 2

-- a state, complete labels and their end, with the path that they give
abbrev pub SmallLabelled : Type 0
SmallLabelled =
    State 3 left right price (λ x. 0) 999995 middle × Labels 3 left right price (λ x. 0) middle (λ x. true) costs steps earlier ×
    End 3 right price (λ x. 0) middle (λ x. true) costs steps 0 × Predecessors 3 left right price (λ x. 0) middle costs steps earlier 0 1

-- 2 comes, 1 goes, 0 comes
abbrev pub coming : ℕ → ℕ
coming zero = 2
coming (suc i) = 0

abbrev pub going : ℕ → ℕ
going i = 1

-- a best path, and that it leads to a set that both allow and is best among all
abbrev pub SmallPath : Type 0
SmallPath =
    BestPath 3 left right price middle 1 coming going × Augmented 3 left right price middle 1 coming going ×
    ((l : ℕ) (u v : ℕ → ℕ) → Augmenting 3 left right middle l u v → NoMore price l u v 1 coming going)

-- where 0 and 2 are chosen there is no path: nothing leads to a sink, and so the empty set is a dual set
abbrev pub SmallDual : Type 0
SmallDual =
    ((k : ℕ) (x y : ℕ → ℕ) → Augmenting 3 left right outer k x y → ⊥) × Leading 3 left right outer none ×
    Closed 3 left right outer none × Dual 3 left right outer none

-- a third test: not both of 0 and 2
abbrev pub ends : Set → Bool
ends s = not (s 0 && s 2)

-- 0 comes, 1 goes, 2 comes
abbrev pub rising : ℕ → ℕ
rising zero = 0
rising (suc i) = 2

-- the fewest steps are needed: a path of most weight, from a set with a weight splitting, that leads to a refused set
abbrev pub FewestNeeded : Type 0
FewestNeeded =
    Matroid 3 ends × Matroid 3 left × Split 3 ends left (λ x. 0) (λ x. 0) (λ x. 0) middle × Augmenting 3 ends left middle 1 rising going ×
    Distinct 1 rising going ×
    ((l : ℕ) (u v : ℕ → ℕ) → Augmenting 3 ends left middle l u v → Distinct l u v → NoMore (λ x. 0) l u v 1 rising going) ×
    (ends (along middle rising going 1) ≡ false)

-- the splitting is needed: with the weights 2, 1 and 0 the same path is a best one
abbrev pub falling : ℕ → ℕ
falling zero = 2
falling (suc zero) = 1
falling (suc (suc x)) = 0

abbrev pub SplittingNeeded : Type 0
SplittingNeeded =
    Matroid 3 ends × Matroid 3 left × BestPath 3 ends left falling middle 1 rising going × (ends (along middle rising going 1) ≡ false)
