-- What a largest and a heaviest set must have. Assumes nothing: statements whose proofs are owed by the functions that name them.
use Rattle.std.specs.Prelude.{◌≡◌, ℕ, suc, ◌<◌, ◌≤◌, Bool, true}
use Rattle.sets.specs.Matroid.{Set, size, weight, Matroid}
use Rattle.matroid.specs.Optimal.{Split}
use Rattle.exchange.specs.Round.{top}
use Rattle.exchange.specs.Paths.{Augmenting}

-- a heaviest set of its size has a weight splitting
abbrev pub HeaviestSplits : Type 0
HeaviestSplits =
    (n : ℕ) (f g : Set → Bool) (w : ℕ → ℕ) (s : Set) → Matroid n f → Matroid n g → ((x : ℕ) → x < n → w x ≤ top) →
    f s ≡ true → g s ≡ true →
    ((t : Set) → f t ≡ true → g t ≡ true → size n t ≡ size n s → weight n w t ≤ weight n w s) →
    (a : ℕ → ℕ) × (b : ℕ → ℕ) × Split n f g w a b s

-- where there is an augmenting path, even one that repeats elements, both allow some set of one element more
abbrev pub PathsAugment : Type 0
PathsAugment =
    (n : ℕ) (f g : Set → Bool) (s : Set) (k : ℕ) (x y : ℕ → ℕ) → Matroid n f → Matroid n g → f s ≡ true → g s ≡ true →
    Augmenting n f g s k x y → (t : Set) × (f t ≡ true) × (g t ≡ true) × (size n t ≡ suc (size n s))

-- where there is none, the set is a largest one that both allow
abbrev pub NoPathLargest : Type 0
NoPathLargest =
    (n : ℕ) (f g : Set → Bool) (s t : Set) → Matroid n f → Matroid n g → f s ≡ true → g s ≡ true →
    ((k : ℕ) (x y : ℕ → ℕ) → Augmenting n f g s k x y → ⊥) → f t ≡ true → g t ≡ true → size n t ≤ size n s
