-- From size to size the weights gained never rise. Assumes nothing: statements whose proofs are owed by the functions
-- that name them.
use Rattle.std.specs.Prelude.{◌≡◌, ℕ, suc, ◌+◌, ◌≤◌, Bool, true, ℤ}
use Rattle.sets.specs.Matroid.{Set, size, weight, Matroid}
use Rattle.matroid.specs.Optimal.{Best, Split, SignedSplit}

-- one matroid: a best set s, a set t of one more and a set r of one less: from s to t is gained no more than from r to s
abbrev pub GainsByOne : Type 0
GainsByOne =
    (n : ℕ) (f : Set → Bool) (a : ℕ → ℕ) (r s t : Set) → Matroid n f → f r ≡ true → f s ≡ true → f t ≡ true →
    Best n f a s → size n t ≡ suc (size n s) → size n s ≡ suc (size n r) →
    weight n a t + weight n a r ≤ weight n a s + weight n a s

-- two matroids: a set s with a weight splitting, and any sets of one more and of one less that both allow
abbrev pub GainsNeverRise : Type 0
GainsNeverRise =
    (n : ℕ) (f g : Set → Bool) (w a b : ℕ → ℕ) (r s t : Set) → Matroid n f → Matroid n g → Split n f g w a b s →
    f r ≡ true → g r ≡ true → f t ≡ true → g t ≡ true → size n t ≡ suc (size n s) → size n s ≡ suc (size n r) →
    weight n w t + weight n w r ≤ weight n w s + weight n w s

-- the same for numbers of either sign that add up to the weights
abbrev pub GainsNeverRiseSigned : Type 0
GainsNeverRiseSigned =
    (n : ℕ) (f g : Set → Bool) (w : ℕ → ℕ) (p q : ℕ → ℤ) (r s t : Set) → Matroid n f → Matroid n g → SignedSplit n f g w p q s →
    f r ≡ true → g r ≡ true → f t ≡ true → g t ≡ true → size n t ≡ suc (size n s) → size n s ≡ suc (size n r) →
    weight n w t + weight n w r ≤ weight n w s + weight n w s
