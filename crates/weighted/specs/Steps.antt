-- What holds of every state of a round. Assumes nothing: statements whose proofs are owed by the functions that name them.
use Rattle.std.specs.Prelude.{◌≡◌, ℕ, suc, ◌+◌, ◌-◌, ◌<◌, ◌≤◌, Bool, true, ◌⊎◌, pos, ◌-ℤ◌}
use Rattle.sets.specs.Matroid.{Set, size, weight, Matroid}
use Rattle.matroid.specs.Optimal.{Dual, SignedSplit}
use Rattle.exchange.specs.Round.{top, State, Labels, End, lost}
use Rattle.exchange.specs.Paths.{BestPath, along}
use Rattle.weighted.specs.Next.{raised}

-- a state holds a weight splitting: its potentials, and what they leave of the weights
abbrev pub StateSplits : Type 0
StateSplits =
    (n : ℕ) (f g : Set → Bool) (w a : ℕ → ℕ) (loss : ℕ) (s : Set) → Matroid n f → Matroid n g → State n f g w a loss s →
    SignedSplit n f g w (λ x. pos (a x)) (λ x. pos (w x) -ℤ pos (a x)) s

-- .. so its set is a heaviest one of its size
abbrev pub StateHeaviest : Type 0
StateHeaviest =
    (n : ℕ) (f g : Set → Bool) (w a : ℕ → ℕ) (loss : ℕ) (s t : Set) → Matroid n f → Matroid n g → State n f g w a loss s →
    f t ≡ true → g t ≡ true → size n t ≡ size n s → weight n w t ≤ weight n w s

-- whichever best path is taken, the labels' potentials are those of the set that it leads to
abbrev pub BestNext : Type 0
BestNext =
    (n : ℕ) (f g : Set → Bool) (w a : ℕ → ℕ) (loss : ℕ) (s reached : Set) (d k back : ℕ → ℕ) (t l : ℕ) (u v : ℕ → ℕ) →
    Matroid n f → Matroid n g → ((x : ℕ) → x < n → w x ≤ top) → State n f g w a loss s →
    Labels n f g w a s reached d k back → End n g w a s reached d k t → BestPath n f g w s l u v →
    State n f g w (raised reached a d (lost w a d t - loss)) (lost w a d t) (along s u v l)

-- every state has complete labels
abbrev pub LabelsExist : Type 0
LabelsExist =
    (n : ℕ) (f g : Set → Bool) (w a : ℕ → ℕ) (loss : ℕ) (s : Set) → State n f g w a loss s →
    (reached : Set) × (d : ℕ → ℕ) × (k : ℕ → ℕ) × (back : ℕ → ℕ) × Labels n f g w a s reached d k back

-- a state has a next one, of one element more, or a dual set
abbrev pub NextOrDual : Type 0
NextOrDual =
    (n : ℕ) (f g : Set → Bool) (w a : ℕ → ℕ) (loss : ℕ) (s : Set) → Matroid n f → Matroid n g → ((x : ℕ) → x < n → w x ≤ top) →
    State n f g w a loss s →
    ((b : ℕ → ℕ) × (more : ℕ) × (r : Set) × State n f g w b more r × (size n r ≡ suc (size n s)) × (loss ≤ more) ×
    (weight n w r + more ≡ weight n w s + top)) ⊎
    ((u : Set) × Dual n f g s u)

-- there is a state of every size up to the largest
abbrev pub StatesExist : Type 0
StatesExist =
    (n : ℕ) (f g : Set → Bool) (w : ℕ → ℕ) (t : Set) → Matroid n f → Matroid n g → ((x : ℕ) → x < n → w x ≤ top) →
    f t ≡ true → g t ≡ true → (size_of : ℕ) → size_of ≤ size n t →
    (a : ℕ → ℕ) × (loss : ℕ) × (s : Set) × State n f g w a loss s × (size n s ≡ size_of)

-- any two matroids have a set that both allow with a dual set, which is a largest one
abbrev pub DualExists : Type 0
DualExists = (n : ℕ) (f g : Set → Bool) → Matroid n f → Matroid n g → (s : Set) × (u : Set) × Dual n f g s u

-- from one size to the next a heaviest set gains no more than from the size before
abbrev pub HeaviestGainsNeverRise : Type 0
HeaviestGainsNeverRise =
    (n : ℕ) (f g : Set → Bool) (w : ℕ → ℕ) (r s t : Set) → Matroid n f → Matroid n g → ((x : ℕ) → x < n → w x ≤ top) →
    f r ≡ true → g r ≡ true → f s ≡ true → g s ≡ true → f t ≡ true → g t ≡ true → size n t ≡ suc (size n s) → size n s ≡ suc (size n r) →
    ((q : Set) → f q ≡ true → g q ≡ true → size n q ≡ size n s → weight n w q ≤ weight n w s) →
    weight n w t + weight n w r ≤ weight n w s + weight n w s
