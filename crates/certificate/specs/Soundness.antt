-- What an accepted certificate shows. Assumes nothing: statements whose proofs are owed by the functions that name them.
use Rattle.std.specs.Prelude.{◌≡◌, ℕ, ◌≤◌, Bool, true, List}
use Rattle.sets.specs.Matroid.{Set, size, weight, Matroid}
use Rattle.sets.specs.declared.refusal.Refusal.{Refusal}
use Rattle.certificate.specs.Layout.{largest_set, sized_set, count}
use Rattle.certificate.specs.Faults.{Stage, Fault, FirstFault}
use Rattle.certificate.specs.Validity.{Valid, work_length}

-- the largest set is one that both rules allow, and none that both allow is larger
abbrev pub ShowsLargest : Type 0
ShowsLargest =
    (n : ℕ) (f g : Set → Bool) (w : ℕ → ℕ) (sheet : List ℕ) → Matroid n f → Matroid n g → Valid n f g w sheet →
    (f (largest_set n sheet) ≡ true) × (g (largest_set n sheet) ≡ true) ×
    ((t : Set) → f t ≡ true → g t ≡ true → size n t ≤ size n (largest_set n sheet))

-- the set of each size has that size, both rules allow it, and none of that size that both allow is heavier
abbrev pub ShowsHeaviest : Type 0
ShowsHeaviest =
    (n : ℕ) (f g : Set → Bool) (w : ℕ → ℕ) (sheet : List ℕ) (k : ℕ) → Matroid n f → Matroid n g → Valid n f g w sheet → 1 ≤ k → k ≤ count n sheet →
    (size n (sized_set n sheet k) ≡ k) × (f (sized_set n sheet k) ≡ true) × (g (sized_set n sheet k) ≡ true) ×
    ((t : Set) → f t ≡ true → g t ≡ true → size n t ≡ k → weight n w t ≤ weight n w (sized_set n sheet k))

-- a valid certificate has no fault, with enough memory; and what has no fault is valid, with enough memory
abbrev pub FaultlessIsValid : Type 0
FaultlessIsValid =
    (n : ℕ) (f g : Set → Bool) (w : ℕ → ℕ) (sheet : List ℕ) (words : ℕ) →
    (Valid n f g w sheet → work_length n ≤ words → (b : Stage) (p : ℕ) (e : Refusal) → Fault n f g w sheet words b p e → ⊥) ×
    (((b : Stage) (p : ℕ) (e : Refusal) → Fault n f g w sheet words b p e → ⊥) → Valid n f g w sheet × (work_length n ≤ words))

-- there is one first fault: two refusals that are both the first are the same
abbrev pub OneFirstFault : Type 0
OneFirstFault =
    (n : ℕ) (f g : Set → Bool) (w : ℕ → ℕ) (sheet : List ℕ) (words : ℕ) (d e : Refusal) → 1 ≤ n →
    FirstFault (Fault n f g w sheet words) d → FirstFault (Fault n f g w sheet words) e → d ≡ e
