-- What it means that a certificate is accepted for a file of offers, and which refusal comes first.
use Rattle.std.specs.Prelude.{◌≡◌, ℕ, ◌≤◌, true, ◌⊎◌, List}
use Rattle.sets.specs.Matroid.{Set, size, weight}
use Rattle.sets.specs.Refusals.{First}
use Rattle.sets.specs.declared.refusal.Refusal.{Refusal}
use Rattle.matroid.specs.Problem.{weight_of, Means}
use Rattle.matroid.specs.Reading as reading
use Rattle.matroid.specs.declared.problem.Problem.{Problem}
use Rattle.certificate.specs.Layout.{count, sized_set}
use Rattle.certificate.specs.Faults.{Fault, FirstFault}
use Rattle.matroid.specs.TwoRules.{by_first, by_second}
use Rattle.certificate.specs.Validity.{Valid, work_length}

-- the file means a problem, for which the certificate is valid, and the lent words are enough
abbrev pub Certified : List ℕ → List ℕ → ℕ → Problem → Type 0
Certified file sheet words problem =
    Means file problem × Valid problem.n (by_first file problem) (by_second file problem) (weight_of file) sheet × (work_length problem.n ≤ words)

-- what is proved by it: the largest set that both rules allow has k offers, and each size's set is a heaviest one of its size
pub record Proven (file sheet : List ℕ) (problem : Problem) (k : ℕ) : Type 0 where
  pub counted : k ≡ count problem.n sheet
  pub largest : (t : Set) → by_first file problem t ≡ true → by_second file problem t ≡ true → size problem.n t ≤ k
  pub sized : (j : ℕ) → 1 ≤ j → j ≤ k → size problem.n (sized_set problem.n sheet j) ≡ j
  pub first : (j : ℕ) → 1 ≤ j → j ≤ k → by_first file problem (sized_set problem.n sheet j) ≡ true
  pub second : (j : ℕ) → 1 ≤ j → j ≤ k → by_second file problem (sized_set problem.n sheet j) ≡ true
  pub heaviest : (j : ℕ) → 1 ≤ j → j ≤ k → (t : Set) → by_first file problem t ≡ true → by_second file problem t ≡ true → size problem.n t ≡ j →
      weight problem.n (weight_of file) t ≤ weight problem.n (weight_of file) (sized_set problem.n sheet j)

-- the first fault: of the file, or else of the certificate for the problem that the file means
abbrev pub FirstRefusal : List ℕ → List ℕ → ℕ → Refusal → Type 0
FirstRefusal file sheet words e =
    First (reading.Fault file) e ⊎
    ((problem : Problem) × Means file problem ×
    FirstFault (Fault problem.n (by_first file problem) (by_second file problem) (weight_of file) sheet words) e)
