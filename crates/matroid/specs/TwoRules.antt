-- The two rules of a problem, as they stand in its file.
use Rattle.std.specs.Prelude.{ℕ, Bool, List}
use Rattle.sets.specs.Matroid.{Set}
use Rattle.matroid.specs.declared.problem.Problem.{Problem}
use Rattle.matroid.specs.Rules.{allows, Well, Ready}

-- what each rule allows
abbrev pub by_first : List ℕ → Problem → Set → Bool
by_first file problem = allows file problem.n problem.first

abbrev pub by_second : List ℕ → Problem → Set → Bool
by_second file problem = allows file problem.n problem.second

-- both rules are well-formed
abbrev pub BothWell : List ℕ → Problem → Type 0
BothWell file problem = Well file problem.n problem.first × Well file problem.n problem.second

-- what is kept is right for the set s by the first rule, and for the set t by the second
pub record BothKept (file : List ℕ) (problem : Problem) (s t : Set) (first second : List ℕ) : Type 0 where
  pub by_first : Ready file problem.n problem.first s first
  pub by_second : Ready file problem.n problem.second t second
