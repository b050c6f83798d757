-- What a certificate has to show. Assumes nothing: these are definitions. n is the number of offers, f and g are the tests of
-- the two rules, w the weights.
use Rattle.std.specs.Prelude.{◌≡◌, ℕ, ◌+◌, ◌*◌, ◌<◌, ◌≤◌, Bool, List, length}
use Rattle.sets.specs.Bits.{row_words}
use Rattle.sets.specs.Matroid.{Set, size}
use Rattle.matroid.specs.Optimal.{Dual, SignedSplit}
use Rattle.matroid.specs.Rules.{Well, kept_length}
use Rattle.matroid.specs.declared.problem.Problem.{Problem}
use Rattle.certificate.specs.Layout.{row_at, largest_set, dual_set, sized_set, count, needed, first_part, second_part, Clean}

-- a certificate has the length that its largest set asks for and clean rows, a dual set for its largest set, and for each
-- size up to that of the largest set a set of that size with numbers that show that none is heavier
pub record Valid (n : ℕ) (f g : Set → Bool) (w : ℕ → ℕ) (sheet : List ℕ) : Type 0 where
  pub long : length sheet ≡ needed n sheet
  pub clean : (i : ℕ) → i < count n sheet + 2 → Clean n sheet (row_at n i)
  pub dual : Dual n f g (largest_set n sheet) (dual_set n sheet)
  pub sized : (k : ℕ) → 1 ≤ k → k ≤ count n sheet → size n (sized_set n sheet k) ≡ k
  pub split : (k : ℕ) → 1 ≤ k → k ≤ count n sheet →
      SignedSplit n f g w (first_part n sheet k) (second_part n sheet k) (sized_set n sheet k)

-- how many words of memory the check takes: two sets and two kept states
abbrev pub work_length : ℕ → ℕ
work_length n = 2 * row_words n + 2 * kept_length n

-- a problem of a file that can be asked: 1 to 600 offers with their weights, two well-formed rules
pub record Usable (file : List ℕ) (problem : Problem) : Type 0 where
  pub some : 1 ≤ problem.n
  pub few : problem.n ≤ 600
  pub weights : 2 + 4 * problem.n ≤ length file
  pub first : Well file problem.n problem.first
  pub second : Well file problem.n problem.second
