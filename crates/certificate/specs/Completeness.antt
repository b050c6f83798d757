-- Every certificate that is written from a choice is valid. Assumes nothing: definitions, and a statement whose proof is owed
-- by the function that names it.
use Rattle.std.specs.Prelude.{◌≡◌, ℕ, ◌+◌, ◌≤◌, Bool, cond, List, length, take, Err, Result, nat_lt, slice_index}
use Rattle.sets.specs.Matroid.{Set, Matroid}
use Rattle.sets.specs.declared.refusal.Refusal.{Refusal}
use Rattle.sets.specs.declared.refusal.Refusal.TheVariants.{Short}
use Rattle.sets.specs.declared.refusal.Lent.TheVariants.{Sets}
use Rattle.matroid.specs.Problem.{weight_of}
use Rattle.matroid.specs.Reading.{and_then, read}
use Rattle.matroid.specs.declared.problem.Problem.{Problem}
use Rattle.weighted.specs.Choice.{all_calls, admitted, Chosen, Choice}
use Rattle.certificate.specs.Layout.{row_at, count}
use Rattle.matroid.specs.TwoRules.{by_first, by_second}
use Rattle.certificate.specs.Validity.{Valid}
use Rattle.certificate.specs.Writing.{Written}

-- what is written from a choice, and no more, is a valid certificate with as many sizes as the choice has
abbrev pub ChoicesAreValid : Type 0
ChoicesAreValid =
    (n : ℕ) (f g : Set → Bool) (w : ℕ → ℕ) (sets numbers sheet : List ℕ) (size : ℕ) → Matroid n f → Matroid n g →
    Chosen n f g w sets numbers size → Written n sets numbers sheet (size + 2) → length sheet ≡ row_at n (size + 2) →
    Valid n f g w sheet × (count n sheet ≡ size)

-- how many bytes the certificate of n offers takes at most
abbrev pub longest : ℕ → ℕ
longest n = row_at n (n + 2)

-- what is tried before anything is written: the file, the length of the lent certificate, and what choosing tries
abbrev pub all_admitted : List ℕ → ℕ → ℕ → ℕ → ℕ → Result Problem Refusal
all_admitted file sets numbers sheet work =
    and_then (read file) (λ problem. cond (nat_lt sheet (longest problem.n)) (Err (Short Sets)) (admitted file sets numbers work))

-- a choice from a file, whose certificate is written to the front of the lent bytes and is valid
pub record Checked (file : List ℕ) (problem : Problem) (size : ℕ) (sets numbers sheet sets' numbers' sheet' : List ℕ) : Type 0 where
  pub choice : Choice file problem size size (all_calls problem.n size) sets numbers sets' numbers'
  pub written : Written problem.n sets' numbers' sheet' (size + 2)
  pub behind : (p : ℕ) → row_at problem.n (size + 2) ≤ p → slice_index sheet' p ≡ slice_index sheet p
  pub valid : Valid problem.n (by_first file problem) (by_second file problem) (weight_of file) (take (row_at problem.n (size + 2)) sheet')
