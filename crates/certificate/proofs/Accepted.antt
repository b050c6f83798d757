-- The check accepts what was written from a choice.
use Rattle.std.proofs.Common.{◌≡◌, ℕ, ◌+◌, ◌≤◌, List, length, take, Ok, Err, Result, sym, refl, ap, ◌∙◌, subst, MatchResult}
use Rattle.std.proofs.lemmas.List.{length-take-le, get_or-take}
use Rattle.sets.specs.declared.refusal.Refusal.{Refusal}
use Rattle.matroid.specs.Problem.{weight_of, Means}
use Rattle.matroid.specs.declared.problem.Problem.{Problem}
use Rattle.matroid.proofs.FileReading.{means_well}
use Rattle.matroid.proofs.RuleLaws.{rule_matroid}
use Rattle.weighted.specs.Choice.{all_calls, Chosen, Choice}
use Rattle.certificate.specs.Accepted.{Certified, Proven, FirstRefusal}
use Rattle.certificate.specs.Layout.{row_at, count}
use Rattle.matroid.specs.TwoRules.{by_first, by_second}
use Rattle.certificate.specs.Validity.{Valid, work_length}
use Rattle.certificate.specs.Writing.{Written}
use Rattle.certificate.proofs.Complete.{choices_are_valid}
use Rattle.certificate.proofs.RowsWritten.{written_along}

-- the bytes that were written, and no more, are a valid certificate with as many sizes as the choice
pub front_valid : (file : List ℕ) (problem : Problem) (size : ℕ) (sets numbers sheet : List ℕ) → Means file problem →
    Chosen problem.n (by_first file problem) (by_second file problem) (weight_of file) sets numbers size →
    Written problem.n sets numbers sheet (size + 2) → row_at problem.n (size + 2) ≤ length sheet →
    Valid problem.n (by_first file problem) (by_second file problem) (weight_of file) (take (row_at problem.n (size + 2)) sheet) ×
    (count problem.n (take (row_at problem.n (size + 2)) sheet) ≡ size)
front_valid file problem size sets numbers sheet m c v l =
    let n = problem.n in
    let end = row_at n (size + 2) in
    let w = means_well file problem m in
    choices_are_valid n (by_first file problem) (by_second file problem) (weight_of file) sets numbers (take end sheet) size
    (rule_matroid file n problem.first w.0) (rule_matroid file n problem.second w.1) c
    (written_along n sets numbers sheet (take end sheet) (size + 2) (λ p b. get_or-take end sheet p 0 b) v) (length-take-le end sheet l)

-- the check of a valid certificate answers with its number of sizes
pub accepts : (file front : List ℕ) (problem : Problem) (size words : ℕ) → Means file problem →
    Valid problem.n (by_first file problem) (by_second file problem) (weight_of file) front → count problem.n front ≡ size →
    work_length problem.n ≤ words → (r : Result ℕ Refusal) →
    MatchResult r (λ k. (other : Problem) × Certified file front words other × Proven file front other k)
    (λ e. FirstRefusal file front words e × ((other : Problem) → Certified file front words other → ⊥)) → r ≡ Ok size
accepts file front problem size words m v e l (Ok k) h =
    let other = h.0 in
    let o : other.n ≡ problem.n = h.1.0.number ∙ sym m.number in
    let a : count other.n front ≡ count problem.n front = ap (λ (z : ℕ). count z front) o in
    ap Ok (h.2.counted ∙ a ∙ e)
accepts file front problem size words m v e l (Err d) h = absurd (h.1 problem (m, v, l))

-- the check of the first bytes, which were written, answers so
pub front_accepted : (file : List ℕ) (problem : Problem) (size end words : ℕ) (sets numbers sheet : List ℕ) → Means file problem →
    Chosen problem.n (by_first file problem) (by_second file problem) (weight_of file) sets numbers size →
    Written problem.n sets numbers sheet (size + 2) → row_at problem.n (size + 2) ≤ length sheet → end ≡ row_at problem.n (size + 2) →
    work_length problem.n ≤ words → (r : Result ℕ Refusal) →
    MatchResult r (λ k. (other : Problem) × Certified file (take end sheet) words other × Proven file (take end sheet) other k)
    (λ e. FirstRefusal file (take end sheet) words e × ((other : Problem) → Certified file (take end sheet) words other → ⊥)) → r ≡ Ok size
front_accepted file problem size end words sets numbers sheet m c v l e o r h =
    let f = front_valid file problem size sets numbers sheet m c v l in
    let h' = subst
    (λ (z : ℕ).
    MatchResult r (λ k. (other : Problem) × Certified file (take z sheet) words other × Proven file (take z sheet) other k)
    (λ d. FirstRefusal file (take z sheet) words d × ((other : Problem) → Certified file (take z sheet) words other → ⊥))) e h in
    accepts file (take (row_at problem.n (size + 2)) sheet) problem size words m f.0 f.1 o r h'

-- a choice for the problem that the file means, by its rounds and calls
pub choice_of : (file : List ℕ) (problem other : Problem) (size rounds calls : ℕ) (sets numbers sets' numbers' : List ℕ) → other ≡ problem →
    Choice file other size rounds calls sets numbers sets' numbers' →
    Choice file problem size size (all_calls problem.n size) sets numbers sets' numbers'
choice_of file problem other size rounds calls sets numbers sets' numbers' e h =
    let c = subst (λ (p : Problem). Choice file p size rounds calls sets numbers sets' numbers') e h in
    record {
      chosen = c.chosen;
      in_rounds = refl;
      at_most_all = c.at_most_all;
      counted = refl;
      few_calls = c.few_calls;
      numbers_behind = c.numbers_behind;
      sets_behind = c.sets_behind;
    }
