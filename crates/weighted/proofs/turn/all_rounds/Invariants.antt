use Rattle.std.proofs.Common.{◌≡◌, ℕ, suc, ◌+◌, ◌-◌, ◌*◌, ◌≤◌, get_or}
use Rattle.sets.specs.Bits.{marked, row_bytes}
use Rattle.exchange.specs.Graph.{at}
use Rattle.matroid.specs.TwoRules.{by_first, by_second}
use Rattle.exchange.specs.Memory.{SpaceFits}
use Rattle.weighted.specs.Choice.{round_calls, all_calls}
use Rattle.weighted.proofs.Progress.{Progress}
use Rattle.weighted.proofs.turn.all_rounds.Given as goal

abbrev pub invariant-loop-risen : goal.invariant-loop-risen
invariant-loop-risen l =
    Progress l.offers.problem.n (by_first l.offers.file.now l.offers.problem) (by_second l.offers.file.now l.offers.problem) (at l.weights) (at l.potentials) l.loss (marked l.set) l.sets l.numbers l.size ×
    (l.calls + round_calls l.offers.problem.n l.size ≡ all_calls l.offers.problem.n l.size) ×
    (l.calls ≤ l.size * 720000) ×
    ((p : ℕ) → 2 * (l.size * l.offers.problem.n) ≤ p → get_or l.numbers p 0 ≡ get_or l.initial.numbers p 0) ×
    ((p : ℕ) → (l.size + 2) * row_bytes l.offers.problem.n ≤ p → get_or l.sets p 0 ≡ get_or l.initial.sets p 0) ×
    SpaceFits l.offers.problem.n l.space

abbrev pub decreases-loop-risen : goal.decreases-loop-risen
decreases-loop-risen l = suc l.offers.problem.n - l.size
