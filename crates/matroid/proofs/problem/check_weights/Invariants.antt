use Rattle.std.proofs.Common.{◌≡◌, ◌+◌, ◌-◌, ◌*◌, ◌≤◌, length}
use Rattle.matroid.specs.Reading.{read_weights}
use Rattle.matroid.proofs.problem.check_weights.Given as goal

abbrev pub invariant-loop-i : goal.invariant-loop-i
invariant-loop-i l = (2 + 4 * l.i ≤ length l.file) × (read_weights l.file (l.n - l.i) (2 + 4 * l.i) ≡ read_weights l.file l.n 2)
