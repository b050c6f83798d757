use Rattle.std.proofs.Common.{◌≡◌, ◌+◌, ◌*◌, ◌≤◌}
use Rattle.sets.specs.Matroid.{size}
use Rattle.sets.proofs.bits.count.Given as goal

abbrev pub invariant-loop-i : goal.invariant-loop-i
invariant-loop-i g l = (l.total ≡ size l.i (λ i. g.T.Cell.element l.set (g.T.Cell.BITS * l.at + i))) × (l.total ≤ l.i)
