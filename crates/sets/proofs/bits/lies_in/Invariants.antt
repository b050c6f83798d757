use Rattle.std.proofs.Common.{◌+◌, ◌*◌}
use Rattle.sets.specs.Matroid.{Within}
use Rattle.sets.proofs.bits.lies_in.Given as goal

abbrev pub invariant-loop-i : goal.invariant-loop-i
invariant-loop-i g l =
    Within l.i (λ i. g.T.Cell.element l.a (g.T.Cell.BITS * l.at + i)) (λ i. g.T.Cell.element l.b (g.T.Cell.BITS * l.to + i))
