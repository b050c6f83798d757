use Rattle.std.proofs.Common.{◌≡◌, ℕ, ◌+◌, ◌*◌, ◌<◌}
use Rattle.sets.proofs.bits.equal.Given as goal

abbrev pub invariant-loop-i : goal.invariant-loop-i
invariant-loop-i g l = (k : ℕ) → k < l.i → g.T.Cell.element l.a (g.T.Cell.BITS * l.at + k) ≡ g.T.Cell.element l.b (g.T.Cell.BITS * l.to + k)
