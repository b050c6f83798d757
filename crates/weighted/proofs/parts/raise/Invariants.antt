use Rattle.std.proofs.Common.{◌≡◌, ℕ, ◌<◌, ◌≤◌, get_or}
use Rattle.exchange.specs.Graph.{at}
use Rattle.sets.specs.Bits.{marked}
use Rattle.weighted.specs.Next.{raised}
use Rattle.weighted.proofs.parts.raise.Given as goal

abbrev pub invariant-loop-x : goal.invariant-loop-x
invariant-loop-x l =
    ((k : ℕ) → k < l.x → get_or l.potentials k 0 ≡ raised (marked l.labels.reached.now) (at l.initial.potentials) (at l.labels.costs.now) l.all k) ×
    ((k : ℕ) → l.x ≤ k → get_or l.potentials k 0 ≡ get_or l.initial.potentials k 0)
