use Rattle.std.proofs.Common.{◌≡◌, ℕ, ◌≤◌}
use Rattle.sets.specs.Bits.{marked}
use Rattle.sets.specs.Matroid.{outside}
use Rattle.exchange.specs.Graph.{at}
use Rattle.exchange.specs.Members.{members_of}
use Rattle.exchange.proofs.Leasts.{SoFar}
use Rattle.exchange.proofs.labelling.Labelling.nearest.Given as goal

abbrev pub invariant-loop-v : goal.invariant-loop-v
invariant-loop-v l =
    let among = outside (marked l.self.reached.now) (marked l.self.settled.now) in
    ((goal.iterator-loop-v).can_next l.v-iterator × (goal.iterator-loop-v).is_finite l.v-iterator)
    × (l.v-iterator.n ≡ l.n) × (l.v-iterator.from ≤ l.n) × ((i : ℕ) → members_of l.v-iterator i ≡ among i)
    × SoFar l.v-iterator.from among (at l.self.costs.now) (at l.self.steps.now) l.least
