use Rattle.std.proofs.Common.{◌-◌}
use Rattle.sets.specs.Bits.{marked}
use Rattle.sets.specs.Matroid.{size}
use Rattle.exchange.specs.Graph.{at, SmallLabels}
use Rattle.exchange.specs.Labelling.{arcs_of, costs_of, SameMemory}
use Rattle.exchange.proofs.Settling.{Going}
use Rattle.exchange.proofs.labelling.Labelling.spread.Given as goal

abbrev pub invariant-loop-v : goal.invariant-loop-v
invariant-loop-v l = record {
  memory : SameMemory l.initial.self l.self;
  going : Going l.graph.n (arcs_of l.graph)
      (costs_of l.graph) (marked l.sources)
      (marked l.self.settled.now) (marked l.self.reached.now) (at l.self.costs.now) (at l.self.steps.now) (at l.self.back.now);
  small : SmallLabels l.graph.n (at l.graph.prices.weights.now) (at l.graph.prices.potentials.now) (marked l.self.reached.now)
      (at l.self.costs.now) (at l.self.steps.now) (size l.graph.n (marked l.self.settled.now));
}

abbrev pub decreases-loop-v : goal.decreases-loop-v
decreases-loop-v l = l.graph.n - size l.graph.n (marked l.self.settled.now)
