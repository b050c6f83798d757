use Rattle.std.proofs.Common.{◌≡◌, ◌-◌, ◌≤◌}
use Rattle.sets.specs.Bits.{marked}
use Rattle.exchange.specs.Graph.{at}
use Rattle.exchange.specs.Labelling.{arcs_of, costs_of, SameMemory}
use Rattle.exchange.proofs.Relaxing.{Partly}
use Rattle.exchange.proofs.labelling.Labelling.relax.Given as goal

abbrev pub invariant-loop-u : goal.invariant-loop-u
invariant-loop-u l = record {
  memory : SameMemory l.initial.self l.self;
  settled : l.self.settled.now ≡ l.initial.self.settled.now;
  within : l.from ≤ l.graph.n;
  partly : Partly l.graph.n (arcs_of l.graph)
      (costs_of l.graph) (marked l.initial.self.settled.now)
      (marked l.initial.self.reached.now) (at l.initial.self.costs.now) (at l.initial.self.steps.now) (at l.initial.self.back.now) l.v l.from
      (marked l.self.reached.now) (at l.self.costs.now) (at l.self.steps.now) (at l.self.back.now);
}

abbrev pub decreases-loop-u : goal.decreases-loop-u
decreases-loop-u l = l.graph.n - l.from
