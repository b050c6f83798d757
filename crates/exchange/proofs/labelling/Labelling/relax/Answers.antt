use Rattle.std.proofs.Common.{refl, ◌∙◌, arith, rules}
use Rattle.sets.specs.Bits.{marked}
use Rattle.exchange.specs.Graph.{at}
use Rattle.exchange.specs.Labelling.{arcs_of, costs_of}
use Rattle.exchange.proofs.Relaxing.{partly_none, partly_all, partly_step, partly_jump}
use Rattle.exchange.proofs.Settling.{open_parts}
use Rattle.exchange.proofs.labelling.Labelling.relax.Goals as goal

pub loop-u-init : goal.loop-u-init
loop-u-init c =
    let s = c.args.self.now in
    record {
      memory = search rules;
      settled = refl;
      within = omega arith;
      partly = partly_none c.args.graph.now.n (arcs_of c.args.graph.now) (costs_of c.args.graph.now) _ _ _ _ _ _;
    }

pub loop-u-preserved : goal.loop-u-preserved
loop-u-preserved c =
    let n = c.args.graph.now.n in
    let to = arcs_of c.args.graph.now in
    let price = costs_of c.args.graph.now in
    let s = c.args.self.now in
    let t = c.loop-u.self in
    let r = c.improve.new.self in
    let u = c.in-Some.u in
    let far = rw c.loop-u.invariant.settled at c.in-Some.ensures in
    let here = open_parts (to c.args.v u) (marked s.settled.now u) far.2 in
    record {
      memory = search rules;
      settled = c.improve.ensures.settled ∙ c.loop-u.invariant.settled;
      within = omega (arith, far.1);
      partly = partly_step n to price (marked s.settled.now) (marked s.reached.now) (at s.costs.now) (at s.steps.now) (at s.back.now) c.args.v u
          (marked t.reached.now) (at t.costs.now) (at t.steps.now) (at t.back.now)
          (marked r.reached.now) (at r.costs.now) (at r.steps.now) (at r.back.now)
          c.arrival-cost.result far.1 here.0 here.1 c.arrival-cost.ensures c.improve.ensures.labels
          (partly_jump n to price (marked s.settled.now) (marked s.reached.now) (at s.costs.now) (at s.steps.now) (at s.back.now) c.args.v
          c.loop-u.from u (marked t.reached.now) (at t.costs.now) (at t.steps.now) (at t.back.now) far.3 far.0 c.loop-u.invariant.partly);
    }

pub returns-clause-labels : goal.returns-clause-labels
returns-clause-labels c =
    let n = c.args.graph.now.n in
    let to = arcs_of c.args.graph.now in
    let price = costs_of c.args.graph.now in
    let s = c.args.self.now in
    let t = c.loop-u.self in
    let none = rw c.loop-u.invariant.settled at c.in_default.ensures in
    partly_all n to price (marked s.settled.now) (marked s.reached.now) (at s.costs.now) (at s.steps.now) (at s.back.now) c.args.v n
    (marked t.reached.now) (at t.costs.now) (at t.steps.now) (at t.back.now)
    (partly_jump n to price (marked s.settled.now) (marked s.reached.now) (at s.costs.now) (at s.steps.now) (at s.back.now) c.args.v
    c.loop-u.from n (marked t.reached.now) (at t.costs.now) (at t.steps.now) (at t.back.now) none c.loop-u.invariant.within c.loop-u.invariant.partly)
    (omega arith)
