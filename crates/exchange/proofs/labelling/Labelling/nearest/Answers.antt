use Rattle.std.proofs.Common.{rules, Some, sym, subst, ◌∙◌}
use Rattle.sets.specs.Bits.{marked}
use Rattle.sets.specs.Matroid.{outside}
use Rattle.exchange.specs.Graph.{at}
use Rattle.exchange.proofs.Leasts.{SoFar, passed_over, stays, moves}
use Rattle.exchange.proofs.labelling.Labelling.nearest.Goals as goal

pub loop-v-preserved-then-nearer : goal.loop-v-preserved-then-nearer
loop-v-preserved-then-nearer c =
    let among = outside (marked c.args.self.now.reached.now) (marked c.args.self.now.settled.now) in
    let d = at c.args.self.now.costs.now in
    let k = at c.args.self.now.steps.now in
    let v = c.in-Some.v in
    let next = c.in-Some.ensures.steps in (
      search rules,
      search rules,
      search rules,
      search rules,
      subst (λ x. SoFar x among d k (Some v)) (sym next.5)
          (moves v among d k c.loop-v.least c.nearer.result c.nearer.ensures c.if-nearer.true (sym (c.loop-v.invariant.3 v) ∙ next.4.2)
          (passed_over c.loop-v.v-iterator.from among d k c.loop-v.least v next.4.0 (λ i p q. sym (c.loop-v.invariant.3 i) ∙ next.4.3 i p q) c.loop-v.invariant.4)),
    )

pub loop-v-preserved : goal.loop-v-preserved
loop-v-preserved c =
    let among = outside (marked c.args.self.now.reached.now) (marked c.args.self.now.settled.now) in
    let d = at c.args.self.now.costs.now in
    let k = at c.args.self.now.steps.now in
    let v = c.in-Some.v in
    let next = c.in-Some.ensures.steps in (
      search rules,
      search rules,
      search rules,
      search rules,
      subst (λ x. SoFar x among d k c.loop-v.least) (sym next.5)
          (stays v among d k c.loop-v.least c.nearer.result c.nearer.ensures c.if-nearer.false
          (passed_over c.loop-v.v-iterator.from among d k c.loop-v.least v next.4.0 (λ i p q. sym (c.loop-v.invariant.3 i) ∙ next.4.3 i p q) c.loop-v.invariant.4)),
    )
