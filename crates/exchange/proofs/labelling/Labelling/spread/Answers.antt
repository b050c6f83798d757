use Rattle.std.proofs.Common.{ℕ, ◌+◌, ◌*◌, ◌≤◌, Bool, ap, arith, rules}
use Rattle.sets.specs.Bits.{marked}
use Rattle.sets.specs.Matroid.{size, Set, outside}
use Rattle.exchange.specs.Round.{top}
use Rattle.exchange.specs.Graph.{at, Priced, Least, SmallLabels}
use Rattle.exchange.specs.Labelling.{arcs_of, costs_of}
use Rattle.exchange.proofs.Bounds.{small_turn}
use Rattle.exchange.proofs.Counting.{size_le, size_more}
use Rattle.exchange.proofs.Settling.{turn, settles, open_parts, open_from}
use Rattle.exchange.proofs.labelling.Labelling.spread.Goals as goal

-- the label of the least open element is small
small_least : (n : ℕ) (to : ℕ → ℕ → Bool) (s : Set) (w a : ℕ → ℕ) (reached settled : Set) (d k : ℕ → ℕ) (v : ℕ) → n ≤ 600 → Priced n to s w a →
    SmallLabels n w a reached d k (size n settled) → Least n (outside reached settled) d k v → (d v + a v ≤ 603 * top) × (k v ≤ 601)
small_least n to s w a reached settled d k v few priced small m =
    let b = small v m.0 (open_parts (reached v) (settled v) m.1).0 in
    let l = size_le n settled in
    let h = priced.light v m.0 in
    (omega (arith, b.0, b.1), omega (arith, b.1))

pub relax-requires-clause-cost : goal.relax-requires-clause-cost
relax-requires-clause-cost c =
    let s = c.loop-v.self in
    (small_least c.args.graph.now.n _ _ _ _ (marked s.reached.now) (marked s.settled.now) (at s.costs.now) (at s.steps.now) c.in-Some.v
    c.args.graph.now.few c.args.graph.now.priced c.loop-v.invariant.small c.in-Some.ensures).0

pub relax-requires-clause-steps : goal.relax-requires-clause-steps
relax-requires-clause-steps c =
    let s = c.loop-v.self in
    (small_least c.args.graph.now.n _ _ _ _ (marked s.reached.now) (marked s.settled.now) (at s.costs.now) (at s.steps.now) c.in-Some.v
    c.args.graph.now.few c.args.graph.now.priced c.loop-v.invariant.small c.in-Some.ensures).1

pub loop-v-smaller : goal.loop-v-smaller
loop-v-smaller c =
    let n = c.args.graph.now.n in
    let v = c.in-Some.v in
    let m = c.in-Some.ensures in
    let o = open_parts (marked c.loop-v.self.reached.now v) (marked c.loop-v.self.settled.now v) m.1 in
    let kept = ap (λ xs. size n (marked xs)) c.relax.ensures.settled in
    let e = size_more n (marked c.loop-v.self.settled.now) (marked c.put.new.row) v m.0 o.1
    (λ j _. settles (marked c.loop-v.self.settled.now) (marked c.put.new.row) v c.put.ensures j) in
    let l = size_le n (marked c.put.new.row) in
    omega arith

pub loop-v-preserved : goal.loop-v-preserved
loop-v-preserved c =
    let graph = c.args.graph.now in
    let n = graph.n in
    let to = arcs_of graph in
    let w = at graph.prices.weights.now in
    let a = at graph.prices.potentials.now in
    let price = costs_of graph in
    let s = c.loop-v.self in
    let t = c.relax.new.self in
    let settled = marked s.settled.now in
    let done = marked c.put.new.row in
    let reached = marked s.reached.now in
    let v = c.in-Some.v in
    let m = c.in-Some.ensures in
    let o = open_parts (reached v) (settled v) m.1 in
    let joined = settles settled done v c.put.ensures in
    let e = size_more n settled done v m.0 o.1 (λ j _. joined j) in
    record {
      memory = search rules;
      going = rw c.relax.ensures.settled
          (turn n to price (marked c.args.sources.now) settled done reached (marked t.reached.now)
          (at s.costs.now) (at s.steps.now) (at s.back.now) (at t.costs.now) (at t.steps.now) (at t.back.now) v
          c.loop-v.invariant.going m.0 o.0 o.1 (λ u p q r. m.2 u p (open_from (reached u) (settled u) q r)) (λ u _. joined u) c.relax.ensures.labels);
      small = rw (c.relax.ensures.settled, e)
          (small_turn n to (marked graph.set.now) w a done reached (marked t.reached.now)
          (at s.costs.now) (at s.steps.now) (at s.back.now) (at t.costs.now) (at t.steps.now) (at t.back.now) v (size n settled)
          graph.priced m.0 o.0 c.relax.ensures.labels c.loop-v.invariant.small);
    }

pub returns-clause-small : goal.returns-clause-small
returns-clause-small c =
    λ v p r. let s = c.loop-v.invariant.small v p r in let l = size_le c.args.graph.now.n (marked c.loop-v.self.settled.now) in (s.0, omega (arith, s.1))
