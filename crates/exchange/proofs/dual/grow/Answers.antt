use Rattle.std.proofs.Common.{◌≡◌, ℕ, ◌+◌, Bool, List, sym, ap, ◌∙◌, subst, arith}
use Rattle.sets.specs.Bits.{marked}
use Rattle.exchange.specs.Graph.{table}
use Rattle.exchange.proofs.Growing.{Grown, grown_pass, grown_take}
use Rattle.exchange.proofs.dual.grow.Goals as goal

pub offers-preserved-then-holds-2 : goal.offers-preserved-then-holds-2
offers-preserved-then-holds-2 c =
    let same : c.loop-x.dual ≡ c.offers.dual = c.loop-x.invariant.0 in
    grown_take c.args.n (table c.args.n c.args.arcs.now) (marked c.args.dual.now) (marked c.loop-x.dual) (marked c.put.new.row)
    c.offers.v c.loop-x.x c.offers.grown c.offers-test.true c.loop-x-test.true
    (ap (λ (l : List ℕ). marked l c.offers.v) same ∙ sym c.holds.ensures ∙ c.if-holds.false)
    (sym c.joins.ensures ∙ c.if-joins.true) (sym c.holds-then-joins.ensures ∙ c.if-holds-2.true) c.put.ensures
    (subst (λ (l : List ℕ). Grown c.args.n (table c.args.n c.args.arcs.now) (marked c.args.dual.now) (marked l) c.offers.v c.offers.grown) (sym same) c.offers.invariant)

pub offers-preserved : goal.offers-preserved
offers-preserved c =
    let g : Grown c.args.n (table c.args.n c.args.arcs.now) (marked c.args.dual.now) (marked c.offers.dual) (c.offers.v + 1) c.offers.grown =
    grown_pass c.args.n (table c.args.n c.args.arcs.now) (marked c.args.dual.now) (marked c.offers.dual) c.offers.v c.offers.grown
    (λ x p t s. absurd (c.loop-x.invariant.2 x (omega arith) t s)) c.offers.invariant in
    subst (λ (l : List ℕ). Grown c.args.n (table c.args.n c.args.arcs.now) (marked c.args.dual.now) (marked l) (c.offers.v + 1) c.loop-x.grown) (sym c.loop-x.invariant.0)
    (subst (λ (b : Bool). Grown c.args.n (table c.args.n c.args.arcs.now) (marked c.args.dual.now) (marked c.offers.dual) (c.offers.v + 1) b) (sym c.loop-x.invariant.1) g)
