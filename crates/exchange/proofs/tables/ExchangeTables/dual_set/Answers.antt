use Rattle.std.proofs.Common.{sym, ◌∙◌, arith}
use Rattle.sets.specs.Bits.{marked}
use Rattle.exchange.proofs.Counting.{size_le}
use Rattle.exchange.proofs.Growing.{copied_row}
use Rattle.exchange.proofs.tables.ExchangeTables.dual_set.Goals as goal

pub loop-init : goal.loop-init
loop-init c =
    let same = copied_row c.args.n c.args.self.now.sinks.now c.copy.new.set (λ j h. c.copy.ensures.members j (omega (arith, c.div_ceil.ensures))) in
    ((λ x p h. same x p ∙ h), (λ t s b x p h. s x p (sym (same x p) ∙ h)))

pub loop-smaller : goal.loop-smaller
loop-smaller c =
    let l = size_le c.args.n (marked c.grow.new.dual) in
    omega (arith, c.grow.ensures.grown c.loop-test.true)

pub loop-preserved : goal.loop-preserved
loop-preserved c = (
  (λ x p h. c.grow.ensures.larger x (c.loop.invariant.0 x p h)),
  (λ t s b. c.grow.ensures.least t b (c.loop.invariant.1 t s b)),
)

pub returns : goal.returns
returns c = record {
  sinks = λ x p h. c.grow.ensures.larger x (c.loop.invariant.0 x p h);
  backwards = c.grow.ensures.done c.loop-test.false;
  least = λ t s b. c.grow.ensures.least t b (c.loop.invariant.1 t s b);
}
