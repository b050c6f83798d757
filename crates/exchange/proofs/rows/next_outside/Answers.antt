use Rattle.std.proofs.Common.{true, false, arith}
use Rattle.std.proofs.lemmas.Bool.{eq-eqb, ne_eqb}
use Rattle.sets.specs.Bits.{marked, word_row}
use Rattle.sets.specs.Matroid.{outside}
use Rattle.exchange.proofs.Skips.{rest_none, rest_tells, skip_more, only_itself}
use Rattle.exchange.proofs.rows.next_outside.Goals as goal

pub loop-i-preserved-then-rest-eq0 : goal.loop-i-preserved-then-rest-eq0
loop-i-preserved-then-rest-eq0 c = (
  omega (arith, c.loop-i.invariant.0),
  skip_more (outside (word_row c.args.row.now c.args.at) (marked c.args.other.now)) c.args.from c.loop-i.i _ c.loop-i.invariant.1
      (λ j p q. rest_none c.args.row.now c.args.other.now c.args.at c.loop-i.i j (omega arith) c.if-rest-eq0.true p q),
)

pub returns-then-rest-eq1 : goal.returns-then-rest-eq1
returns-then-rest-eq1 c = (
  c.loop-i.invariant.0,
  c.loop-i-test.true,
  rest_tells c.args.row.now c.args.other.now c.args.at c.loop-i.i true (omega arith) (eq-eqb _ _ c.if-rest-eq1.true),
  c.loop-i.invariant.1,
)

pub loop-i-preserved : goal.loop-i-preserved
loop-i-preserved c = (
  omega (arith, c.loop-i.invariant.0),
  skip_more (outside (word_row c.args.row.now c.args.at) (marked c.args.other.now)) c.args.from c.loop-i.i _ c.loop-i.invariant.1
      (only_itself (outside (word_row c.args.row.now c.args.at) (marked c.args.other.now)) c.loop-i.i
      (rest_tells c.args.row.now c.args.other.now c.args.at c.loop-i.i false (omega arith) (ne_eqb _ _ c.if-rest-eq1.false))),
)
