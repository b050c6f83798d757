use Rattle.std.proofs.Common.{sym, ◌∙◌, arith}
use Rattle.sets.specs.Bits.{marked}
use Rattle.transversal.specs.Pairs.{named}
use Rattle.transversal.proofs.RowFacts.{row_zero}
use Rattle.transversal.proofs.Closed.{stuck_refuses, cut_with, cut_out}
use Rattle.transversal.proofs.Tables.{named_nobody, holds_nobody}
use Rattle.transversal.proofs.matching.Matching.of.Goals as goal

pub loop-x-init : goal.loop-x-init
loop-x-init c = record {
  holds = holds_nobody c.args.rows.now.words.now c.args.rows.now.n c.args.rows.now.volunteers (omega arith) (omega arith);
  all = λ u h. let e = named_nobody u (omega arith) in grind arith;
}

pub returns-then-not-place : goal.returns-then-not-place
returns-then-not-place c = λ g t. stuck_refuses _ _ _ (named c.loop-x.matching.tends) (named c.loop-x.matching.owner) c.loop-x.invariant.holds.pairs (marked c.args.set.now) c.loop-x.x g
    (c.place.ensures.stuck c.if-not-place.true) c.loop-x-test.true
    (cut_out _ _ _ _ _ c.loop-x.invariant.holds.pairs (marked c.args.set.now) c.loop-x.x c.loop-x-test.true c.loop-x.invariant.all)
    (cut_with _ _ _ _ _ c.loop-x.invariant.holds.pairs (marked c.args.set.now) c.loop-x.x (sym (row_zero c.args.set.now c.loop-x.x) ∙ (sym c.contains.ensures ∙ c.if-contains.true)) c.loop-x.invariant.all) t
