use Rattle.std.proofs.Common.{arith}
use Rattle.transversal.specs.Pairs.{named}
use Rattle.transversal.proofs.RowTurns.{started_more, started_copy, started_empty}
use Rattle.transversal.proofs.Tables.{named_is, named_low}
use Rattle.transversal.proofs.Volunteers.start_rows.Goals as goal
use Rattle.transversal.proofs.Volunteers.start_rows.Goals.{in-Some, in_default}

pub loop-y-preserved : goal.loop-y-preserved
loop-y-preserved c = elim c.match-matching-y.branch [
  | in-Some w ↦
      let low = named_low c.args.self.now.volunteers c.args.matching.now.tends c.loop-y.y w.in-Some.v (omega arith) c.requires.helpers w.in-Some.is in
      let is = named_is c.args.matching.now.tends c.loop-y.y _ w.in-Some.is in
      rw w.state-is (started_more c.args.self.now.n c.args.self.now.volunteers c.width-width.result (omega arith) (named c.args.matching.now.tends) c.loop-y.y c.args.state.now c.loop-y.state w.copy_within.new.set
      (omega arith) c.loop-y.invariant
      (started_copy c.args.self.now.n c.args.self.now.volunteers c.width-width.result (omega arith) (named c.args.matching.now.tends) c.loop-y.y c.args.state.now c.loop-y.state w.copy_within.new.set
      (rw is low) c.loop-y.invariant.1 (rw is w.copy_within.ensures.members))
      w.copy_within.ensures.rest)
  | in_default w ↦
      let is = named_is c.args.matching.now.tends c.loop-y.y _ w.in_default.is in
      rw w.state-is (started_more c.args.self.now.n c.args.self.now.volunteers c.width-width.result (omega arith) (named c.args.matching.now.tends) c.loop-y.y c.args.state.now c.loop-y.state w.clear.new.set
      (omega arith) c.loop-y.invariant
      (started_empty c.args.self.now.n c.args.self.now.volunteers c.width-width.result (omega arith) (named c.args.matching.now.tends) c.loop-y.y c.args.state.now w.clear.new.set
      (rw is (omega arith)) w.clear.ensures.members)
      w.clear.ensures.rest)
]
