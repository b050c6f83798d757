-- Each turn finishes one town.
use Rattle.std.proofs.Common.{arith}
use Rattle.graphic.proofs.Merging.{merging_skip, merging_town}
use Rattle.graphic.proofs.Links.merge_classes.Goals as goal
use Rattle.graphic.proofs.Links.merge_classes.Goals.{then-state-t, else-state-t}

pub loop-t-preserved : goal.loop-t-preserved
loop-t-preserved c =
    elim c.if-state-t.branch [
      | then-state-t w ↦ rw w.state-is
          (merging_town c.args.self.now.n c.args.old c.args.new c.loop-t.t c.args.state.now c.loop-t.state w.merge_town.new.state
          (omega arith) c.loop-t.invariant w.if-state-t.true w.merge_town.ensures.label w.merge_town.ensures.row
          w.merge_town.ensures.work w.merge_town.ensures.labels w.merge_town.ensures.rows)
      | else-state-t w ↦ rw w.state-is
          (merging_skip c.args.self.now.n c.args.old c.args.new c.loop-t.t c.args.state.now c.loop-t.state (omega arith)
          c.loop-t.invariant w.if-state-t.false)
    ]
