-- The sum grows by one row of the set at a time.
use Rattle.std.proofs.Common.{◌-◌, ◌*◌, ◌%◌, ◌∙◌}
use Rattle.sets.specs.Bits.{marked}
use Rattle.linear.specs.Rows.{number}
use Rattle.linear.specs.Kept.{dot, functional}
use Rattle.linear.proofs.Steps.{grown_none, number_low, rest_in, rest_out}
use Rattle.linear.proofs.rows.Rows.find_rest.Goals as goal
use Rattle.linear.proofs.rows.Rows.find_rest.Goals.{then-chosen, else-chosen}

pub loop-y-init : goal.loop-y-init
loop-y-init c j h =
    let r = c.args.self.now in
    c.load-sum.ensures j h
    ∙ grown_none r.prime (number r.file.now r.len r.at c.args.x j)
    (λ y. (r.prime - dot r.len (functional c.args.state.now y) (number r.file.now r.len r.at c.args.x) % r.prime) * number r.file.now r.len r.at y j)
    (marked c.args.set.now)
    (number_low r.file.now r.n r.prime r.len r.at r.well c.args.x j c.requires.rows.1 h)

pub loop-y-preserved : goal.loop-y-preserved
loop-y-preserved c =
    let r = c.args.self.now in
    elim c.if-chosen.branch [
      | then-chosen w ↦
          rest_in r.prime r.len (number r.file.now r.len r.at) (functional c.args.state.now)
          c.loop-y.y (marked c.args.set.now) (number r.file.now r.len r.at c.args.x) c.loop-y.sum w.add_row.new.sum c.if-chosen.sum c.chosen.result w.value.result c.chosen.ensures w.if-chosen.true
          w.value.ensures c.loop-y.invariant w.add_row.ensures w.sum-is
      | else-chosen w ↦
          rest_out r.prime r.len (number r.file.now r.len r.at) (functional c.args.state.now)
          c.loop-y.y (marked c.args.set.now) (number r.file.now r.len r.at c.args.x) c.loop-y.sum c.if-chosen.sum c.chosen.result c.chosen.ensures w.if-chosen.false
          c.loop-y.invariant w.sum-is
    ]
