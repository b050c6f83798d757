-- The functional is corrected at one row of the set at a time.
use Rattle.std.proofs.Common.{◌-◌, ◌*◌, ◌%◌, eqb, ◌∙◌, arith}
use Rattle.sets.specs.Matroid.{pick}
use Rattle.sets.specs.Bits.{marked}
use Rattle.linear.specs.Rows.{number}
use Rattle.linear.specs.Kept.{functional}
use Rattle.linear.proofs.Steps.{unit_row, grown_none, pick_low, fresh_in, fresh_out}
use Rattle.linear.proofs.Parts.{front_added}
use Rattle.linear.proofs.rows.Rows.find_functional.Goals as goal
use Rattle.linear.proofs.rows.Rows.find_functional.Goals.{then-chosen, else-chosen}

pub loop-z-init : goal.loop-z-init
loop-z-init c j h =
    let r = c.args.self.now in
    unit_row c.args.q c.args.scale j (omega (arith, r.well.few_numbers))
    ∙ grown_none r.prime (pick (eqb j c.args.q) c.args.scale 0)
    (λ z. (r.prime - c.args.scale * number r.file.now r.len r.at z c.args.q % r.prime) * functional c.args.state.now z j)
    (marked c.args.set.now) (pick_low (eqb j c.args.q) c.args.scale r.prime c.requires.scale)

pub loop-z-preserved : goal.loop-z-preserved
loop-z-preserved c =
    let r = c.args.self.now in
    elim c.if-chosen.branch [
      | then-chosen w ↦
          let a = 65 * c.loop-z.z in
          fresh_in r.prime r.len (number r.file.now r.len r.at) c.args.state.now c.loop-z.z (marked c.args.set.now)
          c.args.q c.args.scale c.loop-z.sum _ c.if-chosen.sum c.chosen.result w.number_at.result
          c.chosen.ensures w.if-chosen.true w.number_at.ensures c.loop-z.invariant
          (front_added a _ r.len c.loop-z.sum w.add_multiple.new.target c.args.state.now r.prime _ (omega arith) (omega arith) (omega arith) w.add_multiple.ensures)
          w.sum-is
      | else-chosen w ↦
          fresh_out r.prime r.len (number r.file.now r.len r.at) c.args.state.now c.loop-z.z (marked c.args.set.now)
          c.args.q c.args.scale c.loop-z.sum c.if-chosen.sum c.chosen.result c.chosen.ensures w.if-chosen.false c.loop-z.invariant w.sum-is
    ]
