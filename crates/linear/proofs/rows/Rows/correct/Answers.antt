-- Each turn corrects one functional; those behind it are as they were.
use Rattle.std.proofs.Common.{◌≡◌, ◌+◌, ◌-◌, ◌*◌, ◌≤◌, ◌∙◌, length, take, drop, arith}
use Rattle.sets.specs.Bits.{marked}
use Rattle.linear.specs.Rows.{number}
use Rattle.linear.proofs.Insertion.{corrected_in, corrected_out}
use Rattle.linear.proofs.Parts.{part_length, part_rest, part_added}
use Rattle.linear.proofs.rows.Rows.correct.Goals as goal
use Rattle.linear.proofs.rows.Rows.correct.Goals.{then-chosen, else-chosen}

pub loop-z-preserved : goal.loop-z-preserved
loop-z-preserved c =
    let r = c.args.self.now in
    let a = 65 * c.loop-z.z in
    let same : a + r.len - a ≡ r.len = omega arith in
    let inside : a + r.len ≤ length c.loop-z.state = omega (arith, r.well.few_numbers) in
    elim c.if-chosen.branch [
      | then-chosen w ↦
          let long : length w.add_multiple.new.target ≡ length (take (a + r.len - a) (drop a c.loop-z.state)) = omega arith in
          corrected_in r.prime r.len (number r.file.now r.len r.at c.args.r) (marked c.args.set.now)
          c.args.state.now c.args.g.now c.loop-z.z c.loop-z.state _ c.if-chosen.state w.value.result
          r.well.few_numbers w.value.ensures c.loop-z.invariant
          (part_added a _ r.len c.loop-z.state w.add_multiple.new.target c.args.g.now r.prime _ same inside long w.add_multiple.ensures)
          (part_rest a _ r.len c.loop-z.state w.add_multiple.new.target same inside (long ∙ part_length a _ r.len c.loop-z.state same inside))
          w.state-is
      | else-chosen w ↦
          corrected_out r.prime r.len (number r.file.now r.len r.at c.args.r) (marked c.args.set.now)
          c.args.state.now c.args.g.now c.loop-z.z c.loop-z.state c.if-chosen.state c.chosen.result c.chosen.ensures w.if-chosen.false
          c.loop-z.invariant w.state-is
    ]
