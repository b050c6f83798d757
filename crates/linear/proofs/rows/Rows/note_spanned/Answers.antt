-- Each turn writes one flag and changes no functional.
use Rattle.std.proofs.Common.{◌≡◌, ◌+◌, ◌*◌, ◌<◌, length, ap, ◌∙◌, arith}
use Rattle.sets.specs.Matroid.{pick}
use Rattle.sets.specs.Bits.{marked}
use Rattle.linear.specs.Rows.{number, span}
use Rattle.linear.proofs.Answered.{dual_set, flag_number, flags_more}
use Rattle.linear.proofs.rows.Rows.note_spanned.Goals as goal

pub loop-x-preserved : goal.loop-x-preserved
loop-x-preserved c =
    let r = c.args.self.now in
    let written : c.from.result ≡ pick c.is_spanned.result 1 0 = c.from.ensures ∙ flag_number c.is_spanned.result in
    let low : 65 * c.loop-x.x + 64 < length c.loop-x.state = omega arith in (
      dual_set r.prime r.len (number r.file.now r.len r.at) c.loop-x.state c.loop-x.x c.from.result r.n
          (marked c.args.set.now) r.well.few_numbers c.loop-x.invariant.0,
      flags_more (λ y. pick (span r.file.now r.n r.prime r.len r.at (marked c.args.set.now) y) 1 0)
          c.loop-x.state c.loop-x.x c.from.result low (written ∙ ap (λ b. pick b 1 0) c.is_spanned.ensures) c.loop-x.invariant.1,
    )

pub returns : goal.returns
returns c = record { dual = c.loop-x.invariant.0; flags = λ x h. c.loop-x.invariant.1 x (omega arith) }
