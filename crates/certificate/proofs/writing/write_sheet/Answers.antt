use Rattle.certificate.proofs.RowsWritten.{written_more, behind_more}
use Rattle.certificate.proofs.writing.write_sheet.Goals as goal

pub loop-i-preserved : goal.loop-i-preserved
loop-i-preserved c =
    let n = c.args.n in
    let i = c.loop-i.i in
    let old = c.loop-i.sheet in
    let new = c.write_block.new.sheet in
    let b = c.write_block.ensures in (
      written_more n c.args.sets.now c.args.numbers.now old new i c.loop-i.invariant.0 b.members b.parts b.rest,
      behind_more n c.args.sheet.now old new i c.loop-i.invariant.1 b.rest,
    )
