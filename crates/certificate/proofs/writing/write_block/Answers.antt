use Rattle.std.proofs.Common.{length, arith}
use Rattle.certificate.proofs.RowsWritten.{numbers_within, block_written}
use Rattle.certificate.proofs.writing.write_block.Goals as goal

pub returns-then-i-ge2 : goal.returns-then-i-ge2
returns-then-i-ge2 c =
    let numbers = c.args.numbers.now in
    let t = c.if-i-ge2.true in
    let r = block_written c.args.n c.args.i c.row_at-at.result c.div_ceil-len.result c.args.sets.now numbers c.args.sheet.now
    c.write_row.new.sheet c.write_numbers.new.sheet c.row_at-at.ensures.exact (omega arith) t (numbers_within c.args.n c.args.i (length numbers) t c.requires.parts)
    c.write_row.ensures.members c.write_row.ensures.rest c.write_numbers.ensures.numbers c.write_numbers.ensures.rest in
    record { members = r.0; parts = λ t. r.1; rest = r.2 }
