use Rattle.std.proofs.Common.{arith}
use Rattle.sets.specs.Bits.{row_words}
use Rattle.transversal.proofs.RowTurns.{loaded_more}
use Rattle.transversal.proofs.Volunteers.load_rows.Goals as goal

pub loop-v-preserved : goal.loop-v-preserved
loop-v-preserved c = loaded_more c.args.self.now.file.now c.args.self.now.n (row_words c.args.self.now.n) c.args.self.now.at c.loop-v.v c.loop-v.state c.load_row.new.words (omega arith)
    c.loop-v.invariant (rw (c.width-width.ensures, c.row_of.ensures.begins) at c.load_row.ensures.marks) (rw c.width-width.ensures at c.load_row.ensures.rest)
