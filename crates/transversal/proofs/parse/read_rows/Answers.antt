use Rattle.std.proofs.Common.{sym, ◌∙◌, arith}
use Rattle.transversal.proofs.Reading.{rows_dirty, rows_on}
use Rattle.transversal.proofs.parse.read_rows.Goals as goal

pub returns-then-has_stray_bit : goal.returns-then-has_stray_bit
returns-then-has_stray_bit c =
    sym (rows_dirty c.args.file.now c.args.n c.args.volunteers c.loop-v.v c.args.at c.div_ceil-bytes.result (omega arith) c.loop-v-test.true
    (omega arith) (sym c.if-has_stray_bit.ensures)) ∙ c.loop-v.invariant.0

pub loop-v-preserved : goal.loop-v-preserved
loop-v-preserved c =
    let r = rows_on c.args.file.now c.args.n c.args.volunteers c.loop-v.v c.args.at c.div_ceil-bytes.result (omega arith) c.loop-v-test.true
    (omega arith) (sym c.if-has_stray_bit.ensures) in
    (sym r.0 ∙ c.loop-v.invariant.0, r.1)
