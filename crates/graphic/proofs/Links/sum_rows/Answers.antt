-- Four writes to the working row; all else stays.
use Rattle.std.proofs.Common.{arith}
use Rattle.graphic.proofs.Rows.{labels_beside, rows_beside, summed}
use Rattle.graphic.proofs.Links.sum_rows.Goals as goal

pub returns : goal.returns
returns c =
    let n = c.args.self.now.n in
    let len = c.row_len-len.result in
    let is = c.row_len-len.ensures in
    let xs = c.args.state.now in
    let e = c.xor_row-2.new.words in
    let s = summed n len c.args.x c.args.u c.args.v xs c.clear.new.set c.insert.new.set c.xor_row.new.words e is (omega arith)
    c.clear.ensures.members c.clear.ensures.rest c.insert.ensures.members c.insert.ensures.rest
    (rw c.row_at.ensures at c.xor_row.ensures.marks) c.xor_row.ensures.rest
    (rw c.row_at-2.ensures at c.xor_row-2.ensures.marks) c.xor_row-2.ensures.rest in
    record { sum = s.0; labels = labels_beside len xs e s.1; rows = λ t z l m. rows_beside n len xs e is s.1 t z m }
