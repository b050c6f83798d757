-- The rest of the row tells.
use Rattle.sets.specs.Bits.{marked}
use Rattle.linear.proofs.Answered.{rest_decides}
use Rattle.linear.proofs.rows.Rows.is_spanned.Goals as goal

pub returns : goal.returns
returns c =
    let r = c.args.self.now in
    rest_decides r.file.now r.n r.prime r.len r.at r.well (marked c.args.set.now) c.args.state.now
    c.find_rest-rest.result c.args.x c.find_column.result c.is_none.result c.requires.dual c.find_rest-rest.ensures
    c.find_column.ensures c.is_none.ensures
