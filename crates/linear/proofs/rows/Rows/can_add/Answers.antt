-- The flag behind the functional of x tells.
use Rattle.sets.specs.Bits.{marked}
use Rattle.linear.proofs.Answered.{adds}
use Rattle.linear.proofs.rows.Rows.can_add.Goals as goal

pub returns : goal.returns
returns c =
    let r = c.args.self.now in
    adds r.file.now r.n r.prime r.len r.at r.well (marked c.args.set.now) c.args.state.now c.args.x
    c.requires.ready c.requires.offer c.requires.outside
