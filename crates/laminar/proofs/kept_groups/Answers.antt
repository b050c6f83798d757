use Rattle.laminar.proofs.Kept.{two_words}
use Rattle.laminar.proofs.kept_groups.Goals as goal

pub returns : goal.returns
returns c g l = two_words c.args.state.now c.args.at g (c.type_inv.state c.args.at).fits l
