use Rattle.sets.proofs.Masks.{bit_unset}
use Rattle.sets.proofs.cell.byte.U8Cell.without.Goals as goal

pub returns : goal.returns
returns c = λ j l. bit_unset 8 c.args.self c.args.i j c.requires l
