use Rattle.sets.proofs.Masks.{bit_set}
use Rattle.sets.proofs.cell.byte.U8Cell.with.Goals as goal

pub returns : goal.returns
returns c = λ j l. bit_set 8 c.args.self c.args.i j c.requires
