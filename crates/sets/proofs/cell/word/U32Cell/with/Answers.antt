use Rattle.sets.proofs.Masks.{bit_set}
use Rattle.sets.proofs.cell.word.U32Cell.with.Goals as goal

pub returns : goal.returns
returns c = λ j l. bit_set 32 c.args.self c.args.i j c.requires
