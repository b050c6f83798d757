use Rattle.linear.proofs.Laws.{natural}
use Rattle.linear.proofs.theory.rows_read_naturally.Goals as goal

pub returns : goal.returns
returns c = natural
