use Rattle.graphic.proofs.theory.joined_is_least.Goals as goal
use Rattle.graphic.proofs.Laws.{least}

-- joined is an equivalence, and no other is less
pub returns : goal.returns
returns c = least
