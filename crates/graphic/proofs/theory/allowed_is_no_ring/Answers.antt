use Rattle.graphic.proofs.theory.allowed_is_no_ring.Goals as goal
use Rattle.graphic.proofs.Laws.{natural}

-- a ring is a link whose ends other links join
pub returns : goal.returns
returns c = natural
