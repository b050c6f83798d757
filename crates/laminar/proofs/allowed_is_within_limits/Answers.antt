use Rattle.laminar.proofs.Laws.{natural}
use Rattle.laminar.proofs.allowed_is_within_limits.Goals as goal

pub returns : goal.returns
returns c = natural
