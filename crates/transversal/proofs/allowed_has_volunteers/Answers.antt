use Rattle.transversal.proofs.Laws.{natural}
use Rattle.transversal.proofs.allowed_has_volunteers.Goals as goal

pub returns : goal.returns
returns c = natural
