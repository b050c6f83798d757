use Rattle.transversal.proofs.Laws.{rule_matroid}
use Rattle.transversal.proofs.volunteers_are_a_matroid.Goals as goal

pub returns : goal.returns
returns c = rule_matroid
