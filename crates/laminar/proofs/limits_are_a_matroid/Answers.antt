use Rattle.laminar.proofs.Laws.{rule_matroid}
use Rattle.laminar.proofs.limits_are_a_matroid.Goals as goal

pub returns : goal.returns
returns c = rule_matroid
