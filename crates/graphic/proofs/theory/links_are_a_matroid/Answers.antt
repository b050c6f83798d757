use Rattle.graphic.proofs.theory.links_are_a_matroid.Goals as goal
use Rattle.graphic.proofs.Laws.{rule_matroid}

-- by the closure theorem
pub returns : goal.returns
returns c = rule_matroid
