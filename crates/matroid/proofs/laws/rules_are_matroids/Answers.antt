use Rattle.matroid.proofs.RuleLaws.{rule_matroid}
use Rattle.matroid.proofs.laws.rules_are_matroids.Goals as goal

pub returns : goal.returns
returns c = rule_matroid
