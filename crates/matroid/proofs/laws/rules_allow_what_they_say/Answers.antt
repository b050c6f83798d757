use Rattle.matroid.proofs.RuleLaws.{natural}
use Rattle.matroid.proofs.laws.rules_allow_what_they_say.Goals as goal

pub returns : goal.returns
returns c = natural
