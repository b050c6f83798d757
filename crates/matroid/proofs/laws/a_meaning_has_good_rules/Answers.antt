use Rattle.matroid.proofs.FileReading.{means_well}
use Rattle.matroid.proofs.laws.a_meaning_has_good_rules.Goals as goal

pub returns : goal.returns
returns c = means_well
