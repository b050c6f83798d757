use Rattle.matroid.proofs.FileReading.{faultless}
use Rattle.matroid.proofs.laws.a_meaning_leaves_no_fault.Goals as goal

pub returns : goal.returns
returns c = faultless
