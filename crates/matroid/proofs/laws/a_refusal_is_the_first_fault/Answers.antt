use Rattle.matroid.proofs.FileReading.{refuses_first}
use Rattle.matroid.proofs.laws.a_refusal_is_the_first_fault.Goals as goal

pub returns : goal.returns
returns c = refuses_first
