use Rattle.transversal.proofs.Reading.{refuses_first}
use Rattle.transversal.proofs.refuses_the_first_fault.Goals as goal

pub returns : goal.returns
returns c = refuses_first
