use Rattle.linear.proofs.Reading.{refuses_first}
use Rattle.linear.proofs.theory.refuses_the_first_fault.Goals as goal

pub returns : goal.returns
returns c = refuses_first
