use Rattle.graphic.proofs.theory.refuses_the_first_fault.Goals as goal
use Rattle.graphic.proofs.Reading.{refuses_first}

-- the order of reading is the order of faults
pub returns : goal.returns
returns c = refuses_first
