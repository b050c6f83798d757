use Rattle.laminar.proofs.Reading.{err_first}
use Rattle.laminar.proofs.first_fault_is_refused.Goals as goal

pub returns : goal.returns
returns c = err_first
