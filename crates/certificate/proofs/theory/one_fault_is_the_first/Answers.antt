use Rattle.certificate.proofs.Unique.{one_first_fault}
use Rattle.certificate.proofs.theory.one_fault_is_the_first.Goals as goal

pub returns : goal.returns
returns c = one_first_fault
