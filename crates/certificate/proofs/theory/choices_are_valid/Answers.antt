use Rattle.certificate.proofs.Complete.{choices_are_valid}
use Rattle.certificate.proofs.theory.choices_are_valid.Goals as goal

pub returns : goal.returns
returns c = choices_are_valid
