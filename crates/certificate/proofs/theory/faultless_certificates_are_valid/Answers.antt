use Rattle.certificate.proofs.Soundness.{faultless_is_valid}
use Rattle.certificate.proofs.theory.faultless_certificates_are_valid.Goals as goal

pub returns : goal.returns
returns c = faultless_is_valid
