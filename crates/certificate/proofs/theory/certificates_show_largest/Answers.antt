use Rattle.certificate.proofs.Soundness.{shows_largest}
use Rattle.certificate.proofs.theory.certificates_show_largest.Goals as goal

pub returns : goal.returns
returns c = shows_largest
