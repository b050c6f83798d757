use Rattle.certificate.proofs.Soundness.{shows_heaviest}
use Rattle.certificate.proofs.theory.certificates_show_heaviest.Goals as goal

pub returns : goal.returns
returns c = shows_heaviest
