use Rattle.certificate.specs.Layout.{part}
use Rattle.std.proofs.Common.{rules}
use Rattle.certificate.proofs.split.Numbers.of.Goals as goal

pub returns : goal.returns
unfolding part
returns c = search rules
