use Rattle.std.proofs.Common.{arith, tests}
use Rattle.std.proofs.lemmas.Int.{ints, to_z-of_z}
use Rattle.certificate.proofs.split.adds_up.Goals as goal

pub returns : goal.returns
returns c = grind (arith, ints, tests, to_z-of_z)
