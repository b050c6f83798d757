use Rattle.weighted.proofs.examples.small_converses.Goals as goal
use Rattle.weighted.proofs.SmallRounds.{small_converses}

-- what a heaviest and a largest choice must have
pub returns : goal.returns
returns c = small_converses
