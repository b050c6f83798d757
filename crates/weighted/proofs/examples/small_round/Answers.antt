use Rattle.weighted.proofs.examples.small_round.Goals as goal
use Rattle.weighted.proofs.SmallRounds.{small_round}

-- the round after 1 is chosen
pub returns : goal.returns
returns c = small_round
