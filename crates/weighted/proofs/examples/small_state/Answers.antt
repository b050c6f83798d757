use Rattle.weighted.proofs.examples.small_state.Goals as goal
use Rattle.weighted.proofs.SmallRounds.{small_state}

-- the state of 1
pub returns : goal.returns
returns c = small_state
