use Rattle.weighted.proofs.theory.rounds_lead_to_the_next_state.Goals as goal
use Rattle.weighted.proofs.Rounds.{round}

-- the round
pub returns : goal.returns
returns c = round
