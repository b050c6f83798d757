use Rattle.weighted.proofs.theory.states_are_heaviest.Goals as goal
use Rattle.weighted.proofs.Rounds.{state_heaviest}

-- a set with a state is a heaviest one of its size
pub returns : goal.returns
returns c = state_heaviest
