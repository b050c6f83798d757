use Rattle.weighted.proofs.theory.states_split_the_weights.Goals as goal
use Rattle.weighted.proofs.Rounds.{state_splits}

-- the potentials of a state and what they leave of the weights
pub returns : goal.returns
returns c = state_splits
