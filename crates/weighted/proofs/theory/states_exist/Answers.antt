use Rattle.weighted.proofs.theory.states_exist.Goals as goal
use Rattle.weighted.proofs.Existence.{states_exist}

-- a state of every size up to the largest
pub returns : goal.returns
returns c = states_exist
