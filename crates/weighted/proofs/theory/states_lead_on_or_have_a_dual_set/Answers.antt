use Rattle.weighted.proofs.theory.states_lead_on_or_have_a_dual_set.Goals as goal
use Rattle.weighted.proofs.Existence.{next_or_dual}

-- a next state or a dual set
pub returns : goal.returns
returns c = next_or_dual
