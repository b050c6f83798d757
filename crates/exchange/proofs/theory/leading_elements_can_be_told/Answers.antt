use Rattle.exchange.proofs.theory.leading_elements_can_be_told.Goals as goal
use Rattle.exchange.proofs.LeadingExists.{leading_exists}

-- the elements that lead to a sink can be told
pub returns : goal.returns
returns c = leading_exists
