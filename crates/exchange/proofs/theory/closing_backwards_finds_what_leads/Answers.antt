use Rattle.exchange.proofs.theory.closing_backwards_finds_what_leads.Goals as goal
use Rattle.exchange.proofs.LeadingExists.{leading_agrees}

-- the least set closed backwards is the set of the elements that lead to a sink
pub returns : goal.returns
returns c = leading_agrees
