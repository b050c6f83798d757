use Rattle.exchange.proofs.examples.splittings_are_needed.Goals as goal
use Rattle.exchange.proofs.Needed.{splitting_needed}

-- a best path that leads to a refused set
pub returns : goal.returns
returns c = splitting_needed
