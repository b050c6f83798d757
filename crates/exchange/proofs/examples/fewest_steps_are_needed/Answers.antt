use Rattle.exchange.proofs.examples.fewest_steps_are_needed.Goals as goal
use Rattle.exchange.proofs.Needed.{fewest_needed}

-- a path of most weight that leads to a refused set
pub returns : goal.returns
returns c = fewest_needed
