use Rattle.matroid.proofs.examples.small_steps.Goals as goal
use Rattle.matroid.proofs.SmallExchanges.{small_steps}

-- the theorems on one exchange at one small matroid
pub returns : goal.returns
returns c = small_steps
