use Rattle.matroid.proofs.examples.small_exchange.Goals as goal
use Rattle.matroid.proofs.SmallMatroids.{small_exchange}

-- an exchange after an element is added, and what it makes
pub returns : goal.returns
returns c = small_exchange
