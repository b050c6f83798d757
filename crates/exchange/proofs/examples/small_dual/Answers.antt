use Rattle.exchange.proofs.examples.small_dual.Goals as goal
use Rattle.exchange.proofs.SmallPaths.{small_dual}

-- no path, and the dual set
pub returns : goal.returns
returns c = small_dual
