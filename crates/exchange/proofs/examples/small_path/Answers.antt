use Rattle.exchange.proofs.examples.small_path.Goals as goal
use Rattle.exchange.proofs.SmallPaths.{small_path}

-- the path and the set that it leads to
pub returns : goal.returns
returns c = small_path
