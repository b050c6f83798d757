use Rattle.matroid.proofs.examples.small_closure.Goals as goal
use Rattle.matroid.proofs.SmallMatroids.{small_closure}

-- a small closure and its matroid
pub returns : goal.returns
returns c = small_closure
