use Rattle.matroid.proofs.examples.small_gains.Goals as goal
use Rattle.matroid.proofs.SmallMatroids.{small_gains}

-- the gains at the two small matroids
pub returns : goal.returns
returns c = small_gains
