use Rattle.matroid.proofs.examples.small_matroids.Goals as goal
use Rattle.matroid.proofs.SmallMatroids.{small_matroids}

-- two small tests are matroids
pub returns : goal.returns
returns c = small_matroids
