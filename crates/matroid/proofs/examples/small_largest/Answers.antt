use Rattle.matroid.proofs.examples.small_largest.Goals as goal
use Rattle.matroid.proofs.SmallMatroids.{small_largest}

-- a dual set at the two small matroids, and that it shows a largest choice
pub returns : goal.returns
returns c = small_largest
