use Rattle.matroid.proofs.examples.small_heaviest.Goals as goal
use Rattle.matroid.proofs.SmallMatroids.{small_heaviest}

-- a splitting at the two small matroids, and that it shows a heaviest choice of one element
pub returns : goal.returns
returns c = small_heaviest
