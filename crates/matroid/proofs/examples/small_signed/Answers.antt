use Rattle.matroid.proofs.examples.small_signed.Goals as goal
use Rattle.matroid.proofs.SmallMatroids.{small_signed}

-- numbers of either sign, and that they show a heaviest choice of two elements
pub returns : goal.returns
returns c = small_signed
