use Rattle.weighted.proofs.examples.small_existence.Goals as goal
use Rattle.weighted.proofs.SmallRounds.{small_existence}

-- what exists at the two small matroids
pub returns : goal.returns
returns c = small_existence
