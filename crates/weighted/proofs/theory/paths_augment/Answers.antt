use Rattle.weighted.proofs.theory.paths_augment.Goals as goal
use Rattle.weighted.proofs.Converses.{paths_augment}

-- an augmenting path gives a set of one element more
pub returns : goal.returns
returns c = paths_augment
