use Rattle.weighted.proofs.theory.sets_without_paths_are_largest.Goals as goal
use Rattle.weighted.proofs.Converses.{no_path_largest}

-- a set with no augmenting path is a largest one
pub returns : goal.returns
returns c = no_path_largest
