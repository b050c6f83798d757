use Rattle.matroid.proofs.theory.as_heavy_as_best_is_best.Goals as goal
use Rattle.matroid.proofs.OneMatroid.{as_good_as_best}

-- a set of the same size that weighs as much as a best one is a best one too
pub returns : goal.returns
returns c = as_good_as_best
