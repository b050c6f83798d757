use Rattle.matroid.proofs.theory.best_sets_grow_by_the_heaviest.Goals as goal
use Rattle.matroid.proofs.OneMatroid.{best_of_one_more}

-- a best set with a heaviest of the elements that can be added is a best one
pub returns : goal.returns
returns c = best_of_one_more
