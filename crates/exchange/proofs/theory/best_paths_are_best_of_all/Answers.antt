use Rattle.exchange.proofs.theory.best_paths_are_best_of_all.Goals as goal
use Rattle.exchange.proofs.BestPaths.{best_among_all}

-- a path that is best among those that repeat no element is best among all
pub returns : goal.returns
returns c = best_among_all
