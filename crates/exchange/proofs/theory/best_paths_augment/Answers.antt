use Rattle.exchange.proofs.theory.best_paths_augment.Goals as goal
use Rattle.exchange.proofs.BestPaths.{best_augments}
use Rattle.matroid.proofs.TightExchanges.{many_exchanges_by_keys_and_one}

-- any best path leads to a set that both matroids allow
pub returns : goal.returns
returns c = best_augments many_exchanges_by_keys_and_one
