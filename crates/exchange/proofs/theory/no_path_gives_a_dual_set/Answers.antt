use Rattle.exchange.proofs.theory.no_path_gives_a_dual_set.Goals as goal
use Rattle.exchange.proofs.DualSets.{dual_by_no_path}

-- where there is no augmenting path, what leads to a sink is a dual set
pub returns : goal.returns
returns c = dual_by_no_path
