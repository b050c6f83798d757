use Rattle.matroid.proofs.theory.dual_sets_show_largest.Goals as goal
use Rattle.matroid.proofs.Optimality.{largest}

-- two matroids: a set with a dual set is a largest one that both allow
pub returns : goal.returns
returns c = largest
