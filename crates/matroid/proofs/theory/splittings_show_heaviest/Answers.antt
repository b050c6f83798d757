use Rattle.matroid.proofs.theory.splittings_show_heaviest.Goals as goal
use Rattle.matroid.proofs.Optimality.{heaviest}

-- two matroids: a set with a weight splitting is a heaviest one of its size
pub returns : goal.returns
returns c = heaviest
