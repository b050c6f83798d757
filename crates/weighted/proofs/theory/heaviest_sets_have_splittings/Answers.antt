use Rattle.weighted.proofs.theory.heaviest_sets_have_splittings.Goals as goal
use Rattle.weighted.proofs.Converses.{heaviest_splits}

-- a heaviest set of its size has a weight splitting
pub returns : goal.returns
returns c = heaviest_splits
