use Rattle.weighted.proofs.theory.dual_sets_exist.Goals as goal
use Rattle.weighted.proofs.Existence.{dual_exists}

-- a set with a dual set
pub returns : goal.returns
returns c = dual_exists
