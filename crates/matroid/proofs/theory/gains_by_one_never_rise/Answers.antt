use Rattle.matroid.proofs.theory.gains_by_one_never_rise.Goals as goal
use Rattle.matroid.proofs.Gains.{gains_by_one}

-- one matroid: from size to size no more is gained than before
pub returns : goal.returns
returns c = gains_by_one
