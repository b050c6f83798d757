use Rattle.matroid.proofs.theory.gains_never_rise.Goals as goal
use Rattle.matroid.proofs.Gains.{gains_never_rise}

-- two matroids: from size to size no more is gained than before
pub returns : goal.returns
returns c = gains_never_rise
