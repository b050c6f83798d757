use Rattle.matroid.proofs.theory.signed_gains_never_rise.Goals as goal
use Rattle.matroid.proofs.Gains.{gains_never_rise_signed}

-- the same for numbers of either sign that add up to the weights
pub returns : goal.returns
returns c = gains_never_rise_signed
