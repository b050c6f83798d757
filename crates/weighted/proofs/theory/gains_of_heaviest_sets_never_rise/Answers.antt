use Rattle.weighted.proofs.theory.gains_of_heaviest_sets_never_rise.Goals as goal
use Rattle.weighted.proofs.Existence.{heaviest_gains_never_rise}

-- gains of heaviest sets never rise
pub returns : goal.returns
returns c = heaviest_gains_never_rise
