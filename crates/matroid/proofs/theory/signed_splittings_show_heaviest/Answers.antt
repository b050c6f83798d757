use Rattle.matroid.proofs.theory.signed_splittings_show_heaviest.Goals as goal
use Rattle.matroid.proofs.Optimality.{heaviest_signed}

-- the same for numbers of either sign that add up to the weights
pub returns : goal.returns
returns c = heaviest_signed
