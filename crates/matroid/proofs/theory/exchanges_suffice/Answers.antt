use Rattle.matroid.proofs.theory.exchanges_suffice.Goals as goal
use Rattle.matroid.proofs.Optimality.{exchanges_suffice}

-- the numbers need to be compared over exchanges only
pub returns : goal.returns
returns c = exchanges_suffice
