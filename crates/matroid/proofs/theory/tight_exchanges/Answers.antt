use Rattle.matroid.proofs.theory.tight_exchanges.Goals as goal
use Rattle.matroid.proofs.TightExchanges.{tight_exchanges}

-- exchanges of equal potentials along a path leave a best set
pub returns : goal.returns
returns c = tight_exchanges
