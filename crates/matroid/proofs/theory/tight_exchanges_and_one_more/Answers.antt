use Rattle.matroid.proofs.theory.tight_exchanges_and_one_more.Goals as goal
use Rattle.matroid.proofs.TightExchanges.{tight_exchanges_and_one}

-- the same after one of the heaviest elements that can be added is added
pub returns : goal.returns
returns c = tight_exchanges_and_one
