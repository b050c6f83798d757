use Rattle.matroid.proofs.theory.many_exchanges_and_one_more.Goals as goal
use Rattle.matroid.proofs.TightExchanges.{many_exchanges_and_one}

-- the same after an element is added
pub returns : goal.returns
returns c = many_exchanges_and_one
