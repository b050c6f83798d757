use Rattle.matroid.proofs.theory.many_exchanges_by_keys.Goals as goal
use Rattle.matroid.proofs.TightExchanges.{many_exchanges_by_keys}

-- many exchanges at once, where exchanges between different pairs fall by keys
pub returns : goal.returns
returns c = many_exchanges_by_keys
