use Rattle.matroid.proofs.theory.many_exchanges_at_once.Goals as goal
use Rattle.matroid.proofs.TightExchanges.{many_exchanges}

-- many exchanges at once, where no earlier element could go for a later one to come
pub returns : goal.returns
returns c = many_exchanges
