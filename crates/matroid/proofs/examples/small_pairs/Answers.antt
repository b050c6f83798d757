use Rattle.matroid.proofs.examples.small_pairs.Goals as goal
use Rattle.matroid.proofs.SmallExchanges.{small_pairs}

-- two exchanges at once that have to be taken in order
pub returns : goal.returns
returns c = small_pairs
