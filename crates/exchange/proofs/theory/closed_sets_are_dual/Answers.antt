use Rattle.exchange.proofs.theory.closed_sets_are_dual.Goals as goal
use Rattle.exchange.proofs.DualSets.{dual_by_closed}

-- a set closed backwards from the sinks, with no source in it, is a dual set
pub returns : goal.returns
returns c = dual_by_closed
