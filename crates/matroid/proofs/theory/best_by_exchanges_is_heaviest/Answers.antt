use Rattle.matroid.proofs.theory.best_by_exchanges_is_heaviest.Goals as goal
use Rattle.matroid.proofs.OneMatroid.{heaviest_by_one}

-- one matroid: best by exchanges is heaviest of its size
pub returns : goal.returns
returns c = heaviest_by_one
