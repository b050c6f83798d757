use Rattle.matroid.proofs.theory.exchanges_carry.Goals as goal
use Rattle.matroid.proofs.OneMatroid.{carry}

-- an exchange that frees the way for one element leaves the way for another free
pub returns : goal.returns
returns c = carry
