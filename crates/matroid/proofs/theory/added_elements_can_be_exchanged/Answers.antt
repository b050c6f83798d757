use Rattle.matroid.proofs.theory.added_elements_can_be_exchanged.Goals as goal
use Rattle.matroid.proofs.OneMatroid.{exchange}

-- an element that can be added to a smaller part of a set can come for an element outside that part
pub returns : goal.returns
returns c = exchange
