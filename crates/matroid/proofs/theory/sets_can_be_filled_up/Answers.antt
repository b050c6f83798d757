use Rattle.matroid.proofs.theory.sets_can_be_filled_up.Goals as goal
use Rattle.matroid.proofs.OneMatroid.{extension}

-- an allowed set can be filled up from another that is no smaller
pub returns : goal.returns
returns c = extension
