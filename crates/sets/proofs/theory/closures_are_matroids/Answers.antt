use Rattle.sets.proofs.theory.closures_are_matroids.Goals as goal
use Rattle.sets.proofs.ClosureTheorem.{closure_matroid}

-- the closure theorem
pub returns : goal.returns
returns c = closure_matroid
