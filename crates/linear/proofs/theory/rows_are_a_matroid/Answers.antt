use Rattle.linear.proofs.Laws.{rows_matroid}
use Rattle.linear.proofs.theory.rows_are_a_matroid.Goals as goal

pub returns : goal.returns
returns c = rows_matroid
