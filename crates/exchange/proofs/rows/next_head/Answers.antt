use Rattle.exchange.specs.Graph.{table}
use Rattle.exchange.proofs.rows.next_head.Goals as goal

pub returns : goal.returns
unfolding table
returns c = rw c.row_at.ensures at c.next_outside.ensures
