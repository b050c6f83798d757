use Rattle.std.proofs.Common.{ℕ, ap, ◌∙◌}
use Rattle.sets.specs.Bits.{word_row}
use Rattle.exchange.specs.Graph.{table}
use Rattle.exchange.proofs.rows.joins.Goals as goal

pub returns : goal.returns
unfolding table
returns c = c.contains.ensures ∙ ap (λ (x : ℕ). word_row c.args.arcs.now x c.args.u) c.row_at.ensures
