use Rattle.std.proofs.Common.{ℕ, ◌+◌, ◌*◌, ◌||◌, eqb, ap, ◌∙◌, arith}
use Rattle.sets.specs.Bits.{marked}
use Rattle.exchange.proofs.Cells.{cell_in}
use Rattle.exchange.proofs.rows.join.Goals as goal

pub returns : goal.returns
returns c = λ i j p q.
    cell_in c.args.n c.args.arcs.now c.insert.new.set c.args.v c.args.u (omega arith)
    (λ k. c.insert.ensures.members k ∙ ap (λ (x : ℕ). marked c.args.arcs.now k || eqb k (32 * x + c.args.u)) c.row_at.ensures) i j q
