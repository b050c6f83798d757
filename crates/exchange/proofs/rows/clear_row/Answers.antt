use Rattle.std.proofs.Common.{ℕ, ap, ◌∙◌, sym, subst, arith}
use Rattle.sets.specs.Bits.{row_words, word_row, SameBut}
use Rattle.exchange.specs.Graph.{table}
use Rattle.exchange.proofs.Cells.{rows_beside}
use Rattle.exchange.proofs.rows.clear_row.Goals as goal

pub returns-clause-row : goal.returns-clause-row
unfolding table
returns-clause-row c = λ u h.
    ap (λ (x : ℕ). word_row c.clear.new.set x u) (sym c.row_at.ensures) ∙ c.clear.ensures.members u (omega (arith, c.div_ceil.ensures))

pub returns-clause-rest : goal.returns-clause-rest
returns-clause-rest c =
    let same : SameBut c.row_at.result (row_words c.args.n) c.args.arcs.now c.clear.new.set =
    subst (λ (m : ℕ). SameBut c.row_at.result m c.args.arcs.now c.clear.new.set) (omega (arith, c.div_ceil.ensures)) c.clear.ensures.rest in
    rows_beside c.args.n c.args.arcs.now c.clear.new.set c.args.v
    (subst (λ (x : ℕ). SameBut x (row_words c.args.n) c.args.arcs.now c.clear.new.set) c.row_at.ensures same)
