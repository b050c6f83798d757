use Rattle.std.proofs.Common.{length, sym, refl, ◌∙◌, inl, inr, arith}
use Rattle.transversal.proofs.RowFacts.{kept_row, rows_off, other_row}
use Rattle.transversal.proofs.RowTurns.{through_more, through_took, through_left}
use Rattle.transversal.proofs.Volunteers.close_through.Goals as goal
use Rattle.transversal.proofs.Volunteers.close_through.Goals.{then-k-j+then-contains, else-k-j, else-k-j-via-then-k-j+else-contains, else-k-j-via-else-k-j}

pub or_row-requires : goal.or_row-requires
or_row-requires c = record {
  within = (
    kept_row c.args.j c.args.self.now.n c.width-width.result (length c.loop-k.state) c.width-width.ensures (omega arith) (omega arith),
    kept_row c.loop-k.k c.args.self.now.n c.width-width.result (length c.loop-k.state) c.width-width.ensures (omega arith) (omega arith),
  );
  apart = rows_off c.args.j c.loop-k.k c.width-width.result (λ e. c.if-k-j.true (sym e));
}

pub loop-k-preserved : goal.loop-k-preserved
loop-k-preserved c = elim c.if-k-j.branch [
  | then-k-j+then-contains w ↦ rw w.state-is (through_more c.args.self.now.n 0 c.width-width.result (omega arith) c.args.j c.loop-k.k c.args.state.now c.loop-k.state w.or_row.new.words (omega arith) c.loop-k.invariant
      (through_took c.args.self.now.n 0 c.width-width.result (omega arith) c.args.j c.loop-k.k c.args.state.now c.loop-k.state w.or_row.new.words (omega arith) c.loop-k.invariant
      (sym w.contains.ensures ∙ w.if-contains.true) w.or_row.ensures.marks)
      (λ z x d h. other_row c.loop-k.k z c.width-width.result c.loop-k.state w.or_row.new.words w.or_row.ensures.rest d x (omega arith)))
  | else-k-j w ↦ rw w.state-is (through_more c.args.self.now.n 0 c.width-width.result (omega arith) c.args.j c.loop-k.k c.args.state.now c.loop-k.state c.loop-k.state (omega arith) c.loop-k.invariant
      (through_left c.args.self.now.n 0 c.width-width.result (omega arith) c.args.j c.loop-k.k c.args.state.now c.loop-k.state (omega arith) c.loop-k.invariant.1
      (elim w.else-k-j.branch [
        | else-k-j-via-then-k-j+else-contains u ↦ inl (sym u.contains.ensures ∙ u.if-contains.false)
        | else-k-j-via-else-k-j u ↦ inr u.if-k-j.false
      ]))
      (λ z x d h. refl))
]
