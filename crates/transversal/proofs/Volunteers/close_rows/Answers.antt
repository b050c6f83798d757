use Rattle.std.proofs.Common.{sym, ◌∙◌}
use Rattle.transversal.proofs.RowFacts.{row_zero}
use Rattle.transversal.proofs.Closing.{closing_start, closing_more, closing_skip}
use Rattle.sets.specs.Bits.{row_words}
use Rattle.transversal.specs.Volunteers.{in_row}
use Rattle.transversal.proofs.Volunteers.close_rows.Goals as goal
use Rattle.transversal.proofs.Volunteers.close_rows.Goals.{then-contains, else-contains}

pub loop-j-init : goal.loop-j-init
loop-j-init c = closing_start c.args.self.now.n (in_row c.args.state.now (row_words c.args.self.now.n))

pub loop-j-preserved : goal.loop-j-preserved
loop-j-preserved c = elim c.if-contains.branch [
  | then-contains w ↦ rw w.state-is (closing_more c.args.self.now.n (in_row c.args.state.now (row_words c.args.self.now.n)) (in_row c.loop-j.state (row_words c.args.self.now.n)) (in_row w.close_through.new.state (row_words c.args.self.now.n)) c.loop-j.j
      c.loop-j.invariant c.loop-j-test.true w.close_through.ensures)
  | else-contains w ↦ rw w.state-is (closing_skip c.args.self.now.n (in_row c.args.state.now (row_words c.args.self.now.n)) (in_row c.loop-j.state (row_words c.args.self.now.n)) c.loop-j.j
      c.loop-j.invariant c.loop-j-test.true
      (λ x h. c.requires.empty c.loop-j.j x c.loop-j-test.true h (sym (row_zero c.args.set.now c.loop-j.j) ∙ (sym c.contains.ensures ∙ w.if-contains.false))))
]
