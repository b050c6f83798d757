use Rattle.std.proofs.Common.{◌≡◌, not, sym, ap, ◌∙◌}
use Rattle.matroid.specs.Rules.{allows}
use Rattle.sets.specs.Bits.{marked}
use Rattle.exchange.specs.Graph.{addable}
use Rattle.exchange.proofs.Arcs.{addable_said, addable_not}
use Rattle.exchange.proofs.Cells.{written}
use Rattle.exchange.proofs.tables.addable_row.Goals as goal
use Rattle.exchange.proofs.tables.addable_row.Goals.{then-not-holds, else-not-holds}

pub loop-x-preserved : goal.loop-x-preserved
loop-x-preserved c = λ j h.
    let f = allows c.args.oracle.now.file.now c.args.oracle.now.n c.args.oracle.now.rule in
    let s = marked c.args.set.now in
    let x = c.loop-x.x in
    let said : c.if-not-holds.there ≡ addable f s x =
    elim c.if-not-holds.branch [
      | then-not-holds w ↦ w.there-is ∙ addable_said f s x _ (sym c.holds.ensures ∙ w.if-not-holds.true) w.can_add-there.ensures
      | else-not-holds w ↦ w.there-is ∙ ap not w.if-not-holds.false ∙ sym (addable_not f s x (sym c.holds.ensures ∙ w.if-not-holds.false))
    ] in
    written (marked c.put.new.row) (marked c.loop-x.row) (addable f s) x c.if-not-holds.there j (c.put.ensures j) said h
    (c.loop-x.invariant j)
