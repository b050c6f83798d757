use Rattle.std.proofs.Common.{◌≡◌, ℕ, ◌+◌, List, true, not, sym, ap, ◌∙◌, subst, arith}
use Rattle.matroid.specs.Rules.{allows}
use Rattle.sets.specs.Bits.{marked}
use Rattle.exchange.specs.Graph.{arc, table}
use Rattle.exchange.proofs.Arcs.{arc_none, others_more, others_same, others_le, sides_differ, sides_agree}
use Rattle.exchange.proofs.Cells.{WrittenTo, row_passed, row_joined, rows_kept}
use Rattle.exchange.proofs.tables.arcs_from.Goals as goal
use Rattle.exchange.proofs.tables.arcs_from.Goals.{then-holds-inside+then-exchanged, then-holds-inside+else-exchanged, else-holds-inside}

pub overflow_add-asked : goal.overflow_add-asked
overflow_add-asked c =
    let l = others_le (marked c.args.set.now) (marked c.args.set.now c.args.v) c.loop-u.u in
    omega (arith, c.loop-u.invariant.2)

pub loop-u-preserved : goal.loop-u-preserved
loop-u-preserved c =
    let n = c.args.oracle.now.n in
    let s = marked c.args.set.now in
    let v = c.args.v in
    let u = c.loop-u.u in
    let f = allows c.args.oracle.now.file.now n c.args.oracle.now.rule in
    elim c.if-holds-inside.branch [
      | then-holds-inside+then-exchanged w ↦
          let far : s u ≡ not (s v) =
          sym c.holds.ensures ∙ sides_differ _ _ w.if-holds-inside.true ∙ ap not c.holds-inside.ensures in (
            subst (λ (x : List ℕ). WrittenTo n (u + 1) (table n x v) (arc f f s v)) (sym w.arcs-is)
                (row_joined n c.loop-u.arcs w.join.new.arcs v u (arc f f s v) w.join.ensures c.requires.below c.loop-u-test.true
                (sym w.exchanged.ensures ∙ w.if-exchanged.true) c.loop-u.invariant.0),
            (λ i j p q e.
                ap (λ (x : List ℕ). table n x i j) w.arcs-is ∙ rows_kept n c.loop-u.arcs w.join.new.arcs v u true w.join.ensures i j p q e
                ∙ c.loop-u.invariant.1 i j p q e),
            w.asked-is ∙ others_more s (s v) u c.loop-u.asked far c.loop-u.invariant.2,
          )
      | then-holds-inside+else-exchanged w ↦
          let far : s u ≡ not (s v) =
          sym c.holds.ensures ∙ sides_differ _ _ w.if-holds-inside.true ∙ ap not c.holds-inside.ensures in (
            subst (λ (x : List ℕ). WrittenTo n (u + 1) (table n x v) (arc f f s v)) (sym w.arcs-is)
                (row_passed n u (table n c.loop-u.arcs v) (arc f f s v) c.loop-u-test.true (sym w.exchanged.ensures ∙ w.if-exchanged.false)
                c.loop-u.invariant.0),
            (λ i j p q e. ap (λ (x : List ℕ). table n x i j) w.arcs-is ∙ c.loop-u.invariant.1 i j p q e),
            w.asked-is ∙ others_more s (s v) u c.loop-u.asked far c.loop-u.invariant.2,
          )
      | else-holds-inside w ↦
          let near : s u ≡ s v =
          sym c.holds.ensures ∙ sides_agree _ _ w.if-holds-inside.false ∙ c.holds-inside.ensures in (
            subst (λ (x : List ℕ). WrittenTo n (u + 1) (table n x v) (arc f f s v)) (sym w.arcs-is)
                (row_passed n u (table n c.loop-u.arcs v) (arc f f s v) c.loop-u-test.true (arc_none f f s v u near) c.loop-u.invariant.0),
            (λ i j p q e. ap (λ (x : List ℕ). table n x i j) w.arcs-is ∙ c.loop-u.invariant.1 i j p q e),
            w.asked-is ∙ others_same s (s v) u c.loop-u.asked near c.loop-u.invariant.2,
          )
    ]
