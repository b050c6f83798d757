-- Each turn looks at one element.
use Rattle.std.proofs.Common.{ℕ, ◌+◌, ◌*◌, Bool}
use Rattle.sets.proofs.Marks.{count_in, count_out}
use Rattle.sets.proofs.bits.count.Goals as goal
use Rattle.sets.proofs.bits.count.Goals.{then-contains, else-contains}

pub loop-i-preserved : goal.loop-i-preserved
loop-i-preserved g c =
    let s : ℕ → Bool = λ i. g.T.Cell.element c.args.set.now (g.T.Cell.BITS * c.args.at + i) in
    elim c.if-contains.branch [
      | then-contains w ↦ count_in s _ _ _ _ c.loop-i.invariant c.contains.ensures w.if-contains.true w.total-is
      | else-contains w ↦ count_out s _ _ _ _ c.loop-i.invariant c.contains.ensures w.if-contains.false w.total-is
    ]
