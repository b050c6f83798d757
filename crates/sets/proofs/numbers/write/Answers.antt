-- Each turn writes the byte above those that were written.
use Rattle.std.proofs.Common.{arith}
use Rattle.sets.proofs.Digits.{le_higher}
use Rattle.sets.proofs.Stretches.{same_but_next}
use Rattle.sets.proofs.numbers.write.Goals as goal

pub loop-k-preserved : goal.loop-k-preserved
loop-k-preserved g c =
    let inv = c.loop-k.invariant in
    let e = le_higher c.loop-k.k c.loop-k.left c.args.value c.loop-k.bytes c.args.at (omega arith) inv.0 inv.1 in
    (e.0, e.1, same_but_next _ _ _ _ _ inv.2)
