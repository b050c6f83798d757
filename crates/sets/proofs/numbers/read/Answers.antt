-- Each turn reads the byte below those that were read.
use Rattle.std.proofs.Common.{◌+◌, ◌-◌, get_or, arith}
use Rattle.sets.proofs.Digits.{le_lower, le_room}
use Rattle.sets.proofs.numbers.read.Goals as goal

pub overflow_mul-value : goal.overflow_mul-value
overflow_mul-value g c =
    let r = le_room g.row.N c.loop-k.k c.loop-k.value 0 c.requires.width c.loop-k-test.true (omega arith) (omega arith) c.loop-k.invariant.1 in
    omega arith

pub overflow_add-value-in-loop-k : goal.overflow_add-value-in-loop-k
overflow_add-value-in-loop-k g c =
    let b = c.type_inv.bytes (c.args.at + (c.loop-k.k - 1)) in
    let r = le_room g.row.N c.loop-k.k c.loop-k.value (get_or c.args.bytes.now (c.args.at + (c.loop-k.k - 1)) 0) c.requires.width c.loop-k-test.true (omega arith) (omega arith) c.loop-k.invariant.1 in
    omega arith

pub loop-k-preserved : goal.loop-k-preserved
loop-k-preserved g c =
    let b = c.type_inv.bytes (c.args.at + (c.loop-k.k - 1)) in
    le_lower g.row.N c.loop-k.k c.loop-k.value c.args.bytes.now c.args.at (omega arith) c.loop-k-test.true (omega arith) c.loop-k.invariant
