use Rattle.std.proofs.Common.{◌<◌, ◌≢◌, length, arith, get_or-set_other, get_or-set_same, below_more}
use Rattle.weighted.proofs.parts.load_weights.Goals as goal

pub loop-x-preserved : goal.loop-x-preserved
loop-x-preserved c =
    below_more _ _
    (λ k h. let ne : k ≢ c.loop-x.x = omega arith in rw get_or-set_other (c.loop-x.invariant k h))
    (let lt : c.loop-x.x < length c.loop-x.weights = omega arith in rw get_or-set_same c.weight.ensures)
