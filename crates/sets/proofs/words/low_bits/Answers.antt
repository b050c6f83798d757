-- A byte is below 2 ^ n from n = 8 on.
use Rattle.std.proofs.Common.{◌^◌, ◌<◌, ◌≤◌, sym, mod-eq_of_lt, arith, pow_mono}
use Rattle.sets.proofs.words.low_bits.Goals as goal

pub returns-else-n-lt8 : goal.returns-else-n-lt8
returns-else-n-lt8 c =
    let l : 8 ≤ c.args.n = omega arith in
    let m : 2 ^ 8 ≤ 2 ^ c.args.n = pow_mono l in
    let b : c.args.byte < 2 ^ c.args.n = omega arith in
    sym (mod-eq_of_lt b)
