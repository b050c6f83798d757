use Rattle.std.proofs.Common.{◌≡◌, ◌+◌, ◌-◌, ◌*◌, ◌%◌, ◌<◌, get_or, arith}
use Rattle.laminar.proofs.Bytes.{few_bits, all_bits}
use Rattle.laminar.proofs.Limits.offers_in.Goals as goal

pub returns-then-k-self : goal.returns-then-k-self
returns-then-k-self c =
    let b : get_or c.args.self.now.file.now (c.group_at.result + 2 + c.args.k) 0 < 256 = omega arith in
    rw (← c.group_at.ensures) (all_bits _ _ b (omega arith))

pub returns-else-k-self : goal.returns-else-k-self
returns-else-k-self c =
    let m : c.args.self.now.n % 8 ≡ c.args.self.now.n - 8 * c.args.k = omega arith in
    rw (c.group_at.ensures, ← m) (few_bits _ _ (omega arith))
