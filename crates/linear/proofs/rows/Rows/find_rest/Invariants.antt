use Rattle.std.proofs.Common.{◌≡◌, ℕ, ◌%◌, ◌<◌, get_or}
use Rattle.sets.specs.Bits.{marked}
use Rattle.linear.specs.Rows.{number}
use Rattle.linear.specs.Kept.{rest, functional}
use Rattle.linear.proofs.rows.Rows.find_rest.Given as goal

abbrev pub invariant-loop-y : goal.invariant-loop-y
invariant-loop-y l =
    (j : ℕ) → j < l.self.len →
    get_or l.sum j 0 ≡
    rest l.self.prime l.self.len (number l.self.file.now l.self.len l.self.at) (functional l.state) l.y (marked l.set) (number l.self.file.now l.self.len l.self.at l.x) j % l.self.prime
