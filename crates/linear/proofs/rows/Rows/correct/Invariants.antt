use Rattle.std.proofs.Common.{◌≡◌, ℕ, ◌+◌, ◌-◌, ◌*◌, ◌%◌, ◌<◌, ◌≤◌, true, get_or}
use Rattle.sets.specs.Bits.{marked}
use Rattle.linear.specs.Rows.{number}
use Rattle.linear.specs.Kept.{dot, functional}
use Rattle.linear.proofs.rows.Rows.correct.Given as goal

abbrev pub invariant-loop-z : goal.invariant-loop-z
invariant-loop-z l =
    ((z j : ℕ) → z < l.z → marked l.set z ≡ true → j < l.self.len →
    functional l.state z j ≡
    (functional l.initial.state z j + (l.self.prime - dot l.self.len (functional l.initial.state z) (number l.self.file.now l.self.len l.self.at l.r) % l.self.prime) * get_or l.g j 0) % l.self.prime)
    × ((k : ℕ) → 65 * l.z ≤ k → get_or l.state k 0 ≡ get_or l.initial.state k 0)
