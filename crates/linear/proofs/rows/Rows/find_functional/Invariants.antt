use Rattle.std.proofs.Common.{◌≡◌, ℕ, ◌%◌, ◌<◌, get_or}
use Rattle.sets.specs.Bits.{marked}
use Rattle.linear.specs.Rows.{number}
use Rattle.linear.specs.Kept.{fresh, functional}
use Rattle.linear.proofs.rows.Rows.find_functional.Given as goal

abbrev pub invariant-loop-z : goal.invariant-loop-z
invariant-loop-z l =
    (j : ℕ) → j < l.self.len →
    get_or l.sum j 0 ≡ fresh l.self.prime (number l.self.file.now l.self.len l.self.at) (functional l.state) l.z (marked l.set) l.q l.scale j % l.self.prime
