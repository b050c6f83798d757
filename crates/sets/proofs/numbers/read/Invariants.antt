use Rattle.std.proofs.Common.{◌≡◌, ◌+◌, ◌-◌, ◌^◌, ◌<◌}
use Rattle.sets.specs.Bits.{le}
use Rattle.sets.proofs.numbers.read.Given as goal

abbrev pub invariant-loop-k : goal.invariant-loop-k
invariant-loop-k g l = (l.value ≡ le (g.row.N - l.k) l.bytes (l.at + l.k)) × (l.value < 256 ^ (g.row.N - l.k))
