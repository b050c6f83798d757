use Rattle.std.proofs.Common.{◌≡◌, ◌/◌, ◌%◌, ◌^◌}
use Rattle.sets.specs.Bits.{le, SameBut}
use Rattle.sets.proofs.numbers.write.Given as goal

abbrev pub invariant-loop-k : goal.invariant-loop-k
invariant-loop-k g l =
    (l.left ≡ l.value / 256 ^ l.k) × (le l.k l.bytes l.at ≡ l.value % 256 ^ l.k) × SameBut l.at l.k l.initial.bytes l.bytes
