use Rattle.std.proofs.Common.{◌+◌, ◌/◌}
use Rattle.sets.specs.Bits.{SameBut}
use Rattle.sets.proofs.Transfer.{Loaded}
use Rattle.sets.proofs.words.load_row.Given as goal

abbrev pub invariant-loop-k : goal.invariant-loop-k
invariant-loop-k l =
    Loaded l.bytes l.at l.n l.words l.to ((l.n + 31) / 32) l.k × SameBut l.to ((l.n + 31) / 32) l.initial.words l.words
