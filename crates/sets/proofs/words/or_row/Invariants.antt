use lib.Bits.{bit_or}
use Rattle.sets.proofs.Stretches.{Merged}
use Rattle.sets.proofs.words.or_row.Given as goal

abbrev pub invariant-loop-k : goal.invariant-loop-k
invariant-loop-k l = Merged bit_or l.from l.to l.k l.initial.words l.words
