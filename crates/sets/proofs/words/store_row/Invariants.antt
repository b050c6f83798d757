use Rattle.std.proofs.Common.{◌+◌, ◌-◌, ◌*◌, ◌/◌, ◌%◌, ◌^◌, get_or}
use Rattle.sets.proofs.Stretches.{Rewritten}
use Rattle.sets.proofs.words.store_row.Given as goal

abbrev pub invariant-loop-k : goal.invariant-loop-k
invariant-loop-k l =
    Rewritten (λ k. get_or l.words (l.from + k / 4) 0 / 2 ^ (8 * (k % 4)) % 256 % 2 ^ (l.n - 8 * k)) l.to l.k l.initial.bytes l.bytes
