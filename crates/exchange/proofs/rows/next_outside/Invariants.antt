use Rattle.std.proofs.Common.{◌≡◌, ℕ, ◌-◌, ◌<◌, ◌≤◌, false}
use Rattle.sets.specs.Bits.{marked, word_row}
use Rattle.sets.specs.Matroid.{outside}
use Rattle.exchange.proofs.rows.next_outside.Given as goal

abbrev pub invariant-loop-i : goal.invariant-loop-i
invariant-loop-i l =
    (l.from ≤ l.i) × ((j : ℕ) → l.from ≤ j → j < l.i → outside (word_row l.row l.at) (marked l.other) j ≡ false)

abbrev pub decreases-loop-i : goal.decreases-loop-i
decreases-loop-i l = l.n - l.i
