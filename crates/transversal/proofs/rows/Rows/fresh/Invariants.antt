use Rattle.std.proofs.Common.{◌≡◌, ℕ, ◌*◌, ◌<◌, true}
use Rattle.sets.specs.Bits.{word_row}
use Rattle.transversal.proofs.rows.Rows.fresh.Given as goal

abbrev pub invariant-loop-k : goal.invariant-loop-k
invariant-loop-k l = (y : ℕ) → y < 32 * l.k → y < l.self.n → word_row l.self.words.now l.row y ≡ true → word_row l.reached 0 y ≡ true
