use Rattle.std.proofs.Common.{◌≡◌, ℕ, ◌<◌, false, length}
use Rattle.sets.specs.Bits.{word_row}
use Rattle.transversal.specs.Pairs.{at, named, Queued}
use Rattle.transversal.proofs.reach.Reach.start.Given as goal

abbrev pub invariant-loop-v : goal.invariant-loop-v
invariant-loop-v l = record {
  room : length l.reach.queue ≡ 1200;
  queue : Queued l.rows.n l.v (named l.matching.owner) (at l.reach.queue) l.reach.len;
  reached : (y : ℕ) → y < l.rows.n → word_row l.reach.reached 0 y ≡ false;
}
