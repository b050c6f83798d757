use Rattle.std.proofs.Common.{◌≡◌, ◌+◌, ◌-◌, false, length}
use Rattle.sets.specs.Bits.{word_row}
use Rattle.sets.specs.Matroid.{size}
use Rattle.transversal.specs.Pairs.{at, named, by_rows}
use Rattle.transversal.proofs.Going.{Going}
use Rattle.transversal.proofs.reach.Reach.to.Given as goal

abbrev pub invariant-loop-head : goal.invariant-loop-head
invariant-loop-head l = record {
  going : Going (by_rows l.rows.words.now l.rows.n) l.rows.n l.rows.volunteers (named l.matching.tends) (named l.matching.owner) (word_row l.reach.reached 0) (at l.reach.queue) (at l.reach.via) l.reach.len l.head;
  out : word_row l.reach.reached 0 l.x ≡ false;
  reached : length l.reach.reached ≡ 19;
  via : length l.reach.via ≡ 600;
  queue : length l.reach.queue ≡ 1200;
}

-- each turn an offer is come to, or a volunteer is done
abbrev pub decreases-loop-head : goal.decreases-loop-head
decreases-loop-head l = (l.rows.n - size l.rows.n (word_row l.reach.reached 0)) + (1200 - l.head)
