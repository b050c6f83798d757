use Rattle.std.proofs.Common.{◌≡◌, ◌<◌, length, All, IfSome}
use Rattle.transversal.specs.Pairs.{at, named, by_rows, matched}
use Rattle.transversal.proofs.Pairing.{Shifting}
use Rattle.transversal.proofs.matching.Matching.place.Given as goal

abbrev pub invariant-loop-z : goal.invariant-loop-z
invariant-loop-z l = record {
  shifting : Shifting (by_rows l.rows.words.now l.rows.n) l.rows.n l.rows.volunteers (matched l.rows.volunteers (named l.initial.self.tends)) l.x (at l.reach.queue) (at l.reach.via)
      (named l.self.tends) (named l.self.owner) l.y;
  helpers : All (λ o. IfSome o (λ v. v < l.rows.volunteers)) l.self.tends;
  helped : All (λ o. IfSome o (λ x. x < l.rows.n)) l.self.owner;
  tends : length l.self.tends ≡ 600;
  owner : length l.self.owner ≡ 600;
}

-- each offer has its volunteer by an earlier place
abbrev pub decreases-loop-z : goal.decreases-loop-z
decreases-loop-z l = at l.reach.via l.y
