use Rattle.std.proofs.Common.{◌≡◌, ℕ, ◌<◌}
use Rattle.sets.specs.Bits.{marked}
use Rattle.transversal.specs.Pairs.{named, matched, Holds}
use Rattle.transversal.proofs.Matchings.{cut}
use Rattle.transversal.proofs.matching.Matching.of.Given as goal

abbrev pub invariant-loop-x : goal.invariant-loop-x
invariant-loop-x l = record {
  holds : Holds l.rows.words.now l.rows.n l.rows.volunteers l.matching.tends l.matching.owner;
  all : (u : ℕ) → u < l.rows.n → matched l.rows.volunteers (named l.matching.tends) u ≡ cut l.x (marked l.set) u;
}
