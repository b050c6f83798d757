use Rattle.std.proofs.Common.{◌≡◌, ℕ, ◌<◌}
use Rattle.matroid.specs.Rules.{allows}
use Rattle.sets.specs.Bits.{marked}
use Rattle.exchange.specs.Graph.{addable}
use Rattle.exchange.proofs.tables.addable_row.Given as goal

abbrev pub invariant-loop-x : goal.invariant-loop-x
invariant-loop-x l = (x : ℕ) → x < l.x → marked l.row x ≡ addable (allows l.oracle.file.now l.oracle.n l.oracle.rule) (marked l.set) x
