use Rattle.std.proofs.Common.{◌≡◌, ℕ, ◌-◌, ◌<◌}
use Rattle.matroid.specs.Rules.{allows}
use Rattle.sets.specs.Bits.{marked}
use Rattle.sets.specs.Matroid.{pick, size}
use Rattle.exchange.specs.Graph.{arc, table}
use Rattle.exchange.proofs.Cells.{WrittenTo}
use Rattle.exchange.proofs.tables.arcs_from.Given as goal

abbrev pub invariant-loop-u : goal.invariant-loop-u
invariant-loop-u l =
    WrittenTo l.oracle.n l.u (table l.oracle.n l.arcs l.v) (arc (allows l.oracle.file.now l.oracle.n l.oracle.rule) (allows l.oracle.file.now l.oracle.n l.oracle.rule) (marked l.set) l.v)
    × ((i u : ℕ) → i < l.oracle.n → u < l.oracle.n → (i ≡ l.v → ⊥) → table l.oracle.n l.arcs i u ≡ table l.oracle.n l.initial.arcs i u)
    × (l.asked ≡ pick (marked l.set l.v) (l.u - size l.u (marked l.set)) (size l.u (marked l.set)))
