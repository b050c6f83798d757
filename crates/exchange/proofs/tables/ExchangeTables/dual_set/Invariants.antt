use Rattle.std.proofs.Common.{◌-◌}
use Rattle.sets.specs.Bits.{marked}
use Rattle.sets.specs.Matroid.{Set, size, Within}
use Rattle.exchange.specs.Graph.{table}
use Rattle.exchange.proofs.Growing.{Backwards}
use Rattle.exchange.proofs.tables.ExchangeTables.dual_set.Given as goal

abbrev pub invariant-loop : goal.invariant-loop
invariant-loop l =
    Within l.n (marked l.self.sinks.now) (marked l.dual)
    × ((t : Set) → Within l.n (marked l.self.sinks.now) t → Backwards l.n (table l.n l.self.arcs.now) t → Within l.n (marked l.dual) t)

abbrev pub decreases-loop : goal.decreases-loop
decreases-loop l = l.n - size l.n (marked l.dual)
