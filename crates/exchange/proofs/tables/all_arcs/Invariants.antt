use Rattle.std.proofs.Common.{◌≡◌, ℕ, ◌+◌, ◌-◌, ◌*◌, ◌<◌}
use Rattle.matroid.specs.TwoRules.{by_first, by_second}
use Rattle.sets.specs.Bits.{marked}
use Rattle.sets.specs.Matroid.{size}
use Rattle.exchange.specs.Graph.{arc, table}
use Rattle.exchange.proofs.tables.all_arcs.Given as goal

abbrev pub invariant-loop-v : goal.invariant-loop-v
invariant-loop-v l =
    let n = l.offers.problem.n in
    let f = by_first l.offers.file.now l.offers.problem in
    let g = by_second l.offers.file.now l.offers.problem in
    let s = marked l.set in
    ((v u : ℕ) → v < l.v → u < n → table n l.arcs v u ≡ arc f g s v u)
    × (l.asked ≡ size l.v s * (n - size n s) + (l.v - size l.v s) * size n s)
