use Rattle.std.proofs.Common.{◌≡◌, ℕ, ◌<◌, false, MatchOption}
use Rattle.sets.specs.Bits.{marked}
use Rattle.sets.specs.Matroid.{both}
use Rattle.exchange.specs.Round.{lost}
use Rattle.exchange.specs.Graph.{at, Least}
use Rattle.exchange.proofs.ends.best_end.Given as goal

abbrev pub invariant-loop-x : goal.invariant-loop-x
invariant-loop-x l =
    MatchOption l.best ((x : ℕ) → x < l.x → both (marked l.sinks) (marked l.reached) x ≡ false)
    (λ t. Least l.x (both (marked l.sinks) (marked l.reached)) (lost (at l.prices.weights.now) (at l.prices.potentials.now) (at l.costs)) (at l.steps) t)
