use Rattle.std.proofs.Common.{◌≡◌, ℕ, ◌<◌, true}
use Rattle.sets.specs.Bits.{marked}
use Rattle.exchange.specs.Graph.{table}
use Rattle.exchange.proofs.Growing.{Grown}
use Rattle.exchange.proofs.dual.grow.Given as goal

abbrev pub invariant-offers : goal.invariant-offers
invariant-offers l = Grown l.n (table l.n l.arcs) (marked l.initial.dual) (marked l.dual) l.v l.grown

abbrev pub invariant-loop-x : goal.invariant-loop-x
invariant-loop-x l =
    (l.dual ≡ l.initial.dual) × (l.grown ≡ l.initial.grown)
    × ((x : ℕ) → x < l.x → table l.n l.arcs l.v x ≡ true → marked l.initial.dual x ≡ true → ⊥)
