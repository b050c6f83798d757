use Rattle.std.proofs.Common.{◌≡◌, ℕ}
use Rattle.sets.specs.Bits.{marked}
use Rattle.exchange.specs.Graph.{at}
use Rattle.exchange.specs.Round.{behind, toggled}
use Rattle.exchange.proofs.ends.toggle_path.Given as goal

abbrev pub invariant-loop : goal.invariant-loop
invariant-loop l =
    (l.v ≡ behind (at l.back) l.fn.end l.counter)
    × ((x : ℕ) → marked l.set x ≡ toggled (marked l.initial.set) (at l.back) l.fn.end l.counter x)
