use Rattle.std.proofs.Common.{◌≡◌, ℕ, ◌*◌, ◌<◌, pos, ◌-ℤ◌}
use Rattle.exchange.specs.Graph.{at}
use Rattle.sets.specs.Bits.{SameBut}
use Rattle.weighted.specs.Choice.{first_part, second_part}
use Rattle.weighted.proofs.parts.write_parts.Given as goal

abbrev pub invariant-loop-x : goal.invariant-loop-x
invariant-loop-x l =
    ((k : ℕ) → k < l.x → first_part l.n l.numbers l.j k ≡ pos (at l.potentials k)) ×
    ((k : ℕ) → k < l.x → second_part l.n l.numbers l.j k ≡ pos (at l.weights k) -ℤ pos (at l.potentials k)) ×
    SameBut (2 * (l.j * l.n)) (2 * l.x) l.initial.numbers l.numbers
