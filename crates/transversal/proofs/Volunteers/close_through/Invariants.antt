use Rattle.std.proofs.Common.{◌≡◌, ℕ, ◌<◌, ◌≤◌}
use Rattle.transversal.specs.Volunteers.{in_row}
use Rattle.transversal.specs.Pairs.{through}
use Rattle.transversal.proofs.Volunteers.close_through.Given as goal

abbrev pub invariant-loop-k : goal.invariant-loop-k
invariant-loop-k l =
    ((k x : ℕ) → k < l.k → x < l.self.n → in_row l.state l.width k x ≡ through (in_row l.initial.state l.width) l.j k x)
    × ((k x : ℕ) → l.k ≤ k → x < l.self.n → in_row l.state l.width k x ≡ in_row l.initial.state l.width k x)
