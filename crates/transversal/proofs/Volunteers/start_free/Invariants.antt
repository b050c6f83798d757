use Rattle.std.proofs.Common.{◌≡◌, ℕ, ◌<◌}
use Rattle.transversal.specs.Volunteers.{in_row}
use Rattle.transversal.specs.Pairs.{named, can_by, start_free}
use Rattle.transversal.proofs.Volunteers.start_free.Given as goal

abbrev pub invariant-loop-v : goal.invariant-loop-v
invariant-loop-v l =
    ((x : ℕ) → x < l.self.n → in_row l.state l.width l.self.n x ≡ start_free (can_by l.initial.state l.self.n l.width) l.self.n l.v (named l.matching.owner) x)
    × ((k x : ℕ) → (k ≡ l.self.n → ⊥) → x < l.self.n → in_row l.state l.width k x ≡ in_row l.initial.state l.width k x)
