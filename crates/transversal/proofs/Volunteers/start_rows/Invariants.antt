use Rattle.std.proofs.Common.{◌≡◌, ℕ, ◌<◌, ◌≤◌}
use Rattle.transversal.specs.Volunteers.{in_row}
use Rattle.transversal.specs.Pairs.{named, can_by, start}
use Rattle.transversal.proofs.Volunteers.start_rows.Given as goal

abbrev pub invariant-loop-y : goal.invariant-loop-y
invariant-loop-y l =
    ((y x : ℕ) → y < l.y → x < l.self.n → in_row l.state l.width y x ≡ start (can_by l.initial.state l.self.n l.width) l.self.volunteers (named l.matching.tends) y x)
    × ((k x : ℕ) → l.self.n ≤ k → x < l.self.n → in_row l.state l.width k x ≡ in_row l.initial.state l.width k x)
