use Rattle.std.proofs.Common.{◌≡◌, ℕ, ◌<◌}
use Rattle.sets.specs.Bits.{row_words}
use Rattle.transversal.specs.Volunteers.{can_tend}
use Rattle.transversal.specs.Pairs.{can_by}
use Rattle.transversal.proofs.Volunteers.load_rows.Given as goal

abbrev pub invariant-loop-v : goal.invariant-loop-v
invariant-loop-v l = (v x : ℕ) → v < l.v → x < l.self.n → can_by l.state l.self.n (row_words l.self.n) v x ≡ can_tend l.self.file.now l.self.n l.self.at v x
