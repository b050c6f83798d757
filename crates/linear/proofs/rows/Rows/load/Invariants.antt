use Rattle.std.proofs.Common.{◌≡◌, ℕ, ◌<◌, length, get_or}
use Rattle.linear.specs.Rows.{number}
use Rattle.linear.proofs.rows.Rows.load.Given as goal

abbrev pub invariant-loop-j : goal.invariant-loop-j
invariant-loop-j l =
    (length l.row ≡ 64)
    × ((k : ℕ) → k < l.j → get_or l.row k 0 ≡ number l.self.file.now l.self.len l.self.at l.i k)
