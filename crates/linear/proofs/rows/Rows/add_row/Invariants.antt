use Rattle.std.proofs.Common.{◌≡◌, ℕ, ◌+◌, ◌*◌, ◌%◌, ◌<◌, ◌≤◌, get_or}
use Rattle.linear.specs.Rows.{number}
use Rattle.linear.proofs.rows.Rows.add_row.Given as goal

abbrev pub invariant-loop-j : goal.invariant-loop-j
invariant-loop-j l =
    ((k : ℕ) → k < l.j → get_or l.sum k 0 ≡ (get_or l.initial.sum k 0 + l.c * number l.self.file.now l.self.len l.self.at l.y k) % l.self.prime)
    × ((k : ℕ) → l.j ≤ k → get_or l.sum k 0 ≡ get_or l.initial.sum k 0)
