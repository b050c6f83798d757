use Rattle.std.proofs.Common.{◌≡◌, ◌+◌, ◌-◌, ◌*◌, ◌≤◌, length}
use Rattle.sets.specs.Bits.{row_bytes}
use Rattle.transversal.specs.Reading.{read_rows}
use Rattle.transversal.proofs.parse.read_rows.Given as goal

abbrev pub invariant-loop-v : goal.invariant-loop-v
invariant-loop-v l =
    (read_rows l.file l.n l.volunteers (l.volunteers - l.v) (l.at + l.v * row_bytes l.n) ≡ read_rows l.file l.n l.volunteers l.volunteers l.at)
    × (l.at + l.v * row_bytes l.n ≤ length l.file)
