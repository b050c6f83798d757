use Rattle.std.proofs.Common.{◌≡◌, ◌+◌, ◌≤◌, length, Ok}
use Rattle.laminar.specs.Limits.{group_at}
use Rattle.laminar.specs.Reading.{read_groups}
use Rattle.laminar.proofs.read.Given as goal

abbrev pub invariant-loop-g : goal.invariant-loop-g
invariant-loop-g l =
    (read_groups l.file l.n (l.p + 1) l.g ≡ Ok tt) ×
    (group_at l.n (l.p + 1) l.g ≤ length l.file)
