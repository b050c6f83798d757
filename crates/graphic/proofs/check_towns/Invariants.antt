use Rattle.std.proofs.Common.{◌≡◌, ◌+◌, ◌-◌, ◌*◌, ◌≤◌, length}
use Rattle.graphic.specs.Links.{read_towns}
use Rattle.graphic.proofs.check_towns.Given as goal

-- what is left to read gives the answer
abbrev pub invariant-loop-j : goal.invariant-loop-j
invariant-loop-j l =
    (l.at + 2 * l.j ≤ length l.file)
    × (read_towns l.file l.towns (l.count - l.j) (l.at + 2 * l.j) ≡ read_towns l.file l.towns l.count l.at)
