use Rattle.std.proofs.Common.{◌≡◌, ◌-◌, ◌≤◌, length}
use Rattle.linear.specs.Reading.{read_numbers}
use Rattle.linear.proofs.check_numbers.Given as goal

-- what is left to read gives the answer
abbrev pub invariant-loop-place : goal.invariant-loop-place
invariant-loop-place l =
    (l.place ≤ length l.file)
    × (read_numbers l.file l.shape (l.place-end - l.place) l.place ≡ read_numbers l.file l.shape l.count l.at)
