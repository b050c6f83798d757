use Rattle.std.proofs.Common.{◌≡◌, ℕ, ◌+◌, ◌*◌, ◌<◌, get_or}
use Rattle.sets.specs.Bits.{le8, SameBut}
use Rattle.certificate.proofs.writing.write_numbers.Given as goal

abbrev pub invariant-loop-x : goal.invariant-loop-x
invariant-loop-x l =
    ((k : ℕ) → k < l.x → le8 l.sheet (l.to + 8 * k) ≡ get_or l.numbers k 0) ×
    SameBut l.to (8 * l.x) l.initial.sheet l.sheet
