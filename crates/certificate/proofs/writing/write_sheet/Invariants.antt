use Rattle.std.proofs.Common.{◌≡◌, ℕ, ◌≤◌, get_or}
use Rattle.certificate.specs.Layout.{row_at}
use Rattle.certificate.specs.Writing.{Written}
use Rattle.certificate.proofs.writing.write_sheet.Given as goal

abbrev pub invariant-loop-i : goal.invariant-loop-i
invariant-loop-i l =
    Written l.n l.sets l.numbers l.sheet l.i ×
    ((p : ℕ) → row_at l.n l.i ≤ p → get_or l.sheet p 0 ≡ get_or l.initial.sheet p 0)
