use Rattle.std.proofs.Common.{◌≡◌, ℕ, ◌<◌, ◌≤◌, false}
use Rattle.sets.specs.Bits.{row, row_bytes, SameBut}
use Rattle.certificate.proofs.writing.write_row.Given as goal

abbrev pub invariant-loop-j : goal.invariant-loop-j
invariant-loop-j l =
    ((k : ℕ) → k < l.n → row l.sheet l.to k ≡ row l.initial.sheet l.to k) ×
    ((k : ℕ) → l.n ≤ k → k < l.j → row l.sheet l.to k ≡ false) ×
    SameBut l.to (row_bytes l.n) l.initial.sheet l.sheet
