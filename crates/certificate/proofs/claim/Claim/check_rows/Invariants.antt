use Rattle.std.proofs.Common.{ℕ, ◌<◌}
use Rattle.certificate.specs.Layout.{row_at, Clean}
use Rattle.certificate.proofs.claim.Claim.check_rows.Given as goal

abbrev pub invariant-loop-i : goal.invariant-loop-i
invariant-loop-i l = (h : ℕ) → h < l.i → Clean l.self.offers.problem.n l.self.sheet.now (row_at l.self.offers.problem.n h)
