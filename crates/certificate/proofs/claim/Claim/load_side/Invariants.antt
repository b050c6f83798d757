use Rattle.std.proofs.Common.{◌≡◌, ℕ, ◌<◌, ◌≤◌, not, ◌&&◌}
use Rattle.sets.specs.Bits.{marked}
use Rattle.sets.specs.Matroid.{pick}
use Rattle.certificate.specs.Layout.{largest_set, dual_set}
use Rattle.certificate.proofs.claim.Claim.load_side.Given as goal

abbrev pub invariant-loop-x : goal.invariant-loop-x
invariant-loop-x l =
    let n = l.self.offers.problem.n in
    let s = largest_set n l.self.sheet.now in
    let u = dual_set n l.self.sheet.now in
    ((v : ℕ) → v < l.x → marked l.set v ≡ (s v && pick l.inner (u v) (not (u v)))) ×
    ((v : ℕ) → l.x ≤ v → v < n → marked l.set v ≡ s v)
