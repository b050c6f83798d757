use Rattle.std.proofs.Common.{◌≡◌, ℕ, ◌<◌}
use Rattle.sets.specs.Matroid.{pick}
use Rattle.sets.specs.Bits.{marked}
use Rattle.linear.specs.Rows.{number, span}
use Rattle.linear.specs.Kept.{functional, flag, Dual}
use Rattle.linear.proofs.rows.Rows.note_spanned.Given as goal

abbrev pub invariant-loop-x : goal.invariant-loop-x
invariant-loop-x l =
    Dual l.self.prime l.self.len (number l.self.file.now l.self.len l.self.at) (functional l.state) l.self.n (marked l.set)
    × ((y : ℕ) → y < l.x → flag l.state y ≡ pick (span l.self.file.now l.self.n l.self.prime l.self.len l.self.at (marked l.set) y) 1 0)
