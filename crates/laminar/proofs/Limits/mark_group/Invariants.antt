use Rattle.laminar.specs.Limits.{Marked}
use Rattle.laminar.proofs.Limits.mark_group.Given as goal

abbrev pub invariant-loop-i : goal.invariant-loop-i
invariant-loop-i l = Marked l.self.file.now l.self.n l.self.at l.g l.i l.initial.state l.state
