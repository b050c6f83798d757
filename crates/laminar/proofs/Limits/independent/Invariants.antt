use Rattle.sets.specs.Bits.{marked}
use Rattle.laminar.specs.Limits.{Ready}
use Rattle.laminar.proofs.Limits.independent.Given as goal

abbrev pub invariant-loop-g : goal.invariant-loop-g
invariant-loop-g l = Ready l.self.file.now l.self.n l.g l.self.at (marked l.set) l.state
