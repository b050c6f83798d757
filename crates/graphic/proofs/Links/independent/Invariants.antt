use Rattle.sets.specs.Bits.{marked}
use Rattle.graphic.specs.Links.{Ready}
use Rattle.graphic.proofs.Growing.{front}
use Rattle.graphic.proofs.Links.independent.Given as goal

-- the state is that of the links of the set before i
abbrev pub invariant-loop-i : goal.invariant-loop-i
invariant-loop-i l = Ready l.self.file.now l.self.n l.self.towns l.self.at (front (marked l.set) l.i) l.state
