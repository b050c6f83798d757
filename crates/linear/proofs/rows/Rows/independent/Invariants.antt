use Rattle.sets.specs.Bits.{marked}
use Rattle.linear.specs.Rows.{number}
use Rattle.linear.specs.Kept.{functional, Dual}
use Rattle.linear.proofs.rows.Rows.independent.Given as goal

abbrev pub invariant-loop-x : goal.invariant-loop-x
invariant-loop-x l = Dual l.self.prime l.self.len (number l.self.file.now l.self.len l.self.at) (functional l.state) l.x (marked l.set)
