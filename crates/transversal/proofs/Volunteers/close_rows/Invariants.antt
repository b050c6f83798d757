use Rattle.sets.specs.Bits.{row_words}
use Rattle.transversal.specs.Volunteers.{in_row}
use Rattle.transversal.proofs.Closing.{Closing}
use Rattle.transversal.proofs.Volunteers.close_rows.Given as goal

abbrev pub invariant-loop-j : goal.invariant-loop-j
invariant-loop-j l = Closing l.self.n (in_row l.initial.state (row_words l.self.n)) (in_row l.state (row_words l.self.n)) l.j
