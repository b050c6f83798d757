use Rattle.std.proofs.Common.{zero-add, arith}
use Rattle.exchange.proofs.labelling.Labelling.begin.Goals as goal

pub returns-clause-rows : goal.returns-clause-rows
returns-clause-rows c = λ x p.
    (simp zero-add at c.copy.ensures.members x (omega arith), simp zero-add at c.clear.ensures.members x (omega arith))
