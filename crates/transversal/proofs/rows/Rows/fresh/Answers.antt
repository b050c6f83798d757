use Rattle.std.proofs.Common.{◌*◌, ⊎_elim, arith}
use Rattle.std.proofs.lemmas.Bool.{cases_lt}
use Rattle.transversal.proofs.rows.Rows.fresh.Goals as goal

-- nothing new was found in the word
pub loop-k-preserved : goal.loop-k-preserved
loop-k-preserved c = λ y h l p. ⊎_elim (λ q. c.loop-k.invariant y q l p) (λ q. c.in_default.ensures y q (omega arith) l p) (cases_lt y (32 * c.loop-k.k))
