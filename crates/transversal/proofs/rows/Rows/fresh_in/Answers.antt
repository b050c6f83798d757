use Rattle.std.proofs.Common.{refl, sym, ◌∙◌, arith}
use Rattle.std.proofs.lemmas.Bool.{ltb-true, ltb-false}
use Rattle.std.proofs.lemmas.Nat.{and_le_r}
use Rattle.transversal.proofs.RowFacts.{first_fresh}
use Rattle.transversal.proofs.rows.Rows.fresh_in.Goals as goal
use Rattle.transversal.proofs.rows.Rows.fresh_in.Goals.{then-fresh-ne0, else-fresh-ne0}

pub returns : goal.returns
returns c = elim c.if-fresh-ne0.branch [
  | then-fresh-ne0 w ↦ first_fresh c.args.self.now.words.now c.args.reached.now c.args.row c.args.self.now.n c.args.k _ _ _ refl (omega arith) (omega (arith, and_le_r)) c.then_some.ensures (λ h. (omega (arith, w.if-fresh-ne0.true), ltb-true _ _ (sym w.then_some-is ∙ h))) (λ h p. ltb-false _ _ (sym w.then_some-is ∙ h))
  | else-fresh-ne0 w ↦ first_fresh c.args.self.now.words.now c.args.reached.now c.args.row c.args.self.now.n c.args.k _ _ _ refl (omega arith) (omega (arith, and_le_r)) c.then_some.ensures (λ h. grind arith) (λ h p. omega (arith, w.if-fresh-ne0.false))
]
