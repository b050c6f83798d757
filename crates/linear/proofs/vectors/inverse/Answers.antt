-- Each turn makes one power more, and what it makes is below the prime.
use Rattle.std.proofs.Common.{rules, tests, ◌≡◌, ◌*◌, ◌%◌, ◌-◌, ◌<◌, ◌≤◌, sym, refl, ◌∙◌, zero-add, mod-eq_of_lt, arith}
use Rattle.std.proofs.lemmas.Fn.{serves_by}
use Rattle.std.proofs.lemmas.Iterator.{YieldsList-from_range}
use Rattle.std.proofs.lemmas.Iterator.Consumers.{fold_from_yields_List}
use native.Mathlib.Nat.{pow-zero}
use Rattle.linear.proofs.Steps.{powers_listed}
use Rattle.linear.proofs.vectors.inverse.Goals as goal

pub fold-requires-clause-callable : goal.fold-requires-clause-callable
fold-requires-clause-callable c =
    serves_by _ (λ xs q. (q.0.0.now ≡ c.args.c) × (q.0.1.now ≡ c.args.prime) × (q.1 ≤ 251))
    (λ xs q x v j r. let low : q.1 * c.args.c % c.args.prime < c.args.prime = omega arith in search (rules, tests))
    _ _ _ _ (refl, refl, omega arith) (λ xs t q x u y s j. search (rules, tests))

pub returns : goal.returns
returns c =
    fold_from_yields_List _ (λ x i. x * c.args.c % c.args.prime) 1 c.fold.result c.fold.ensures.ran
    (YieldsList-from_range 0 (c.args.prime - 2) (c.args.prime - 2) refl (omega arith)) (λ a x b q k. search (rules, tests))
    ∙ simp zero-add at (powers_listed c.args.prime c.args.c (c.args.prime - 2) 0 0 1 (rw pow-zero (sym (mod-eq_of_lt c.requires.field.0))))
