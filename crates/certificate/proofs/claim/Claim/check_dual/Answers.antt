use Rattle.std.proofs.Common.{ℕ, Some, None, arith, rules}
use Rattle.std.proofs.lemmas.Iterator.{first_from_Range}
use Rattle.sets.specs.declared.refusal.Refusal.TheVariants.{Dual}
use Rattle.matroid.specs.TwoRules.{by_first, by_second}
use Rattle.certificate.specs.Layout.{largest_set, dual_set}
use Rattle.certificate.specs.Faults.{Joins}
use Rattle.certificate.proofs.LeastOffers.{least_offer, no_offer}
use Rattle.certificate.proofs.claim.Claim.check_dual.Goals as goal

pub returns-in-Some-clause-fault : goal.returns-in-Some-clause-fault
returns-in-Some-clause-fault c =
    let o = c.args.self.now.offers in
    let P : ℕ → Type 0 = Joins (by_first o.file.now o.problem) (by_second o.file.now o.problem)
    (largest_set o.problem.n c.args.self.now.sheet.now) (dual_set o.problem.n c.args.self.now.sheet.now) in
    least_offer o.problem.n P Dual c.in-Some.x
    (first_from_Range _ _ _ (Some c.in-Some.x) P (λ z. P z → ⊥) c.in-Some.ensures.ran (λ x q k. grind arith) (λ x q k. (search rules, grind arith)))

pub returns-in-None-clause-fault : goal.returns-in-None-clause-fault
returns-in-None-clause-fault c =
    let o = c.args.self.now.offers in
    let P : ℕ → Type 0 = Joins (by_first o.file.now o.problem) (by_second o.file.now o.problem)
    (largest_set o.problem.n c.args.self.now.sheet.now) (dual_set o.problem.n c.args.self.now.sheet.now) in
    no_offer o.problem.n P Dual
    (first_from_Range _ _ _ None P (λ z. P z → ⊥) c.in-None.ensures.ran (λ x q k. grind arith) (λ x q k. (search rules, grind arith)))
