use Rattle.std.proofs.Common.{ℕ, ◌+◌, Some, None, arith, rules}
use Rattle.std.proofs.lemmas.Iterator.{first_from_Range}
use Rattle.sets.specs.Bits.{marked}
use Rattle.sets.specs.declared.refusal.Refusal.TheVariants.{Split}
use Rattle.matroid.specs.Problem.{weight_of}
use Rattle.matroid.specs.TwoRules.{by_first, by_second}
use Rattle.certificate.specs.Layout.{part}
use Rattle.certificate.specs.Faults.{Misjudged}
use Rattle.certificate.proofs.LeastOffers.{least_offer, no_offer}
use Rattle.certificate.proofs.claim.Claim.check_numbers.Goals as goal

pub returns-in-Some : goal.returns-in-Some
returns-in-Some c =
    let o = c.args.self.now.offers in
    let sheet = c.args.self.now.sheet.now in
    let P : ℕ → Type 0 = Misjudged o.problem.n (by_first o.file.now o.problem) (by_second o.file.now o.problem) (weight_of o.file.now)
    (part sheet c.args.at) (part sheet (c.args.at + 8)) (marked c.args.set.now) in
    least_offer o.problem.n P (Split c.args.k) c.in-Some.x
    (first_from_Range _ _ _ (Some c.in-Some.x) P (λ z. P z → ⊥) c.in-Some.ensures.ran (λ x q k. grind arith) (λ x q k. (search rules, grind arith)))

pub returns-in-None : goal.returns-in-None
returns-in-None c =
    let o = c.args.self.now.offers in
    let sheet = c.args.self.now.sheet.now in
    let P : ℕ → Type 0 = Misjudged o.problem.n (by_first o.file.now o.problem) (by_second o.file.now o.problem) (weight_of o.file.now)
    (part sheet c.args.at) (part sheet (c.args.at + 8)) (marked c.args.set.now) in
    no_offer o.problem.n P (Split c.args.k)
    (first_from_Range _ _ _ None P (λ z. P z → ⊥) c.in-None.ensures.ran (λ x q k. grind arith) (λ x q k. (search rules, grind arith)))
