use Rattle.std.proofs.Common.{◌≡◌, true, false, Some, None, arith, rules, tests}
use Rattle.std.proofs.lemmas.Iterator.{first_from_Range}
use Rattle.sets.specs.Bits.{row}
use Rattle.certificate.specs.Faults.{missing, stray}
use Rattle.certificate.proofs.claim.Claim.check_row.Goals as goal

pub returns-then-self-at : goal.returns-then-self-at
returns-then-self-at c = missing (omega arith)

pub returns-in-Some : goal.returns-in-Some
returns-in-Some c =
    let bit = row c.args.self.now.sheet.now c.args.at in
    let first = first_from_Range _ _ _ (Some c.in-Some.j) (λ k. bit k ≡ true) (λ k. bit k ≡ false) c.in-Some.ensures.ran
    (λ x q k. search (rules, tests)) (λ x q k. (search rules, search (rules, tests))) in
    stray c.in-Some.j (omega arith) first.0 (omega (arith, first.1)) first.2

pub returns-in-None : goal.returns-in-None
returns-in-None c =
    let bit = row c.args.self.now.sheet.now c.args.at in
    let none = first_from_Range _ _ _ None (λ k. bit k ≡ true) (λ k. bit k ≡ false) c.in-None.ensures.ran
    (λ x q k. search (rules, tests)) (λ x q k. (search rules, search (rules, tests))) in
    record { whole = omega arith; clear = λ k l h. none k l (omega arith) }
