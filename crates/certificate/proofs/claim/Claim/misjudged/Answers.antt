use Rattle.std.proofs.Common.{◌≡◌, ◌+◌, pos, ◌+ℤ◌, Decides, SFits, w64, rules}
use Rattle.std.proofs.lemmas.Int.{to_z-of_z}
use Rattle.std.proofs.lemmas.Bool.Decides.{not_from_Decides}
use Rattle.sets.specs.Bits.{marked}
use Rattle.matroid.specs.Problem.{weight_of}
use Rattle.matroid.specs.TwoRules.{by_first, by_second}
use Rattle.matroid.proofs.RuleLaws.{rule_matroid}
use Rattle.certificate.specs.Layout.{part}
use Rattle.certificate.proofs.Judging.{judged_by_sum, judged_chosen, judged_second}
use Rattle.certificate.proofs.claim.Claim.misjudged.Goals as goal

pub returns-then-not-adds_up : goal.returns-then-not-adds_up
returns-then-not-adds_up c =
    let o = c.args.self.now.offers in
    let sheet = c.args.self.now.sheet.now in
    let x = c.args.x in
    let p = part sheet c.args.at in
    let q = part sheet (c.args.at + 8) in
    let u : SFits w64 c.of.result = search rules in
    let v : SFits w64 c.of-2.result = search rules in
    let exact = simp to_z-of_z at c.adds_up.ensures in
    let sums : Decides c.adds_up.result (p x +ℤ q x ≡ pos (weight_of o.file.now x)) = simp (c.of.ensures, c.of-2.ensures, c.weight.ensures) at exact in
    judged_by_sum o.problem.n (by_first o.file.now o.problem) (by_second o.file.now o.problem) (weight_of o.file.now) p q (marked c.args.set.now) x
    c.adds_up.result sums c.if-not-adds_up.true

pub returns-then-contains : goal.returns-then-contains
returns-then-contains c =
    let o = c.args.self.now.offers in
    let sheet = c.args.self.now.sheet.now in
    judged_chosen o.problem.n (by_first o.file.now o.problem) (by_second o.file.now o.problem) (weight_of o.file.now) (part sheet c.args.at)
    (part sheet (c.args.at + 8)) (marked c.args.set.now) c.args.x (search rules) (search rules)

pub returns-else-outdoes : goal.returns-else-outdoes
returns-else-outdoes c =
    let o = c.args.self.now.offers in
    let sheet = c.args.self.now.sheet.now in
    let s = marked c.args.set.now in
    let x = c.args.x in
    let by_the_first = simp (c.first.ensures.file, c.first.ensures.count, c.first.ensures.rule) at c.outdoes.ensures in
    let by_the_second = simp (c.second.ensures.file, c.second.ensures.count, c.second.ensures.rule) at c.outdoes-else-outdoes.ensures in
    judged_second o.problem.n (by_first o.file.now o.problem) (by_second o.file.now o.problem) (weight_of o.file.now) (part sheet c.args.at) (part sheet (c.args.at + 8)) s x
    (rule_matroid o.file.now o.problem.n o.problem.first c.requires.usable.first) (rule_matroid o.file.now o.problem.n o.problem.second c.requires.usable.second)
    (search rules)
    (search rules)
    (not_from_Decides c.outdoes.result by_the_first c.if-outdoes.false)
    c.outdoes-else-outdoes.result by_the_second
