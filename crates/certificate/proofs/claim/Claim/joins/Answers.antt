use Rattle.std.proofs.Common.{◌≡◌, sym, ◌∙◌, rules}
use Rattle.sets.specs.Bits.{marked}
use Rattle.sets.specs.Matroid.{both, outside, with}
use Rattle.matroid.specs.TwoRules.{by_first, by_second}
use Rattle.matroid.proofs.RuleLaws.{rule_matroid}
use Rattle.matroid.proofs.Along.{with_alike}
use Rattle.certificate.specs.Layout.{largest_set, dual_set}
use Rattle.certificate.proofs.Sides.{joins_within, joins_beyond}
use Rattle.certificate.proofs.claim.Claim.joins.Goals as goal

pub returns-then-in_row-2 : goal.returns-then-in_row-2
returns-then-in_row-2 c =
    let o = c.args.self.now.offers in
    let n = o.problem.n in
    let s = largest_set n c.args.self.now.sheet.now in
    let u = dual_set n c.args.self.now.sheet.now in
    let f = by_first o.file.now o.problem in
    let x = c.args.x in
    let says : c.can_add.result ≡ f (with (marked c.args.inside.now) x) = search rules in
    joins_within f (by_second o.file.now o.problem) s u x (sym c.in_row-2.ensures ∙ c.if-in_row-2.true) (sym c.in_row.ensures ∙ c.if-in_row.false)
    c.can_add.result
    (says ∙ with_alike (rule_matroid o.file.now n o.problem.first c.requires.usable.first) (both s u) (marked c.args.inside.now) x c.requires.inner)

pub returns : goal.returns
returns c =
    let o = c.args.self.now.offers in
    let n = o.problem.n in
    let s = largest_set n c.args.self.now.sheet.now in
    let u = dual_set n c.args.self.now.sheet.now in
    let g = by_second o.file.now o.problem in
    let x = c.args.x in
    let says : c.can_add-2.result ≡ g (with (marked c.args.beyond.now) x) = search rules in
    joins_beyond (by_first o.file.now o.problem) g s u x (sym c.in_row-2.ensures ∙ c.if-in_row-2.false) (sym c.in_row.ensures ∙ c.if-in_row.false)
    c.can_add-2.result
    (says ∙ with_alike (rule_matroid o.file.now n o.problem.second c.requires.usable.second) (outside s u) (marked c.args.beyond.now) x c.requires.outer)
