use Rattle.std.proofs.Common.{◌≡◌, not, sym, ◌∙◌, rules}
use Rattle.std.proofs.lemmas.Bool.{and_parts}
use Rattle.sets.specs.Bits.{marked}
use Rattle.sets.proofs.MatroidLaws.{allowed_within}
use Rattle.matroid.specs.TwoRules.{by_first, by_second}
use Rattle.matroid.proofs.RuleLaws.{rule_matroid}
use Rattle.certificate.specs.Layout.{largest_set, dual_set}
use Rattle.certificate.proofs.claim.Claim.load_sides.Goals as goal

pub returns-clause-kept : goal.returns-clause-kept
returns-clause-kept c =
    let o = c.args.self.now.offers in
    let n = o.problem.n in
    let s = largest_set n c.args.self.now.sheet.now in
    let u = dual_set n c.args.self.now.sheet.now in
    let mf = rule_matroid o.file.now n o.problem.first c.requires.usable.first in
    let mg = rule_matroid o.file.now n o.problem.second c.requires.usable.second in
    let first_says : c.independent.result ≡ by_first o.file.now o.problem (marked c.load_side.new.set) = search rules in
    let second_says : c.independent-2.result ≡ by_second o.file.now o.problem (marked c.load_side-2.new.set) = search rules in
    let kept_first = simp (c.first.ensures.file, c.first.ensures.count, c.first.ensures.rule) at c.independent.ensures.kept in
    let kept_second = simp (c.second.ensures.file, c.second.ensures.count, c.second.ensures.rule) at c.independent-2.ensures.kept in
    record {
      by_first = kept_first (first_says ∙
          allowed_within mf (marked c.load_side.new.set) s (λ v l e. (and_parts (s v) (u v) (sym (c.load_side.ensures v l) ∙ e)).0) c.requires.first);
      by_second = kept_second (second_says ∙
          allowed_within mg (marked c.load_side-2.new.set) s (λ v l e. (and_parts (s v) (not (u v)) (sym (c.load_side-2.ensures v l) ∙ e)).0) c.requires.second);
    }
