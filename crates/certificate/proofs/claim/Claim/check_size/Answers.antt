use Rattle.std.proofs.Common.{◌≡◌, inr, arith}
use Rattle.std.proofs.lemmas.Result.{err_from_is_err_and, MatchResult-weaker}
use Rattle.sets.specs.Bits.{row_bytes, marked}
use Rattle.matroid.specs.Problem.{weight_of}
use Rattle.matroid.proofs.RuleLaws.{rule_matroid}
use Rattle.matroid.specs.TwoRules.{by_first, by_second}
use Rattle.certificate.proofs.SizeFaults.{right_set, wrong_set, right_numbers, wrong_numbers}
use Rattle.certificate.proofs.claim.Claim.check_size.Goals as goal

pub returns-in_err-check_set-clause-fault : goal.returns-in_err-check_set-clause-fault
returns-in_err-check_set-clause-fault c =
    let p = err_from_is_err_and c.from_residual.result c.from_residual.ensures.1 in
    let o = c.args.self.now.offers in
    rw (p.1, p.2)
    (wrong_set o.problem.n (by_first o.file.now o.problem) (by_second o.file.now o.problem) (weight_of o.file.now) c.args.self.now.sheet.now c.args.k
    c.requires.some c.requires.size c.row_at-at.result c.in_err-check_set.field-0.0 c.row_at-at.ensures.exact c.in_err-check_set.ensures.fault)

pub returns-clause-fault : goal.returns-clause-fault
returns-clause-fault c =
    let o = c.args.self.now.offers in
    let n = o.problem.n in
    let sheet = c.args.self.now.sheet.now in
    let f = by_first o.file.now o.problem in
    let g = by_second o.file.now o.problem in
    let w = weight_of o.file.now in
    let k = c.args.k in
    let a = c.requires.some in
    let b = c.requires.size in
    let at = c.row_at-at.result in
    let e = c.row_at-at.ensures.exact in
    let s = marked c.check_set.new.set in
    let ok = right_set n f g w sheet k a b at e c.in_ok-check_set.ensures.fault in
    let mf = rule_matroid o.file.now n o.problem.first c.requires.usable.first in
    let mg = rule_matroid o.file.now n o.problem.second c.requires.usable.second in
    let loaded = c.in_ok-check_set.ensures.loaded in
    let z : c.div_ceil.result ≡ row_bytes n = omega arith in
    MatchResult-weaker c.check_numbers.result (simp z at c.check_numbers.ensures)
    (λ x h. (ok, right_numbers n f g w sheet k a b mf mg at e s loaded h))
    (λ d h. inr (ok, wrong_numbers n f g w sheet k a b mf mg at e s loaded d h))
