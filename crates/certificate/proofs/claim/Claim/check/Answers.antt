use Rattle.std.proofs.Common.{◌≤◌, length, Err, refl, arith}
use Rattle.std.proofs.lemmas.Result.{err_from_is_err_and}
use Rattle.matroid.specs.Problem.{weight_of}
use Rattle.matroid.specs.TwoRules.{by_first, by_second}
use Rattle.certificate.specs.Validity.{work_length}
use Rattle.certificate.proofs.Assembly.{first_bytes, first_part_fault}
use Rattle.certificate.proofs.Validating.{clear_long, valid_shown, exactly}
use Rattle.certificate.proofs.claim.Claim.check.Goals as goal

pub returns-in_err-sizes : goal.returns-in_err-sizes
returns-in_err-sizes c =
    let p = err_from_is_err_and c.from_residual.result c.from_residual.ensures.1 in
    let o = c.args.self.now.offers in
    let n = o.problem.n in
    let f = by_first o.file.now o.problem in
    let g = by_second o.file.now o.problem in
    let w = weight_of o.file.now in
    let sheet = c.args.self.now.sheet.now in
    let words = length c.args.work.now in
    let e = c.in_err-sizes.field-0.0 in
    let a = first_bytes n f g w sheet words e c.in_err-sizes.ensures in
    rw (p.1, p.2) (record { answer = a; exact = exactly n f g w sheet words (Err e) a })

pub check_parts-requires-clause-long : goal.check_parts-requires-clause-long
check_parts-requires-clause-long c = clear_long c.args.self.now.offers.problem.n c.args.self.now.sheet.now c.in_ok-sizes.ensures.1

pub returns-in_err-check_parts : goal.returns-in_err-check_parts
returns-in_err-check_parts c =
    let p = err_from_is_err_and c.from_residual-in_err-check_parts.result c.from_residual-in_err-check_parts.ensures.1 in
    let o = c.args.self.now.offers in
    let n = o.problem.n in
    let f = by_first o.file.now o.problem in
    let g = by_second o.file.now o.problem in
    let w = weight_of o.file.now in
    let sheet = c.args.self.now.sheet.now in
    let words = length c.args.work.now in
    let e = c.in_err-check_parts.field-0.0 in
    let a = first_part_fault n f g w sheet words c.in_ok-sizes.ensures.1 (omega arith) e c.in_err-check_parts.ensures in
    rw (p.1, p.2) (record { answer = a; exact = exactly n f g w sheet words (Err e) a })

pub returns : goal.returns
returns c =
    let o = c.args.self.now.offers in
    let n = o.problem.n in
    let sheet = c.args.self.now.sheet.now in
    let l : work_length n ≤ length c.args.work.now = omega arith in
    let v = valid_shown n (by_first o.file.now o.problem) (by_second o.file.now o.problem) (weight_of o.file.now) sheet c.in_ok-sizes.ensures.1 c.in_ok-check_parts.ensures in
    record { answer = (c.in_ok-sizes.ensures.0, v, l); exact = (λ _. (v, l), λ _. refl) }
