use Rattle.std.proofs.Common.{length, sym, inl, inr}
use Rattle.std.proofs.lemmas.Result.{err_from_is_err_and, MatchResult-weaker}
use Rattle.certificate.proofs.Accepting.{proven, refused_file, not_certified}
use Rattle.certificate.proofs.offers.check.Goals as goal

pub returns-in_err-problem : goal.returns-in_err-problem
returns-in_err-problem c =
    let p = err_from_is_err_and c.from_residual.result c.from_residual.ensures.1 in
    let e = c.in_err-problem.field-0.0 in
    rw (p.1, p.2) (
      inl c.in_err-problem.ensures.meaning,
      λ problem d. refused_file c.args.file.now e (sym c.in_err-problem.ensures.answer) problem d.0,
    )

pub returns : goal.returns
returns c =
    let file = c.args.file.now in
    let sheet = c.args.sheet.now in
    let words = length c.args.work.now in
    let problem = c.in_ok-problem.problem in
    let m = c.in_ok-problem.ensures.meaning in
    MatchResult-weaker c.check.result c.check.ensures.answer
    (λ k h. (problem, (m, h.1, h.2), proven file sheet problem k m h.0 h.1))
    (λ e h. (inr (problem, m, h), λ other d. not_certified file sheet words problem e m h other d))
