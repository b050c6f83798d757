use Rattle.std.proofs.Common.{◌≤◌, length, is_ok, Ok, Result, sym, refl, ap, ◌∙◌, arith}
use Rattle.std.proofs.lemmas.Result.{err_from_is_err_and}
use Rattle.sets.specs.declared.refusal.Refusal.{Refusal}
use Rattle.matroid.specs.declared.problem.Problem.{Problem}
use Rattle.certificate.specs.Completeness.{longest}
use Rattle.certificate.proofs.Admission.{when_admitted, sheet_admitted, room, enough_work}
use Rattle.certificate.proofs.Accepted.{choice_of}
use Rattle.certificate.proofs.choosing.choose_and_check.Goals as goal

pub returns-in_err-answer : goal.returns-in_err-answer
returns-in_err-answer c =
    let p = err_from_is_err_and c.from_residual-in_err-answer.result c.from_residual-in_err-answer.ensures.1 in
    let b = c.in_err-answer.ensures in
    let problem = c.in_ok-problem.problem in
    let l : longest problem.n ≤ length c.args.sheet.now = omega (arith, c.row_at.ensures.exact) in
    let a = sheet_admitted c.args.file.now (length c.args.sets.now) (length c.args.numbers.now) (length c.args.sheet.now)
    (length c.args.work.now) problem (sym c.in_ok-problem.ensures.answer) l ∙ b.0 in
    rw (p.1, p.2) (record { accepted = sym (ap (λ (r : Result Problem Refusal). is_ok r) a); answer = (a, b.1, b.2, refl, b.3) })

pub write_and_check-requires : goal.write_and_check-requires
write_and_check-requires c =
    let file = c.args.file.now in
    let problem = c.in_ok-problem.problem in
    let size = c.in_ok-answer.answer.size in
    let h = c.in_ok-answer.ensures in
    let l : longest problem.n ≤ length c.args.sheet.now = omega (arith, c.row_at.ensures.exact) in
    let a = when_admitted file (length c.args.sets.now) (length c.args.numbers.now) (length c.args.work.now) problem h.0
    (sym c.in_ok-problem.ensures.answer) h.1 in
    let o = choice_of file problem h.0 size c.in_ok-answer.answer.rounds c.in_ok-answer.answer.calls c.args.sets.now
    c.args.numbers.now c.choose.new.sets c.choose.new.numbers a.0 h.2 in
    let r = room problem.n size (length c.args.sets.now) (length c.args.numbers.now) (length c.args.sheet.now) o.at_most_all a.1 a.2 l in
    let w = enough_work problem.n (length c.args.work.now) a.3 in
    record {
      meaning = c.in_ok-problem.ensures.meaning;
      choice = o.chosen;
      most = o.at_most_all;
      bits = omega (arith, r.0);
      parts = omega (arith, r.1);
      room = r.2;
      words = omega (arith, w);
    }

pub returns : goal.returns
returns c =
    let file = c.args.file.now in
    let problem = c.in_ok-problem.problem in
    let size = c.in_ok-answer.answer.size in
    let h = c.in_ok-answer.ensures in
    let l : longest problem.n ≤ length c.args.sheet.now = omega (arith, c.row_at.ensures.exact) in
    let a = when_admitted file (length c.args.sets.now) (length c.args.numbers.now) (length c.args.work.now) problem h.0
    (sym c.in_ok-problem.ensures.answer) h.1 in
    let o = choice_of file problem h.0 size c.in_ok-answer.answer.rounds c.in_ok-answer.answer.calls c.args.sets.now
    c.args.numbers.now c.choose.new.sets c.choose.new.numbers a.0 h.2 in
    let d = sheet_admitted file (length c.args.sets.now) (length c.args.numbers.now) (length c.args.sheet.now) (length c.args.work.now)
    problem (sym c.in_ok-problem.ensures.answer) l ∙ h.1 ∙ ap Ok a.0 in
    let w = c.write_and_check.ensures in
    rw w.answer (record {
      accepted = sym (ap (λ (r : Result Problem Refusal). is_ok r) d);
      answer = (problem, d, record { choice = o; written = w.written; behind = w.behind; valid = w.valid });
    })
