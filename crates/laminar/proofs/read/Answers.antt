use Rattle.std.proofs.Common.{◌+◌, sym, ◌∙◌, arith}
use Rattle.std.proofs.lemmas.Result.{err_from_is_err_and}
use Rattle.laminar.proofs.Steps.{one_more, read_refused}
use Rattle.laminar.proofs.read.Goals as goal

pub returns-in_err-check_group : goal.returns-in_err-check_group
returns-in_err-check_group c =
    let p = err_from_is_err_and c.from_residual.result c.from_residual.ensures.1 in
    rw (p.1, p.2)
    (sym (read_refused c.args.file.now c.args.n c.args.p c.loop-g.g c.in_err-check_group.field-0.0
    (omega arith) (omega arith) c.loop-g.invariant.0
    (sym c.check_group.ensures ∙ c.in_err-check_group.was) c.loop-g-test.true))

pub loop-g-preserved : goal.loop-g-preserved
loop-g-preserved c =
    one_more c.args.file.now c.args.n (c.args.p + 1) c.loop-g.g c.loop-g.invariant.0
    (sym c.check_group.ensures ∙ c.in_ok-check_group.was)
