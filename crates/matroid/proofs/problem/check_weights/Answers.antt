-- Each turn tests one weight.
use Rattle.std.proofs.Common.{sym, ◌∙◌}
use Rattle.std.proofs.lemmas.Result.{err_from_is_err_and}
use Rattle.matroid.proofs.WeightReading.{weights_stop, weights_more}
use Rattle.matroid.proofs.problem.check_weights.Goals as goal

pub returns-in_err-check_weight : goal.returns-in_err-check_weight
returns-in_err-check_weight c =
    let p = err_from_is_err_and c.from_residual.result c.from_residual.ensures.1 in
    rw (p.1, p.2)
    (weights_stop c.args.file.now c.args.n c.loop-i.i c.in_err-check_weight.field-0.0 c.loop-i-test.true c.loop-i.invariant.1
    (sym c.check_weight.ensures ∙ c.in_err-check_weight.was))

pub loop-i-preserved : goal.loop-i-preserved
loop-i-preserved c =
    weights_more c.args.file.now c.args.n c.loop-i.i c.loop-i-test.true c.loop-i.invariant.1
    (sym c.check_weight.ensures ∙ c.in_ok-check_weight.was)
