-- What is left after one more town gives the answer.
use Rattle.std.proofs.Common.{arith}
use Rattle.std.proofs.lemmas.Grind.{common_steps}
use Rattle.graphic.proofs.Reading.{towns_step}
use Rattle.graphic.proofs.check_towns.Goals as goal

pub loop-j-preserved : goal.loop-j-preserved
loop-j-preserved c =
    let s = towns_step c.args.file.now c.args.towns c.args.count c.loop-j.j c.args.at (omega arith) in
    (omega arith, grind (arith, common_steps, s))
