-- What was read is within the file.
use Rattle.std.proofs.Common.{arith}
use Rattle.matroid.proofs.WeightReading.{weights_within}
use Rattle.matroid.proofs.problem.read_parts.Goals as goal

pub read_rules-requires : goal.read_rules-requires
read_rules-requires c =
    let w = weights_within c.args.file.now c.read-n.result (omega arith) c.in_ok-check_weights.ensures in
    (omega arith, (omega arith, w))
