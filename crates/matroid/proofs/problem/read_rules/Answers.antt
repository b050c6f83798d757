-- What was read is within the file.
use Rattle.std.proofs.Common.{arith}
use Rattle.matroid.proofs.RulePlaces.{read_within}
use Rattle.matroid.proofs.problem.read_rules.Goals as goal

pub read_second-requires : goal.read_second-requires
read_second-requires c = (
  omega arith,
  (omega arith, read_within c.args.file.now c.args.n _ c.in_ok-first.first c.in_ok-first.ensures),
)
