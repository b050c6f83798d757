-- What was read is within the file.
use Rattle.std.proofs.Common.{arith}
use Rattle.matroid.proofs.RulePlaces.{read_within}
use Rattle.matroid.proofs.problem.read_second.Goals as goal

pub end-end-requires : goal.end-end-requires
end-end-requires c =
    let w = read_within c.args.file.now c.args.n _ c.in_ok-second.second c.in_ok-second.ensures in
    (omega arith, omega arith)
