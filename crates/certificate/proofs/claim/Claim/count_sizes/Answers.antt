use Rattle.std.proofs.Common.{arith}
use Rattle.sets.specs.Bits.{row}
use Rattle.sets.proofs.FiniteSets.{size_bound}
use Rattle.certificate.proofs.claim.Claim.count_sizes.Goals as goal

pub returns-clause-few : goal.returns-clause-few
returns-clause-few c =
    let b = size_bound c.args.self.now.offers.problem.n (row c.args.self.now.sheet.now c.row_at.result) in
    omega (arith, c.count.ensures)
