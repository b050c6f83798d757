use Rattle.exchange.specs.Memory.{StatesFit}
use Rattle.matroid.specs.Problem.{weight_of}
use Rattle.matroid.specs.TwoRules.{by_first, by_second}
use Rattle.certificate.specs.Faults.{AllRight}
use Rattle.certificate.proofs.claim.Claim.check_sizes.Given as goal

abbrev pub invariant-loop-k : goal.invariant-loop-k
invariant-loop-k l =
    let o = l.self.offers in
    record {
      room : StatesFit o.problem.n l.states;
      right : AllRight o.problem.n (by_first o.file.now o.problem) (by_second o.file.now o.problem) (weight_of o.file.now) l.self.sheet.now l.k;
    }
