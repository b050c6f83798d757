use Rattle.std.proofs.Common.{ℕ, ◌≤◌, arith, below_more}
use Rattle.matroid.specs.Problem.{weight_of}
use Rattle.matroid.specs.TwoRules.{by_first, by_second}
use Rattle.certificate.specs.Faults.{Right}
use Rattle.certificate.proofs.claim.Claim.check_sizes.Goals as goal

pub loop-k-preserved : goal.loop-k-preserved
loop-k-preserved c =
    let o = c.args.self.now.offers in
    record {
      room = c.in_ok-check_size.ensures.states;
      right = below_more
          (λ (k : ℕ). 1 ≤ k → Right o.problem.n (by_first o.file.now o.problem) (by_second o.file.now o.problem) (weight_of o.file.now) c.args.self.now.sheet.now k)
          c.loop-k.k c.loop-k.invariant.right (λ _. c.in_ok-check_size.ensures.fault);
    }

pub returns : goal.returns
returns c = λ k h l. c.loop-k.invariant.right k (omega arith) l
