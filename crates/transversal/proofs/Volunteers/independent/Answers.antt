use Rattle.std.proofs.Common.{sym, arith}
use Rattle.sets.specs.Bits.{marked}
use Rattle.transversal.specs.Pairs.{named}
use Rattle.transversal.proofs.Kept.{refuses, ready}
use Rattle.transversal.proofs.Volunteers.independent.Goals as goal

pub returns-in_default : goal.returns-in_default
returns-in_default c = record {
  answers = refuses c.args.self.now.file.now c.args.self.now.n c.args.self.now.volunteers c.args.self.now.at (marked c.args.set.now) c.load_rows.new.state c.load_rows.ensures c.in_default.ensures;
  kept = λ e. absurd (grind arith);
}

pub returns : goal.returns
returns c =
    let r = ready c.args.self.now.file.now c.args.self.now.n c.args.self.now.volunteers c.args.self.now.at (marked c.args.set.now) c.load_rows.new.state c.load_rows.ensures
    (named c.in-Some.matching.tends) (named c.in-Some.matching.owner) c.start_rows.new.state c.start_free.new.state c.close_rows.new.state
    c.in-Some.ensures.0.pairs c.in-Some.ensures.1
    c.start_rows.ensures.rows c.start_rows.ensures.rest c.start_free.ensures.free c.start_free.ensures.rest
    c.close_rows.ensures.chains c.close_rows.ensures.base c.close_rows.ensures.closed (omega arith) in
    record { answers = sym r.allowed; kept = λ _. r }
