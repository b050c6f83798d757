use Rattle.sets.specs.Bits.{marked}
use Rattle.exchange.specs.Graph.{at}
use Rattle.matroid.specs.TwoRules.{by_first, by_second}
use Rattle.matroid.proofs.RuleLaws.{rule_matroid}
use Rattle.weighted.proofs.Turning.{loss_fits, added_by, some_end}
use Rattle.weighted.proofs.turn.advance.Goals as goal

pub find_path-outcome-requires-clause-state : goal.find_path-outcome-requires-clause-state
find_path-outcome-requires-clause-state c =
    (c.args.loss, c.requires.state, loss_fits c.args.offers.now.problem.n c.args.loss (marked c.args.set.now) c.args.offers.now.few c.requires.low)

pub returns-clause-ends : goal.returns-clause-ends
returns-clause-ends c =
    let o = c.args.offers.now in
    let l = c.find_path-outcome.new.self.labels in
    let end = some_end c.find_path-outcome.result.end c.in-Some.end _ _ c.in-Some.is c.find_path-outcome.ensures.ends in
    added_by o.problem.n (by_first o.file.now o.problem) (by_second o.file.now o.problem) (at c.args.weights.now) (at c.args.potentials.now)
    (at c.raise.new.potentials) c.args.loss c.loss-risen.result (marked c.args.set.now) (marked c.toggle.new.set) (marked l.reached.now)
    (at l.costs.now) (at l.steps.now) (at l.back.now) c.in-Some.end (rule_matroid o.file.now o.problem.n o.problem.first c.requires.well.0)
    (rule_matroid o.file.now o.problem.n o.problem.second c.requires.well.1) c.requires.light c.requires.state
    c.find_path-outcome.ensures.labels end c.loss-risen.ensures c.toggle.ensures c.raise.ensures
