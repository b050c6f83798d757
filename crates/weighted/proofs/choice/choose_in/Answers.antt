use Rattle.std.proofs.Common.{sym}
use Rattle.exchange.specs.Graph.{at}
use Rattle.matroid.specs.Problem.{weight_of}
use Rattle.matroid.specs.TwoRules.{by_first, by_second}
use Rattle.weighted.proofs.Chosen.{chosen_alike}
use Rattle.weighted.proofs.Lengths.{cleared, zeroed}
use Rattle.weighted.proofs.choice.choose_in.Goals as goal

pub returns : goal.returns
returns c =
    let n = c.args.offers.now.problem.n in
    let file = c.args.offers.now.file.now in
    let problem = c.args.offers.now.problem in
    record {
      chosen =
          chosen_alike n (by_first file problem) (by_second file problem) (at c.load_weights.new.weights) (weight_of file)
          c.all_rounds.new.sets c.all_rounds.new.numbers c.all_rounds.result.size
          (λ x l. sym (c.load_weights.ensures x l)) c.all_rounds.ensures.chosen;
      counts = c.all_rounds.ensures.counts;
      rest = c.all_rounds.ensures.rest;
      others = c.all_rounds.ensures.others;
    }

pub all_rounds-requires-clause-none : goal.all_rounds-requires-clause-none
all_rounds-requires-clause-none c =
    (cleared c.args.offers.now.problem.n c.clear-2.new.set c.clear-2.ensures.members, zeroed c.args.offers.now.problem.n c.clear.new.set c.clear.ensures.zeros)
