-- The labels are those of the round, and the end that they choose ends a best path.
use Rattle.std.proofs.Common.{not, ap, ◌∙◌}
use Rattle.matroid.specs.TwoRules.{by_first, by_second}
use Rattle.matroid.proofs.RuleLaws.{rule_matroid}
use Rattle.sets.specs.Bits.{marked}
use Rattle.exchange.specs.Graph.{at}
use Rattle.exchange.proofs.Rooms.{labels_still_fit}
use Rattle.exchange.proofs.Rounds.{priced, sources_free}
use Rattle.exchange.proofs.RoundLabels.{are_labels, none_ends, some_ends, ends_within}
use Rattle.exchange.proofs.Verdicts.{found}
use Rattle.exchange.proofs.paths.search.Goals as goal

pub invariant_of-graph : goal.invariant_of-graph
invariant_of-graph c =
    let o = c.args.offers.now in
    let p = c.args.prices.now in
    let t = c.args.tables.now in
    let st = c.requires.state in
    record {
      few = o.few;
      all_arcs = c.requires.tables_fit.0;
      whole_set = c.requires.whole;
      all_weights = c.requires.numbers.0;
      all_potentials = c.requires.numbers.1;
      priced =
          priced o.problem.n (by_first o.file.now o.problem) (by_second o.file.now o.problem) (marked c.args.set.now) t.arcs.now t.sources.now
          t.sinks.now c.requires.tables (at p.weights.now) (at p.potentials.now) st.0 st.1 st.2 c.requires.light;
    }

pub spread-requires-clause-begins : goal.spread-requires-clause-begins
spread-requires-clause-begins c =
    let o = c.args.offers.now in
    let p = c.args.prices.now in
    let t = c.args.tables.now in
    let st = c.requires.state in
    sources_free o.problem.n (by_first o.file.now o.problem) (by_second o.file.now o.problem) (marked c.args.set.now) t.arcs.now
    t.sources.now t.sinks.now c.requires.tables (at p.weights.now) (at p.potentials.now) st.0 st.1

pub returns-then-is_none : goal.returns-then-is_none
returns-then-is_none c =
    let o = c.args.offers.now in
    let n = o.problem.n in
    let f = by_first o.file.now o.problem in
    let g = by_second o.file.now o.problem in
    let s = marked c.args.set.now in
    let w = at c.args.prices.now.weights.now in
    let a = at c.args.prices.now.potentials.now in
    let t = c.args.tables.now in
    let holds = c.requires.tables in
    let l = c.spread.new.self in
    let reached = marked l.reached.now in
    let d = at l.costs.now in
    let k = at l.steps.now in
    let back = at l.back.now in
    let st = c.requires.state in
    let ls =
    are_labels n f g s t.arcs.now t.sources.now t.sinks.now holds w a reached d k back c.spread.ensures.cheapest
    (priced n f g s t.arcs.now t.sources.now t.sinks.now holds w a st.0 st.1 st.2 c.requires.light) in
    let es =
    none_ends n f g s t.arcs.now t.sources.now t.sinks.now holds w a reached d k back c.spread.ensures.cheapest (marked c.dual_set.new.dual)
    c.best_end-end.result (c.is_none.ensures ∙ ap not c.if-is_none.true) c.best_end-end.ensures c.dual_set.ensures in
    record {
      labels_fit = labels_still_fit n c.args.labels.now l c.requires.labels_fit c.spread.ensures.memory;
      memory = c.spread.ensures.memory;
      labels = ls;
      small = c.spread.ensures.small;
      ends = es;
      within = ends_within n f g s t.arcs.now t.sources.now t.sinks.now holds w a reached d k back c.spread.ensures.cheapest c.best_end-end.result
          c.best_end-end.ensures;
      best = found n f g w a st.0 s reached d k back (marked c.dual_set.new.dual) c.best_end-end.result
          (rule_matroid o.file.now n o.problem.first c.requires.well.0) (rule_matroid o.file.now n o.problem.second c.requires.well.1)
          c.requires.light st.1 ls es;
    }

pub returns-else-is_none : goal.returns-else-is_none
returns-else-is_none c =
    let o = c.args.offers.now in
    let n = o.problem.n in
    let f = by_first o.file.now o.problem in
    let g = by_second o.file.now o.problem in
    let s = marked c.args.set.now in
    let w = at c.args.prices.now.weights.now in
    let a = at c.args.prices.now.potentials.now in
    let t = c.args.tables.now in
    let holds = c.requires.tables in
    let l = c.spread.new.self in
    let reached = marked l.reached.now in
    let d = at l.costs.now in
    let k = at l.steps.now in
    let back = at l.back.now in
    let st = c.requires.state in
    let ls =
    are_labels n f g s t.arcs.now t.sources.now t.sinks.now holds w a reached d k back c.spread.ensures.cheapest
    (priced n f g s t.arcs.now t.sources.now t.sinks.now holds w a st.0 st.1 st.2 c.requires.light) in
    let es =
    some_ends n f g s t.arcs.now t.sources.now t.sinks.now holds w a reached d k back c.spread.ensures.cheapest (marked c.args.dual.now)
    c.best_end-end.result (c.is_none.ensures ∙ ap not c.if-is_none.false) c.best_end-end.ensures in
    record {
      labels_fit = labels_still_fit n c.args.labels.now l c.requires.labels_fit c.spread.ensures.memory;
      memory = c.spread.ensures.memory;
      labels = ls;
      small = c.spread.ensures.small;
      ends = es;
      within = ends_within n f g s t.arcs.now t.sources.now t.sinks.now holds w a reached d k back c.spread.ensures.cheapest c.best_end-end.result
          c.best_end-end.ensures;
      best = found n f g w a st.0 s reached d k back (marked c.args.dual.now) c.best_end-end.result
          (rule_matroid o.file.now n o.problem.first c.requires.well.0) (rule_matroid o.file.now n o.problem.second c.requires.well.1)
          c.requires.light st.1 ls es;
    }
