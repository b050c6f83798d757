use Rattle.std.proofs.Common.{◌≡◌, ℕ, suc, ◌+◌, ◌*◌, ◌<◌, ◌≤◌, List, length, refl, ap, ◌∙◌, subst, zero-add, arith, rules}
use Rattle.sets.specs.Bits.{marked, row_bytes}
use Rattle.sets.specs.Matroid.{Set, size}
use Rattle.sets.proofs.FiniteSets.{size_bound}
use Rattle.exchange.specs.Graph.{at}
use Rattle.exchange.specs.Round.{top}
use Rattle.matroid.specs.TwoRules.{by_first, by_second}
use Rattle.matroid.proofs.RuleLaws.{rule_matroid}
use Rattle.weighted.specs.Choice.{round_calls}
use Rattle.weighted.proofs.Progress.{Progress, progress_more}
use Rattle.weighted.proofs.Rounding.{asked_is, calls_few, calls_fit, calls_next, numbers_rest, sets_rest, one_more, set_room, number_room, progress_none, no_end, finished, all_rest, step_up}
use Rattle.weighted.proofs.Turning.{some_end}
use Rattle.weighted.proofs.turn.all_rounds.Goals as goal

-- a set has at most n offers
held : (n k : ℕ) (s : Set) → size n s ≡ k → k ≤ n
held n k s e = let b : size n s ≤ n = size_bound n s in omega arith

pub loop-risen-init : goal.loop-risen-init
loop-risen-init c =
    let n = c.args.offers.now.problem.n in
    let file = c.args.offers.now.file.now in
    let problem = c.args.offers.now.problem in (
      progress_none (rule_matroid file n problem.first c.requires.well.0) (rule_matroid file n problem.second c.requires.well.1)
          (at c.args.weights.now) (at c.args.potentials.now) (marked c.args.set.now) c.args.sets.now c.args.numbers.now
          c.requires.none.0 c.requires.none.1 c.requires.light,
      zero-add (round_calls n 0),
      omega arith,
      (λ p l. refl),
      (λ p l. refl),
      c.requires.space,
    )

pub overflow_add-calls : goal.overflow_add-calls
overflow_add-calls c =
    let n = c.args.offers.now.problem.n in
    let s = marked c.loop-risen.set in
    let k = c.loop-risen.size in
    let e = c.loop-risen.invariant.0.counted in
    let h = calls_fit n k c.loop-risen.calls c.advance-step.result.asked c.args.offers.now.few (held n k s e) c.loop-risen.invariant.2
    (asked_is n k c.advance-step.result.asked s e c.advance-step.ensures.asked) in
    omega (arith, h)

pub returns-in_default : goal.returns-in_default
returns-in_default c =
    let n = c.args.offers.now.problem.n in
    let file = c.args.offers.now.file.now in
    let problem = c.args.offers.now.problem in
    let s = marked c.loop-risen.set in
    let k = c.loop-risen.size in
    let p = c.loop-risen.invariant.0 in
    let end = no_end c.advance-step.result.loss _ _ c.in_default.is c.advance-step.ensures.ends in
    record {
      chosen =
          finished (rule_matroid file n problem.first c.requires.well.0) (rule_matroid file n problem.second c.requires.well.1)
          (at c.args.weights.now) (at c.loop-risen.potentials) c.loop-risen.loss s (marked c.advance-step.new.space.dual.now)
          c.loop-risen.sets c.write_largest.new.sets c.loop-risen.numbers k p end.1
          (λ x l. c.write_largest.ensures.largest x l ∙ ap (λ (v : List ℕ). marked v x) end.0) c.write_largest.ensures.duals
          c.write_largest.ensures.others;
      counts = (
        refl,
        ap (λ (z : ℕ). c.loop-risen.calls + z) (asked_is n k c.advance-step.result.asked s p.counted c.advance-step.ensures.asked)
            ∙ c.loop-risen.invariant.1,
      );
      rest = c.loop-risen.invariant.3;
      others =
          all_rest (row_bytes n) k c.args.sets.now c.loop-risen.sets c.write_largest.new.sets c.loop-risen.invariant.4
          c.write_largest.ensures.others;
    }

pub write_size-requires : goal.write_size-requires
write_size-requires c =
    let n = c.args.offers.now.problem.n in
    let k = c.loop-risen.size in
    let more = some_end c.advance-step.result.loss c.in-Some.risen _ _ c.in-Some.is c.advance-step.ensures.ends in
    let b : k < n = one_more n k _ _ _ _ _ _ _ c.loop-risen.invariant.0.counted more in
    record {
      small = (c.args.offers.now.few, b);
      lengths = search rules;
      room = (
        set_room n k (row_bytes n) (length c.loop-risen.sets) b (search rules),
        number_room n k (length c.loop-risen.numbers) b (search rules),
      );
    }

pub overflow_add-size : goal.overflow_add-size
overflow_add-size c =
    let n = c.args.offers.now.problem.n in
    let k = c.loop-risen.size in
    let b = held n k (marked c.loop-risen.set) c.loop-risen.invariant.0.counted in
    let f = c.args.offers.now.few in
    omega (arith, b, f)

pub loop-risen-smaller : goal.loop-risen-smaller
loop-risen-smaller c =
    let n = c.args.offers.now.problem.n in
    let k = c.loop-risen.size in
    let b = held n k (marked c.loop-risen.set) c.loop-risen.invariant.0.counted in
    omega (arith, b)

pub loop-risen-preserved : goal.loop-risen-preserved
loop-risen-preserved c =
    let n = c.args.offers.now.problem.n in
    let file = c.args.offers.now.file.now in
    let problem = c.args.offers.now.problem in
    let k = c.loop-risen.size in
    let p = c.loop-risen.invariant.0 in
    let s = marked c.loop-risen.set in
    let f = by_first file problem in
    let g = by_second file problem in
    let w = at c.args.weights.now in
    let a = at c.advance-step.new.potentials in
    let t = marked c.advance-step.new.set in
    let risen = c.in-Some.risen in
    let e = asked_is n k c.advance-step.result.asked s p.counted c.advance-step.ensures.asked in
    let more = some_end c.advance-step.result.loss risen _ _ c.in-Some.is c.advance-step.ensures.ends in (
      step_up (λ (z : ℕ). Progress n f g w a risen t c.write_size.new.sets c.write_size.new.numbers z) k
          (progress_more (rule_matroid file n problem.first c.requires.well.0) (rule_matroid file n problem.second c.requires.well.1) w
          (at c.loop-risen.potentials) a c.loop-risen.loss risen s t c.loop-risen.sets c.write_size.new.sets c.loop-risen.numbers
          c.write_size.new.numbers k p more.state (more.sized ∙ ap suc p.counted)
          (subst (λ (z : ℕ). risen ≤ suc z * top) p.counted more.low) c.write_size.ensures.others c.write_size.ensures.members
          c.write_size.ensures.rest c.write_size.ensures.first c.write_size.ensures.second),
      calls_next n k c.loop-risen.calls c.advance-step.result.asked e c.loop-risen.invariant.1,
      calls_few n k c.loop-risen.calls c.advance-step.result.asked c.args.offers.now.few (held n k s p.counted) c.loop-risen.invariant.2 e,
      numbers_rest n k c.args.numbers.now c.loop-risen.numbers c.write_size.new.numbers c.loop-risen.invariant.3 c.write_size.ensures.rest,
      sets_rest (row_bytes n) k c.args.sets.now c.loop-risen.sets c.write_size.new.sets c.loop-risen.invariant.4 c.write_size.ensures.others,
      c.advance-step.ensures.room,
    )
