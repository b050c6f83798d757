use Rattle.std.proofs.Common.{◌≡◌, ℕ, ◌+◌, ◌*◌, ◌≤◌, length, sym, subst, arith}
use Rattle.matroid.specs.Problem.{rules_at}
use Rattle.matroid.proofs.FileReading.{means_well}
use Rattle.sets.specs.Bits.{row_words}
use Rattle.weighted.proofs.Lengths.{kept_small, begins_within, admits, choice}
use Rattle.weighted.proofs.choice.choose.Goals as goal

-- what is kept, by its number
kept_is : (n kept full : ℕ) → kept ≡ full → n ≤ 600 → full ≤ 63000 → kept ≤ 63000
kept_is n kept full e h k = omega arith

pub overflow_mul-kept_length : goal.overflow_mul-kept_length
overflow_mul-kept_length c =
    let m = c.in_ok-problem.ensures.meaning in
    let n = c.in_ok-problem.problem.n in
    let k = kept_is n c.kept_length.result _ c.kept_length.ensures m.few (kept_small n m.few) in
    omega (arith, k)

-- the test on the lent words, by what is kept
long_enough : (n kept full m : ℕ) → kept ≡ full → 5 * n + (n + 6) * row_words n + 2 * kept ≤ m → 5 * n + (n + 6) * row_words n + 2 * full ≤ m
long_enough n kept full m e h = subst (λ (z : ℕ). 5 * n + (n + 6) * row_words n + 2 * z ≤ m) e h

pub choose_in-requires : goal.choose_in-requires
choose_in-requires c =
    let m = c.in_ok-problem.ensures.meaning in
    let n = c.in_ok-problem.problem.n in
    record {
      some = m.some;
      room = (c.if-sets-n.false, c.if-numbers-n.false);
      well = (means_well c.args.file.now c.in_ok-problem.problem m);
      words = long_enough n c.kept_length.result _ (length c.args.work.now) c.kept_length.ensures c.if-work-n.false;
      weights = begins_within c.args.file.now n (rules_at n) c.in_ok-problem.problem.first m.first;
      light = m.light;
    }

pub returns : goal.returns
returns c =
    let n = c.in_ok-problem.problem.n in
    let problem = c.in_ok-problem.problem in (
      problem,
      admits c.args.file.now (length c.args.sets.now) (length c.args.numbers.now) (length c.args.work.now) problem
          (sym c.in_ok-problem.ensures.answer) c.if-sets-n.false c.if-numbers-n.false
          (long_enough n c.kept_length.result _ (length c.args.work.now) c.kept_length.ensures c.if-work-n.false),
      choice c.args.file.now problem c.choose_in.result.size c.choose_in.result.rounds c.choose_in.result.calls c.args.sets.now
          c.args.numbers.now c.choose_in.new.sets c.choose_in.new.numbers c.choose_in.ensures.chosen c.choose_in.ensures.counts.0
          c.choose_in.ensures.counts.1 c.choose_in.ensures.rest c.choose_in.ensures.others,
    )
