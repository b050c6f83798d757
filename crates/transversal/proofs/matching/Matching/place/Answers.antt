use Rattle.std.proofs.Common.{refl, arith}
use Rattle.std.proofs.lemmas.List.{length-set}
use Rattle.transversal.specs.Pairs.{at}
use Rattle.transversal.proofs.Pairing.{shift_start, shift_low, shift_write, shift_done, take_free}
use Rattle.transversal.proofs.Tables.{named_is, named_low, low_set, low_clear}
use Rattle.transversal.proofs.matching.Matching.place.Goals as goal

pub returns-in-Some-clause-holds : goal.returns-in-Some-clause-holds
returns-in-Some-clause-holds c =
    let h = c.in-Some.ensures in
    λ _. record {
      pairs = (take_free _ c.args.rows.now.n c.args.rows.now.volunteers c.args.self.now.tends c.args.self.now.owner c.args.x c.in-Some.v c.requires.holds.pairs c.requires.offer c.requires.single
          (omega arith) (omega arith) h.0 h.1 h.2).0;
      helpers = low_set c.args.rows.now.volunteers c.args.self.now.tends c.args.x c.in-Some.v h.0 c.requires.holds.helpers;
      helped = low_set c.args.rows.now.n c.args.self.now.owner c.in-Some.v c.args.x c.requires.offer c.requires.holds.helped;
    }

pub loop-z-init : goal.loop-z-init
loop-z-init c = record {
  shifting = shift_start _ _ _ _ _ _ _ _ _ c.requires.holds.pairs c.requires.offer c.requires.single (λ u k. refl) c.in-Some-to.ensures;
  helpers = c.requires.holds.helpers;
  helped = c.requires.holds.helped;
  tends = omega arith;
  owner = omega arith;
}

pub bounds-self-v-in-loop-z : goal.bounds-self-v-in-loop-z
bounds-self-v-in-loop-z c = omega (arith, shift_low _ _ _ _ _ (at c.in-Some-to.reach.queue) (at c.in-Some-to.reach.via) c.loop-z.self.tends c.loop-z.self.owner c.loop-z.y c.loop-z.invariant.shifting (omega arith) (omega arith))

pub bounds-self-v-in-loop-z-2 : goal.bounds-self-v-in-loop-z-2
bounds-self-v-in-loop-z-2 c = omega (arith, shift_low _ _ _ _ _ (at c.in-Some-to.reach.queue) (at c.in-Some-to.reach.via) c.loop-z.self.tends c.loop-z.self.owner c.loop-z.y c.loop-z.invariant.shifting (omega arith) (omega arith))

pub returns-in_default-before-clause-holds : goal.returns-in_default-before-clause-holds
returns-in_default-before-clause-holds c = λ _. record {
  pairs = (shift_done _ _ _ _ _ (at c.in-Some-to.reach.queue) (at c.in-Some-to.reach.via) c.loop-z.self.tends c.loop-z.self.owner c.loop-z.y c.loop-z.invariant.shifting (omega arith) (omega arith)
      (rw (named_is c.loop-z.self.owner _ _ c.in_default-before.is) (omega arith))).0;
  helpers = low_set c.args.rows.now.volunteers c.loop-z.self.tends c.loop-z.y _ (shift_low _ _ _ _ _ (at c.in-Some-to.reach.queue) (at c.in-Some-to.reach.via) c.loop-z.self.tends c.loop-z.self.owner c.loop-z.y c.loop-z.invariant.shifting (omega arith) (omega arith)) c.loop-z.invariant.helpers;
  helped = low_set c.args.rows.now.n c.loop-z.self.owner _ c.loop-z.y c.loop-z.invariant.shifting.inside c.loop-z.invariant.helped;
}

pub returns-in_default-before-clause-more : goal.returns-in_default-before-clause-more
returns-in_default-before-clause-more c = λ _. (shift_done _ _ _ _ _ (at c.in-Some-to.reach.queue) (at c.in-Some-to.reach.via) c.loop-z.self.tends c.loop-z.self.owner c.loop-z.y c.loop-z.invariant.shifting (omega arith) (omega arith)
    (rw (named_is c.loop-z.self.owner _ _ c.in_default-before.is) (omega arith))).1

pub loop-z-smaller : goal.loop-z-smaller
loop-z-smaller c = (shift_write _ _ _ _ _ (at c.in-Some-to.reach.queue) (at c.in-Some-to.reach.via) c.loop-z.self.tends c.loop-z.self.owner c.loop-z.y c.loop-z.invariant.shifting (omega arith) (omega arith) c.in-Some-before.z (omega arith) (named_is c.loop-z.self.owner _ _ c.in-Some-before.is)
    (named_low c.args.rows.now.n c.loop-z.self.owner _ c.in-Some-before.z (omega (arith, shift_low _ _ _ _ _ (at c.in-Some-to.reach.queue) (at c.in-Some-to.reach.via) c.loop-z.self.tends c.loop-z.self.owner c.loop-z.y c.loop-z.invariant.shifting (omega arith) (omega arith))) c.loop-z.invariant.helped c.in-Some-before.is)).1

pub loop-z-preserved : goal.loop-z-preserved
loop-z-preserved c = record {
  shifting = (shift_write _ _ _ _ _ (at c.in-Some-to.reach.queue) (at c.in-Some-to.reach.via) c.loop-z.self.tends c.loop-z.self.owner c.loop-z.y c.loop-z.invariant.shifting (omega arith) (omega arith) c.in-Some-before.z (omega arith) (named_is c.loop-z.self.owner _ _ c.in-Some-before.is)
      (named_low c.args.rows.now.n c.loop-z.self.owner _ c.in-Some-before.z (omega (arith, shift_low _ _ _ _ _ (at c.in-Some-to.reach.queue) (at c.in-Some-to.reach.via) c.loop-z.self.tends c.loop-z.self.owner c.loop-z.y c.loop-z.invariant.shifting (omega arith) (omega arith))) c.loop-z.invariant.helped c.in-Some-before.is)).0;
  helpers = low_clear c.args.rows.now.volunteers _ c.in-Some-before.z (low_set c.args.rows.now.volunteers c.loop-z.self.tends c.loop-z.y _ (shift_low _ _ _ _ _ (at c.in-Some-to.reach.queue) (at c.in-Some-to.reach.via) c.loop-z.self.tends c.loop-z.self.owner c.loop-z.y c.loop-z.invariant.shifting (omega arith) (omega arith)) c.loop-z.invariant.helpers);
  helped = low_set c.args.rows.now.n c.loop-z.self.owner _ c.loop-z.y c.loop-z.invariant.shifting.inside c.loop-z.invariant.helped;
  tends = simp length-set c.loop-z.invariant.tends;
  owner = simp length-set c.loop-z.invariant.owner;
}
