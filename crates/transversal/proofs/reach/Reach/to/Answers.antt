use Rattle.std.proofs.Common.{ap, ◌∙◌, arith}
use Rattle.std.proofs.lemmas.List.{length-set}
use Rattle.sets.specs.Bits.{word_row}
use Rattle.transversal.proofs.Going.{going_end}
use Rattle.transversal.proofs.Tables.{named_is, named_low}
use Rattle.transversal.proofs.Turns.{turn_less, turn_room, turn_leads, turn_single, turn_push, turn_other}
use Rattle.transversal.proofs.reach.Reach.to.Goals as goal

pub returns-then-y-x : goal.returns-then-y-x
returns-then-y-x c =
    let l = turn_leads _ _ _ _ _ c.loop-head.reach.reached c.insert.new.set c.loop-head.reach.queue c.loop-head.reach.via c.loop-head.reach.len c.loop-head.head c.in-Some.y
    c.loop-head.invariant.going c.loop-head-test.true c.in-Some.ensures.0 c.in-Some.ensures.2 c.in-Some.ensures.1 c.insert.ensures.members (omega arith) in
    (l.0, l.1, l.2, ap (λ i. l.0 i) (omega (arith, c.if-y-x.true)) ∙ l.3)

pub push-requires : goal.push-requires
push-requires c = turn_room _ _ _ _ _ c.loop-head.reach.reached c.insert.new.set c.loop-head.reach.queue c.loop-head.reach.via c.loop-head.reach.len c.loop-head.head c.in-Some.y
    c.loop-head.invariant.going c.loop-head-test.true c.in-Some.ensures.0 c.in-Some.ensures.2 c.in-Some.ensures.1 c.insert.ensures.members (omega arith) (omega arith) (omega arith)

pub loop-head-smaller-in-Some-tends : goal.loop-head-smaller-in-Some-tends
loop-head-smaller-in-Some-tends c = rw c.push.ensures (turn_less _ _ _ _ _ c.loop-head.reach.reached c.insert.new.set c.loop-head.reach.queue c.loop-head.reach.via c.loop-head.reach.len c.loop-head.head c.in-Some.y
    c.loop-head.invariant.going c.loop-head-test.true c.in-Some.ensures.0 c.in-Some.ensures.2 c.in-Some.ensures.1 c.insert.ensures.members (omega arith))

pub loop-head-preserved-in-Some-tends : goal.loop-head-preserved-in-Some-tends
loop-head-preserved-in-Some-tends c =
    let is = named_is c.args.matching.now.tends c.in-Some.y _ c.in-Some-tends.is in
    let low = named_low c.args.rows.now.volunteers c.args.matching.now.tends c.in-Some.y c.in-Some-tends.next (omega (arith, c.in-Some.ensures.0)) c.requires.holds.helpers c.in-Some-tends.is in
    rw c.push.ensures (record {
      going = rw is at (turn_push _ _ _ _ _ c.loop-head.reach.reached c.insert.new.set c.loop-head.reach.queue c.loop-head.reach.via c.loop-head.reach.len c.loop-head.head c.in-Some.y
          c.loop-head.invariant.going c.loop-head-test.true c.in-Some.ensures.0 c.in-Some.ensures.2 c.in-Some.ensures.1 c.insert.ensures.members (omega arith)
          c.requires.holds.pairs (omega arith) (omega arith) (omega (
            arith,
            turn_room _ _ _ _ _ c.loop-head.reach.reached c.insert.new.set c.loop-head.reach.queue c.loop-head.reach.via c.loop-head.reach.len c.loop-head.head c.in-Some.y
                c.loop-head.invariant.going c.loop-head-test.true c.in-Some.ensures.0 c.in-Some.ensures.2 c.in-Some.ensures.1 c.insert.ensures.members (omega arith) (omega arith) (omega arith),
          )) (rw is low));
      out = turn_other _ _ _ _ _ c.loop-head.reach.reached c.insert.new.set c.loop-head.reach.queue c.loop-head.reach.via c.loop-head.reach.len c.loop-head.head c.in-Some.y
          c.loop-head.invariant.going c.loop-head-test.true c.in-Some.ensures.0 c.in-Some.ensures.2 c.in-Some.ensures.1 c.insert.ensures.members (omega arith) c.args.x c.loop-head.invariant.out c.if-y-x.false;
      reached = omega (arith, c.insert.auto.set);
      via = simp length-set c.loop-head.invariant.via;
      queue = simp length-set c.loop-head.invariant.queue;
    })

pub loop-head-smaller-in_default-tends : goal.loop-head-smaller-in_default-tends
loop-head-smaller-in_default-tends c = turn_less _ _ _ _ _ c.loop-head.reach.reached c.insert.new.set c.loop-head.reach.queue c.loop-head.reach.via c.loop-head.reach.len c.loop-head.head c.in-Some.y
    c.loop-head.invariant.going c.loop-head-test.true c.in-Some.ensures.0 c.in-Some.ensures.2 c.in-Some.ensures.1 c.insert.ensures.members (omega arith)

pub loop-head-preserved-in_default-tends : goal.loop-head-preserved-in_default-tends
loop-head-preserved-in_default-tends c = record {
  going = turn_single _ _ _ _ _ c.loop-head.reach.reached c.insert.new.set c.loop-head.reach.queue c.loop-head.reach.via c.loop-head.reach.len c.loop-head.head c.in-Some.y
      c.loop-head.invariant.going c.loop-head-test.true c.in-Some.ensures.0 c.in-Some.ensures.2 c.in-Some.ensures.1 c.insert.ensures.members (omega arith) (rw (named_is c.args.matching.now.tends c.in-Some.y _ c.in_default-tends.is) (omega arith));
  out = turn_other _ _ _ _ _ c.loop-head.reach.reached c.insert.new.set c.loop-head.reach.queue c.loop-head.reach.via c.loop-head.reach.len c.loop-head.head c.in-Some.y
      c.loop-head.invariant.going c.loop-head-test.true c.in-Some.ensures.0 c.in-Some.ensures.2 c.in-Some.ensures.1 c.insert.ensures.members (omega arith) c.args.x c.loop-head.invariant.out c.if-y-x.false;
  reached = omega (arith, c.insert.auto.set);
  via = simp length-set c.loop-head.invariant.via;
  queue = c.loop-head.invariant.queue;
}

pub returns : goal.returns
returns c = (word_row c.loop-head.reach.reached 0, going_end _ _ _ _ _ _ _ _ _ _ c.loop-head.invariant.going (omega arith), c.loop-head.invariant.out)
