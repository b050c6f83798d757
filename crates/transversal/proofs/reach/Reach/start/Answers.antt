use Rattle.std.proofs.Common.{refl, arith}
use Rattle.std.proofs.lemmas.List.{length-set}
use Rattle.transversal.specs.Pairs.{named}
use Rattle.transversal.proofs.RowFacts.{row_of_zeros}
use Rattle.transversal.proofs.Pairing.{queued_none, queued_write, queued_past}
use Rattle.transversal.proofs.Tables.{none_at, some_at}
use Rattle.transversal.proofs.reach.Reach.start.Goals as goal
use Rattle.transversal.proofs.reach.Reach.start.Goals.{then-is_none, else-is_none}

pub loop-v-init : goal.loop-v-init
loop-v-init c = record { room = refl; queue = queued_none _ _ _; reached = λ y h. row_of_zeros 19 y (omega arith) }

pub loop-v-preserved : goal.loop-v-preserved
loop-v-preserved c = elim c.if-is_none.branch [
  | then-is_none w ↦ rw (w.reach-is, w.push.ensures) (record {
    room = simp length-set c.loop-v.invariant.room;
    queue = queued_write c.args.rows.now.n c.loop-v.v (named c.args.matching.now.owner) c.loop-v.reach.queue _ c.loop-v.reach.len _ c.loop-v.invariant.queue
        (let q = c.loop-v.invariant.queue.few in omega arith)
        (omega (arith, none_at c.args.matching.now.owner c.loop-v.v c.is_none.result c.is_none.ensures w.if-is_none.true)) refl refl;
    reached = c.loop-v.invariant.reached;
  })
  | else-is_none w ↦ rw w.reach-is (record {
    room = c.loop-v.invariant.room;
    queue = queued_past _ _ _ _ _ c.loop-v.invariant.queue
        (some_at c.args.rows.now.n c.args.matching.now.owner c.loop-v.v c.is_none.result (omega arith) c.requires c.is_none.ensures w.if-is_none.false);
    reached = c.loop-v.invariant.reached;
  })
]
