-- Each turn writes one byte: eight bits of a word.
use Rattle.std.proofs.Common.{◌≡◌, ◌+◌, ◌/◌, ◌∙◌, arith}
use Rattle.sets.proofs.Stretches.{rewritten_none, rewritten_more, rewritten_all, rewritten_members}
use Rattle.sets.proofs.Transfer.{stored_bit}
use Rattle.sets.proofs.words.store_row.Goals as goal

pub loop-k-init : goal.loop-k-init
loop-k-init c = rewritten_none _ _ _

pub loop-k-preserved : goal.loop-k-preserved
loop-k-preserved c = rewritten_more _ _ _ _ _ _ (omega arith) c.low_bits.ensures c.loop-k.invariant

pub returns : goal.returns
returns c =
    let e : c.loop-k.k ≡ (c.args.n + 7) / 8 = omega arith in
    let r = rewritten_all _ _ _ _ _ _ e c.loop-k.invariant in
    record {
      members = λ j h. rewritten_members _ _ _ _ _ r j h ∙ stored_bit c.args.words.now c.args.from c.args.n j;
      rest = r.rest;
    }
