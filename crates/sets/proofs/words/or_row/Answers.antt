-- Each turn writes one word; the words of row `from` stay as they were.
use Rattle.std.proofs.Common.{◌≡◌, ◌||◌, arith}
use lib.Bits.{bit_or}
use Rattle.sets.proofs.Stretches.{rewritten_none, rewritten_all, merged_more, merged_marks}
use Rattle.sets.proofs.Masks.{bit_or_lem}
use Rattle.sets.proofs.words.or_row.Goals as goal

pub loop-k-init : goal.loop-k-init
loop-k-init c = rewritten_none _ _ _

pub loop-k-preserved : goal.loop-k-preserved
loop-k-preserved c = merged_more bit_or c.args.from c.args.to _ c.args.len _ _ (omega arith) c.requires.apart (omega arith) c.loop-k.invariant

pub returns : goal.returns
returns c =
    let e : c.loop-k.k ≡ c.args.len = omega arith in
    record {
      marks = merged_marks bit_or (◌||◌) bit_or_lem _ _ _ _ _ _ e c.loop-k.invariant;
      rest = (rewritten_all _ _ _ _ _ _ e c.loop-k.invariant).rest;
    }
