-- The row is cleared, then each turn puts one byte into its word.
use Rattle.std.proofs.Common.{◌≡◌, ◌+◌, ◌/◌, refl, ◌∙◌, arith}
use Rattle.sets.proofs.Stretches.{same_but_more}
use Rattle.sets.proofs.Transfer.{loaded_none, loaded_next, loaded_all}
use Rattle.sets.proofs.words.load_row.Goals as goal

pub loop-k-init : goal.loop-k-init
loop-k-init c =
    let d : c.div_ceil.result ≡ (c.args.n + 31) / 32 = omega arith in
    (loaded_none _ _ _ _ _ _ (rw d at c.clear.ensures.members), λ p o. refl)

pub loop-k-preserved : goal.loop-k-preserved
loop-k-preserved c =
    let inv = c.loop-k.invariant in
    let byte = c.type_inv.bytes (c.args.at + c.loop-k.k) in (
      loaded_next _ _ _ _ _ _ _ _ c.low_bits-byte.ensures (omega arith) (omega arith) (omega arith) inv.0,
      same_but_more _ _ _ _ _ _ (omega arith) (omega arith) inv.1,
    )

pub returns : goal.returns
returns c =
    let d : c.div_ceil.result ≡ (c.args.n + 31) / 32 = omega arith in
    let e : c.loop-k.k ≡ (c.args.n + 7) / 8 = omega arith in
    let r = rw d at c.clear.ensures.rest in
    record { marks = loaded_all _ _ _ _ _ _ _ e c.loop-k.invariant.0; rest = λ p o. c.loop-k.invariant.1 p o ∙ r p o }
