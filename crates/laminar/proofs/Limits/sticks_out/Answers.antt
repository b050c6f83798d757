use Rattle.std.proofs.Common.{◌≡◌, ◌+◌, ◌-◌, ◌/◌, not, eqb, refl, ◌∙◌, arith, rules, tests}
use lib.Bits.{bit_and}
use Rattle.sets.specs.Matroid.{Set}
use Rattle.laminar.specs.Limits.{group_at}
use Rattle.laminar.proofs.Bytes.{byte, some_lacking}
use Rattle.laminar.proofs.Ranges.{some_any}
use Rattle.laminar.proofs.Limits.sticks_out.Goals as goal

pub returns : goal.returns
returns c =
    let file = c.args.self.now.file.now in
    let n = c.args.self.now.n in
    let p = group_at n c.args.self.now.at c.args.g + 2 in
    let q = group_at n c.args.self.now.at c.args.h + 2 in
    let t : Set = λ k. not (eqb (bit_and (byte file n p k) (255 - byte file n q k)) 0) in
    some_any 0 c.row_bytes.result ((n + 7) / 8) t t _ _ _ c.any.ensures.ran (omega (arith, c.row_bytes.ensures)) (λ x b q k. search (rules, tests)) (λ k. let z : 0 + k ≡ k = omega arith in rw z refl)
    ∙ some_lacking file n p q
