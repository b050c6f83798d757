use Rattle.std.proofs.Common.{◌+◌, ◌-◌, ◌*◌, arith, refl, rules, tests}
use Rattle.sets.specs.Matroid.{Set}
use Rattle.sets.specs.Bits.{row_bytes}
use Rattle.laminar.specs.Limits.{in_group}
use Rattle.laminar.proofs.Ranges.{some_any}
use Rattle.laminar.proofs.Limits.has_stray_bit.Goals as goal

pub returns : goal.returns
returns c =
    let n = c.args.self.now.n in
    let s : Set = in_group c.args.self.now.file.now n c.args.self.now.at c.args.g in
    some_any n (8 * c.row_bytes.result) (8 * row_bytes n - n) s (λ k. s (n + k)) _ _ _ c.any.ensures.ran (omega (arith, c.row_bytes.ensures)) (λ x b q k. search (rules, tests)) (λ k. refl)
