use Rattle.std.proofs.Common.{◌-◌, ◌*◌, rules, refl, ◌∙◌, arith}
use Rattle.std.proofs.lemmas.Iterator.{YieldsList-from_range}
use Rattle.std.proofs.lemmas.Iterator.Search.{any_from_yields_List}
use Rattle.sets.specs.Bits.{row, row_bytes}
use Rattle.transversal.proofs.Reading.{any_is_some}
use Rattle.transversal.proofs.parse.has_stray_bit.Goals as goal

pub returns : goal.returns
returns c =
    any_from_yields_List (row c.args.file.now c.args.row) _ _ _ c.any.ensures.ran
    (YieldsList-from_range c.args.n _ (8 * row_bytes c.args.n - c.args.n) refl (omega arith)) (λ x b q k. search rules)
    ∙ any_is_some (row c.args.file.now c.args.row) c.args.n (8 * row_bytes c.args.n - c.args.n)
