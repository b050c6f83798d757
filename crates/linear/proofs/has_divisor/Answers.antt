-- Every number from 2 on is tried.
use Rattle.std.proofs.Common.{rules, tests, ◌%◌, ◌-◌, eqb, refl, ◌∙◌}
use Rattle.std.proofs.lemmas.Iterator.{YieldsList-from_range}
use Rattle.std.proofs.lemmas.Iterator.Search.{any_from_yields_List}
use Rattle.linear.proofs.Reading.{divisible_listed}
use Rattle.linear.proofs.has_divisor.Goals as goal

pub returns : goal.returns
returns c =
    any_from_yields_List (λ d. eqb (c.args.p % d) 0) _ _ c.any.result c.any.ensures.ran
    (YieldsList-from_range 2 c.args.p (c.args.p - 2) refl refl) (λ x b q k. search (rules, tests))
    ∙ divisible_listed c.args.p
