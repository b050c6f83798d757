-- The chain adds the products of the functional's words and the row's bytes.
use Rattle.std.proofs.Common.{rules, tests, ℕ, ◌+◌, ◌*◌, ◌%◌, ◌^◌, ◌<◌, ◌≤◌, refl, ap, ◌∙◌, arith}
use Rattle.std.proofs.lemmas.Iterator.{YieldsList-from_range, YieldsList-from_map}
use Rattle.std.proofs.lemmas.Iterator.Consumers.{YieldsList-at, sum_from_yields_List, fits_from_yields_list}
use Rattle.linear.specs.Rows.{number}
use Rattle.linear.specs.Kept.{functional}
use Rattle.linear.proofs.Steps.{dot_listed, dot_low, number_low, product_low}
use Rattle.linear.proofs.rows.Rows.value.Goals as goal

pub sum-requires-clause-fits : goal.sum-requires-clause-fits
sum-requires-clause-fits c =
    let r = c.args.self.now in
    let f = functional c.args.state.now c.args.y in
    let t = number r.file.now r.len r.at c.args.x in
    let each : (j : ℕ) → j < r.len → f j * t j ≤ 2 ^ 40 =
    λ j h. product_low (f j) (t j) (omega (arith, c.type_inv.state (65 * c.args.y + j)))
    (omega (arith, r.well.prime_small, number_low r.file.now r.n r.prime r.len r.at r.well c.args.x j c.requires.rows.1 h)) in
    fits_from_yields_list c.map.result _
    (YieldsList-from_map _ (λ j. f j * t j)
    (YieldsList-at c.map.ensures.source (YieldsList-from_range 0 r.len r.len refl (omega arith))) c.map.ensures.closure (λ j v q k. search (rules, tests)))
    (omega (arith, dot_listed r.len f t, dot_low r.len (2 ^ 40) f t each, r.well.few_numbers))

pub returns : goal.returns
returns c =
    let r = c.args.self.now in
    let f = functional c.args.state.now c.args.y in
    let t = number r.file.now r.len r.at c.args.x in
    ap (λ v. v % r.prime)
    (sum_from_yields_List c.map.result c.sum.result c.sum.ensures.ran
    (YieldsList-from_map _ (λ j. f j * t j)
    (YieldsList-at c.map.ensures.source (YieldsList-from_range 0 r.len r.len refl (omega arith))) c.map.ensures.closure (λ j v q k. search (rules, tests)))
    ∙ dot_listed r.len f t)
