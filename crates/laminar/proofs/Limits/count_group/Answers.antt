use Rattle.std.proofs.Common.{◌≡◌, ◌+◌, ◌∙◌, ◌&&◌, refl, sym, ap, arith, rules, tests}
use Rattle.std.proofs.lemmas.Iterator.{YieldsList-from_range}
use Rattle.std.proofs.lemmas.Iterator.Consumers.{YieldsList-at, YieldsList-from_filter, count_from_yields_List}
use Rattle.sets.specs.Bits.{marked, word_row}
use Rattle.sets.specs.Matroid.{Set, both}
use Rattle.laminar.specs.Limits.{in_group}
use Rattle.laminar.proofs.Kept.{head_row}
use Rattle.laminar.proofs.Ranges.{size_listed}
use Rattle.laminar.proofs.Limits.count_group.Goals as goal

pub returns : goal.returns
returns c =
    let n = c.args.self.now.n in
    let group : Set = in_group c.args.self.now.file.now n c.args.self.now.at c.args.g in
    let s : Set = both group (word_row c.args.set.now 0) in
    count_from_yields_List c.filter.result c.count.result c.count.ensures.ran
    (YieldsList-from_filter _ s (YieldsList-at c.filter.ensures.source (YieldsList-from_range 0 n n refl (omega arith))) c.filter.ensures.closure
    (λ x b q k. search (rules, tests)))
    ∙ size_listed 0 n s (both group (marked c.args.set.now)) (λ k. let z : 0 + k ≡ k = omega arith in rw z (ap (λ b. group k && b) (sym (head_row c.args.set.now k))))
