use Rattle.std.proofs.Common.{true, false, sym, ◌∙◌, rules}
use Rattle.sets.specs.Bits.{row}
use Rattle.matroid.specs.TwoRules.{by_first, by_second}
use Rattle.matroid.proofs.RuleLaws.{rule_matroid}
use Rattle.certificate.proofs.SetFaults.{size_loaded, allowed_loaded, by_size, by_first_rule, by_second_rule, no_set_fault}
use Rattle.certificate.proofs.claim.Claim.check_set.Goals as goal

pub returns-then-count-k-clause-fault : goal.returns-then-count-k-clause-fault
returns-then-count-k-clause-fault c =
    let o = c.args.self.now.offers in
    let sheet = c.args.self.now.sheet.now in
    let e = size_loaded o.problem.n c.load_row.new.words sheet c.args.at c.load_row.ensures.marks in
    by_size o.problem.n (by_first o.file.now o.problem) (by_second o.file.now o.problem) c.args.k (row sheet c.args.at)
    (λ h. c.if-count-k.true (c.count.ensures ∙ e ∙ h))

pub returns-then-not-independent-clause-fault : goal.returns-then-not-independent-clause-fault
returns-then-not-independent-clause-fault c =
    let o = c.args.self.now.offers in
    let sheet = c.args.self.now.sheet.now in
    let m = c.load_row.ensures.marks in
    let f = by_first o.file.now o.problem in
    let mf = rule_matroid o.file.now o.problem.n o.problem.first c.requires.usable.first in
    by_first_rule o.problem.n f (by_second o.file.now o.problem) c.args.k (row sheet c.args.at)
    (allowed_loaded o.problem.n f c.load_row.new.words sheet c.args.at c.independent.result false mf m (search rules) c.if-not-independent.true)

pub returns-then-not-independent-2-clause-fault : goal.returns-then-not-independent-2-clause-fault
returns-then-not-independent-2-clause-fault c =
    let o = c.args.self.now.offers in
    let sheet = c.args.self.now.sheet.now in
    let m = c.load_row.ensures.marks in
    let f = by_first o.file.now o.problem in
    let g = by_second o.file.now o.problem in
    let mf = rule_matroid o.file.now o.problem.n o.problem.first c.requires.usable.first in
    let mg = rule_matroid o.file.now o.problem.n o.problem.second c.requires.usable.second in
    by_second_rule o.problem.n f g c.args.k (row sheet c.args.at)
    (sym (size_loaded o.problem.n c.load_row.new.words sheet c.args.at m) ∙ sym c.count.ensures ∙ c.if-count-k.false)
    (allowed_loaded o.problem.n f c.load_row.new.words sheet c.args.at c.independent.result true mf m (search rules) c.if-not-independent.false)
    (allowed_loaded o.problem.n g c.load_row.new.words sheet c.args.at c.independent-2.result false mg m (search rules) c.if-not-independent-2.true)

pub returns-clause-fault : goal.returns-clause-fault
returns-clause-fault c =
    let o = c.args.self.now.offers in
    let sheet = c.args.self.now.sheet.now in
    let m = c.load_row.ensures.marks in
    let f = by_first o.file.now o.problem in
    let g = by_second o.file.now o.problem in
    let mf = rule_matroid o.file.now o.problem.n o.problem.first c.requires.usable.first in
    let mg = rule_matroid o.file.now o.problem.n o.problem.second c.requires.usable.second in
    no_set_fault o.problem.n f g c.args.k (row sheet c.args.at)
    (sym (size_loaded o.problem.n c.load_row.new.words sheet c.args.at m) ∙ sym c.count.ensures ∙ c.if-count-k.false)
    (allowed_loaded o.problem.n f c.load_row.new.words sheet c.args.at c.independent.result true mf m (search rules) c.if-not-independent.false)
    (allowed_loaded o.problem.n g c.load_row.new.words sheet c.args.at c.independent-2.result true mg m (search rules) c.if-not-independent-2.false)
