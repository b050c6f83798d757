use Rattle.std.proofs.Common.{ℕ, ◌+◌, ◌≤◌, false, List, sym, refl, ◌∙◌, subst, arith}
use Rattle.std.proofs.lemmas.Bool.{both_ways}
use Rattle.sets.specs.Bits.{marked}
use Rattle.sets.specs.Matroid.{size, both}
use Rattle.laminar.specs.Limits.{limit, in_group, Ready}
use Rattle.laminar.proofs.Moves.{too_many}
use Rattle.laminar.proofs.Keeping.{ready_none, ready_full, ready_open}
use Rattle.laminar.proofs.Limits.independent.Goals as goal
use Rattle.laminar.proofs.Limits.independent.Goals.{then-held-most-2, else-held-most-2}

pub loop-g-init : goal.loop-g-init
loop-g-init c =
    let rule = c.args.self.now in
    ready_none rule.file.now rule.n rule.at (marked c.args.set.now) c.clear.new.set (omega arith) c.clear.ensures.members

pub returns-then-held-most : goal.returns-then-held-most
returns-then-held-most c =
    let file = c.args.self.now.file.now in
    let n = c.args.self.now.n in
    let at = c.args.self.now.at in
    record {
      answers = sym (too_many n (in_group file n at) (limit file n at) c.args.self.now.groups (marked c.args.set.now) c.loop-g.g c.loop-g-test.true
          (omega (arith, c.if-held-most.true, c.count_group-held.ensures, c.limit-most.ensures)));
      kept = λ e. absurd (both_ways false refl e);
    }

pub loop-g-preserved : goal.loop-g-preserved
loop-g-preserved c =
    let file = c.args.self.now.file.now in
    let n = c.args.self.now.n in
    let at = c.args.self.now.at in
    let g = c.loop-g.g in
    let s = marked c.args.set.now in
    let few : size n (both (in_group file n at g) s) ≤ limit file n at g =
    omega (arith, c.if-held-most.false, c.count_group-held.ensures, c.limit-most.ensures) in
    let P : List ℕ → Type 0 = Ready file n (g + 1) at s in
    elim c.if-held-most-2.branch [
      | then-held-most-2 w ↦ subst P (sym w.state-is)
          (ready_full file n g at s c.loop-g.state c.mark_group.new.state w.insert.new.set (omega arith) c.loop-g.invariant c.mark_group.ensures
          (omega (arith, w.insert.auto.set, c.mark_group.auto.state, c.loop-g.invariant.long)) (sym c.count_group-held.ensures ∙ (w.if-held-most-2.true ∙ c.limit-most.ensures)) w.insert.ensures.members)
      | else-held-most-2 w ↦ subst P (sym w.state-is)
          (ready_open file n g at s c.loop-g.state c.mark_group.new.state c.loop-g.invariant c.mark_group.ensures
          (omega (arith, c.mark_group.auto.state, c.loop-g.invariant.long))
          (λ e. w.if-held-most-2.false (c.count_group-held.ensures ∙ (e ∙ sym c.limit-most.ensures))) few)
    ]
