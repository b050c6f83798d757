-- The basis grows by the set's rows in order; a row that the earlier ones span refuses the set.
use Rattle.std.proofs.Common.{◌≡◌, ℕ, ◌+◌, true, List, sym, ◌∙◌, subst, arith}
use Rattle.std.proofs.lemmas.Bool.{false≢true, not-false}
use Rattle.sets.specs.Bits.{marked}
use Rattle.linear.specs.Rows.{number, spanned}
use Rattle.linear.specs.Kept.{functional, Dual}
use Rattle.linear.proofs.Answered.{dual_none, dual_skip, dual_allows, spanned_refuses}
use Rattle.linear.proofs.rows.Rows.independent.Goals as goal
use Rattle.linear.proofs.rows.Rows.independent.Goals.{else-chosen-via-then-chosen+else-not-insert, else-chosen-via-else-chosen}

pub loop-x-init : goal.loop-x-init
loop-x-init c = dual_none _ _ _ _ _

pub loop-x-preserved : goal.loop-x-preserved
loop-x-preserved c =
    let r = c.args.self.now in
    let P : List ℕ → Type 0 =
    λ xs. Dual r.prime r.len (number r.file.now r.len r.at) (functional xs) (c.loop-x.x + 1) (marked c.args.set.now) in
    elim c.else-chosen.branch [
      | else-chosen-via-then-chosen+else-not-insert w ↦ subst P (sym w.state-is) (w.insert.ensures.grown w.if-not-insert.false)
      | else-chosen-via-else-chosen w ↦ subst P (sym w.state-is) (dual_skip _ _ _ _ _ _ (sym c.chosen.ensures ∙ w.if-chosen.false) c.loop-x.invariant)
    ]

pub returns : goal.returns
returns c =
    let r = c.args.self.now in
    let allowed = dual_allows r.file.now r.n r.prime r.len r.at r.well (marked c.args.set.now)
    (functional c.note_spanned.new.state) c.note_spanned.ensures.dual in
    record { answers = sym allowed; ready = λ _. record { fits = omega arith; dual = c.note_spanned.ensures.dual; spans = c.note_spanned.ensures.flags; allowed = allowed } }

pub returns-then-not-insert : goal.returns-then-not-insert
returns-then-not-insert c =
    let r = c.args.self.now in
    let s = marked c.args.set.now in
    let t : spanned r.prime r.len (number r.file.now r.len r.at) s c.loop-x.x (number r.file.now r.len r.at c.loop-x.x) ≡ true =
    not-false _ (sym c.insert.ensures.answer ∙ c.if-not-insert.true) in
    record {
      answers =
          sym (spanned_refuses r.file.now r.n r.prime r.len r.at r.well s c.loop-x.x (omega arith)
          (sym c.chosen.ensures ∙ c.if-chosen.true) t);
      ready = λ h. absurd (false≢true h);
    }
