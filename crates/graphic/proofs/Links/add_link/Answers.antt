-- Towns with one label are joined; else the two classes are merged.
use Rattle.std.proofs.Common.{◌≡◌, false, not, sym, ap, ◌∙◌, arith}
use Rattle.std.proofs.lemmas.Bool.{eq-eqb, false≢true}
use Rattle.sets.specs.Matroid.{Set, with}
use Rattle.graphic.specs.Links.{Ready}
use Rattle.graphic.proofs.Growing.{ready_with}
use Rattle.graphic.proofs.Kept.{add_answer}
use Rattle.graphic.proofs.Links.add_link.Goals as goal

pub returns-then-new-old : goal.returns-then-new-old
returns-then-new-old c = record {
  answers = λ s r h.
      ap not (sym (eq-eqb _ _ c.if-new-old.true))
      ∙ add_answer c.args.self.now.file.now c.args.self.now.n c.args.self.now.towns c.args.self.now.at s c.args.state.now c.args.self.now.well r
      c.args.x c.ends-u.result.0 c.ends-u.result.1 (omega arith) h c.ends-u.ensures.first c.ends-u.ensures.second;
  grows = λ s r h e. absurd (false≢true e);
}

pub returns : goal.returns
returns c = record {
  answers = λ s r h. sym (whole s r h).allowed;
  grows = λ s r h e. whole s r h;
}
  where
    whole : (s : Set) → Ready c.args.self.now.file.now c.args.self.now.n c.args.self.now.towns c.args.self.now.at s c.args.state.now → s c.args.x ≡ false →
        Ready c.args.self.now.file.now c.args.self.now.n c.args.self.now.towns c.args.self.now.at (with s c.args.x) c.merge_classes.new.state
    whole s r h =
        ready_with c.args.self.now.file.now c.args.self.now.n c.args.self.now.towns c.args.self.now.at s c.args.x c.ends-u.result.0 c.ends-u.result.1
        c.args.state.now c.sum_rows.new.state c.merge_classes.new.state c.args.self.now.well r (omega arith) h
        c.ends-u.ensures.first c.ends-u.ensures.second c.if-new-old.false (omega arith)
        c.sum_rows.ensures.sum c.sum_rows.ensures.labels c.sum_rows.ensures.rows
        c.merge_classes.ensures.labels c.merge_classes.ensures.rows
