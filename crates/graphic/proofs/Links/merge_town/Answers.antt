-- One row and one label are written; the others lie elsewhere.
use Rattle.std.proofs.Common.{◌<◌, ◌≤◌, length, ap, ◌∙◌, arith}
use Rattle.sets.specs.Bits.{word_row, xor}
use Rattle.graphic.specs.Links.{kept_length}
use Rattle.graphic.proofs.Rows.{label_new, label_kept, work_kept, town_row_new, other_row_kept}
use Rattle.graphic.proofs.Links.merge_town.Goals as goal

pub returns : goal.returns
returns c =
    let n = c.args.self.now.n in
    let t = c.args.town in
    let xs = c.args.state.now in
    let ys = c.xor_row.new.words in
    let at = c.row_at.result in
    let l : t < 600 = omega arith in
    let k : kept_length n ≤ length ys = omega arith in
    let e = c.row_at.ensures in
    let r = rw c.row_len-len.ensures at c.xor_row.ensures.rest in
    record {
      label = label_new n t c.args.new xs ys at l k e r;
      row = λ z h.
          town_row_new n t c.args.new xs ys at l k e r z h ∙ c.xor_row.ensures.marks z (omega arith)
          ∙ ap (λ p. xor (word_row xs p z) (word_row xs 600 z)) e;
      work = work_kept n t c.args.new xs ys at l k e r;
      labels = label_kept n t c.args.new xs ys at l k e r;
      rows = other_row_kept n t c.args.new xs ys at l k e r;
    }
