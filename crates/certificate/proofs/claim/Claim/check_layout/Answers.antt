use Rattle.std.proofs.Common.{◌≡◌, ℕ, ◌+◌, ◌<◌, min, length, sym, ap, ◌∙◌, subst, arith}
use Rattle.std.proofs.lemmas.Result.{err_from_is_err_and}
use Rattle.sets.specs.declared.refusal.Refusal.TheVariants.{Length}
use Rattle.sets.specs.declared.refusal.Source.TheVariants.{Certificate}
use Rattle.certificate.specs.Faults.{ByteFault, Earliest}
use Rattle.certificate.specs.Layout.{row_at, count, needed}
use Rattle.certificate.proofs.Bytes.{first_row_fault, first_length_fault, no_byte_fault}
use Rattle.certificate.proofs.claim.Claim.check_layout.Goals as goal

pub returns-in_err-check_rows : goal.returns-in_err-check_rows
returns-in_err-check_rows c =
    let p = err_from_is_err_and c.from_residual.result c.from_residual.ensures.1 in
    let f = c.in_err-check_rows.ensures in
    rw (p.1, p.2)
    (first_row_fault c.args.self.now.offers.problem.n c.args.self.now.sheet.now f.0 c.in_err-check_rows.field-0.0 c.requires (omega arith) f.2 f.3)

pub returns-in_err-check_rows-2 : goal.returns-in_err-check_rows-2
returns-in_err-check_rows-2 c =
    let p = err_from_is_err_and c.from_residual-in_err-check_rows-2.result c.from_residual-in_err-check_rows-2.ensures.1 in
    let f = c.in_err-check_rows-2.ensures in
    let h : f.0 < count c.args.self.now.offers.problem.n c.args.self.now.sheet.now + 2 = omega (arith, c.count_sizes-count.ensures.exact) in
    rw (p.1, p.2)
    (first_row_fault c.args.self.now.offers.problem.n c.args.self.now.sheet.now f.0 c.in_err-check_rows-2.field-0.0 c.requires h f.2 f.3)

pub returns-then-self-needed : goal.returns-then-self-needed
returns-then-self-needed c =
    let n = c.args.self.now.offers.problem.n in
    let sheet = c.args.self.now.sheet.now in
    let k : c.count_sizes-count.result ≡ count n sheet = c.count_sizes-count.ensures.exact in
    let e : c.row_at-needed.result ≡ needed n sheet = c.row_at-needed.ensures.exact ∙ ap (λ (m : ℕ). row_at n (m + 2)) k in
    let m : min (length sheet) (needed n sheet) ≡ c.min.result = ap (min (length sheet)) (sym e) ∙ sym c.min.ensures in
    subst (λ (p : ℕ). Earliest (ByteFault n sheet) (Length Certificate p)) m
    (first_length_fault n sheet (λ d. c.if-self-needed.true (d ∙ sym e))
    (λ i h. c.in_ok-check_rows-2.ensures i (subst (λ (m : ℕ). i < m + 2) (sym k) h)))

pub returns : goal.returns
returns c =
    let n = c.args.self.now.offers.problem.n in
    let sheet = c.args.self.now.sheet.now in
    let k : c.count_sizes-count.result ≡ count n sheet = c.count_sizes-count.ensures.exact in
    let e : c.row_at-needed.result ≡ needed n sheet = c.row_at-needed.ensures.exact ∙ ap (λ (m : ℕ). row_at n (m + 2)) k in (
      k,
      no_byte_fault n sheet (c.if-self-needed.false ∙ e)
          (λ i h. c.in_ok-check_rows-2.ensures i (subst (λ (m : ℕ). i < m + 2) (sym k) h)),
    )
