use Rattle.std.proofs.Common.{◌≡◌, ℕ, ◌+◌, Bool, true, false, List, subst, inl, inr, arith}
use Rattle.std.proofs.lemmas.Result.{err_from_is_err_and, MatchResult-weaker}
use Rattle.sets.specs.Bits.{row}
use Rattle.sets.specs.Matroid.{Set}
use Rattle.sets.specs.declared.refusal.Refusal.TheVariants.{Refused}
use Rattle.sets.specs.declared.refusal.Which.TheVariants.{First, Second}
use Rattle.sets.proofs.FiniteSets.{size_bound}
use Rattle.matroid.specs.Problem.{weight_of}
use Rattle.matroid.specs.TwoRules.{by_first, by_second}
use Rattle.certificate.specs.Layout.{row_at, count, largest_set}
use Rattle.certificate.specs.Faults.{SetFault, first_refuses, second_refuses, Clear, Earliest, AllRight, SomeWrong}
use Rattle.certificate.proofs.Validating.{not_refused}
use Rattle.certificate.proofs.claim.Claim.check_parts.Goals as goal

-- the clauses of `check_set` at the place and the size of the largest set
moved : (A : ℕ → ℕ → Type 0) (at n k m : ℕ) → at ≡ row_at n 0 → k ≡ m → A at k → A (row_at n 0) m
moved A at n k m e d h = subst (λ (i : ℕ). A (row_at n 0) i) d (subst (λ (i : ℕ). A i k) e h)

-- the largest set has no fault
largest_clear : (n : ℕ) (f g : Set → Bool) (sheet : List ℕ) (at k : ℕ) → at ≡ row_at n 0 → k ≡ count n sheet → Clear (SetFault n f g k (row sheet at)) →
    Clear (SetFault n f g (count n sheet) (largest_set n sheet))
largest_clear n f g sheet at k d e h = moved (λ at k. Clear (SetFault n f g k (row sheet at))) at n k (count n sheet) d e h

pub returns-in_err-check_set : goal.returns-in_err-check_set
returns-in_err-check_set c =
    let p = err_from_is_err_and c.from_residual.result c.from_residual.ensures.1 in
    let o = c.args.self.now.offers in
    let sheet = c.args.self.now.sheet.now in
    let f = by_first o.file.now o.problem in
    let g = by_second o.file.now o.problem in
    rw (p.1, p.2)
    (inl (moved (λ at k. Earliest (SetFault o.problem.n f g k (row sheet at)) c.in_err-check_set.field-0.0) c.row_at-at.result o.problem.n c.args.sizes (count o.problem.n sheet)
    c.row_at-at.ensures.exact c.requires.sizes c.in_err-check_set.ensures.fault))

pub check_dual-requires-clause-first : goal.check_dual-requires-clause-first
check_dual-requires-clause-first c =
    let o = c.args.self.now.offers in
    let n = o.problem.n in
    let sheet = c.args.self.now.sheet.now in
    let f = by_first o.file.now o.problem in
    let clear = largest_clear n f (by_second o.file.now o.problem) sheet c.row_at-at.result c.args.sizes c.row_at-at.ensures.exact c.requires.sizes c.in_ok-check_set.ensures.fault in
    not_refused (f (largest_set n sheet)) (λ e. clear 0 (Refused (count n sheet) First) (first_refuses e))

pub check_dual-requires-clause-second : goal.check_dual-requires-clause-second
check_dual-requires-clause-second c =
    let o = c.args.self.now.offers in
    let n = o.problem.n in
    let sheet = c.args.self.now.sheet.now in
    let g = by_second o.file.now o.problem in
    let clear = largest_clear n (by_first o.file.now o.problem) g sheet c.row_at-at.result c.args.sizes c.row_at-at.ensures.exact c.requires.sizes c.in_ok-check_set.ensures.fault in
    not_refused (g (largest_set n sheet)) (λ e. clear 1 (Refused (count n sheet) Second) (second_refuses e))

pub returns-in_err-check_dual : goal.returns-in_err-check_dual
returns-in_err-check_dual c =
    let p = err_from_is_err_and c.from_residual-in_err-check_dual.result c.from_residual-in_err-check_dual.ensures.1 in
    let o = c.args.self.now.offers in
    let sheet = c.args.self.now.sheet.now in
    let clear = largest_clear o.problem.n (by_first o.file.now o.problem) (by_second o.file.now o.problem) sheet c.row_at-at.result c.args.sizes
    c.row_at-at.ensures.exact c.requires.sizes c.in_ok-check_set.ensures.fault in
    rw (p.1, p.2) (inr (clear, inl c.in_err-check_dual.ensures.fault))

pub check_sizes-requires-clause-few : goal.check_sizes-requires-clause-few
check_sizes-requires-clause-few c =
    let b = size_bound c.args.self.now.offers.problem.n (largest_set c.args.self.now.offers.problem.n c.args.self.now.sheet.now) in
    omega arith

pub returns : goal.returns
returns c =
    let o = c.args.self.now.offers in
    let n = o.problem.n in
    let sheet = c.args.self.now.sheet.now in
    let f = by_first o.file.now o.problem in
    let g = by_second o.file.now o.problem in
    let w = weight_of o.file.now in
    let clear = largest_clear n f g sheet c.row_at-at.result c.args.sizes c.row_at-at.ensures.exact c.requires.sizes c.in_ok-check_set.ensures.fault in
    let d = c.in_ok-check_dual.ensures.fault in
    let e = c.requires.sizes in
    MatchResult-weaker c.check_sizes.result c.check_sizes.ensures
    (λ x h. (clear, d, subst (λ (k : ℕ). AllRight n f g w sheet (k + 1)) e h))
    (λ r h. inr (clear, inr (d, subst (λ (k : ℕ). SomeWrong n f g w sheet (k + 1) r) e h)))
