-- What is admitted before a choice, and what that says of the lent memory.
use Rattle.std.proofs.Common.{◌≡◌, ℕ, ◌+◌, ◌*◌, ◌≤◌, Bool, true, false, cond, ltb, List, Ok, Err, Result, sym, refl, ap, ◌∙◌, mul-le-mul_right, arith}
use Rattle.std.proofs.lemmas.Bool.{le-ltb, ltb-false}
use Rattle.sets.specs.Bits.{row_bytes, row_words}
use Rattle.sets.specs.declared.refusal.Refusal.{Refusal}
use Rattle.sets.specs.declared.refusal.Refusal.TheVariants.{Short}
use Rattle.sets.specs.declared.refusal.Lent.TheVariants.{Sets, Numbers, Work}
use Rattle.matroid.specs.Reading.{and_then, read}
use Rattle.matroid.specs.declared.problem.Problem.{Problem}
use Rattle.weighted.specs.Choice.{sets_length, numbers_length, admitted}
use Rattle.weighted.specs.Choice as choice
use Rattle.certificate.specs.Layout.{row_at}
use Rattle.certificate.specs.Validity.{work_length}
use Rattle.certificate.specs.Completeness.{longest, all_admitted}
use Rattle.certificate.proofs.RowsWritten.{rows_ordered}

-- a test that was passed: what it tries does not hold, and the rest gave the answer
passed : (b : Bool) (e : Refusal) (r : Result Problem Refusal) (p : Problem) → cond b (Err e) r ≡ Ok p → (b ≡ false) × (r ≡ Ok p)
passed true e r p h = absurd (grind arith)
passed false e r p h = (refl, h)

-- one answer gives one problem
one_problem : (problem other : Problem) → (let a : Result Problem Refusal = Ok problem in a) ≡ Ok other → problem ≡ other
one_problem problem other z = grind arith

-- where choosing admits a file, the problem is what the file says and the lent memory is long enough
pub when_admitted : (file : List ℕ) (sets numbers work : ℕ) (problem other : Problem) → read file ≡ Ok problem → admitted file sets numbers work ≡ Ok other →
    (other ≡ problem) × (sets_length problem.n ≤ sets) × (numbers_length problem.n ≤ numbers) × (choice.work_length problem.n ≤ work)
when_admitted file sets numbers work problem other e h =
    let rest : Problem → Result Problem Refusal =
    λ p.
    cond (ltb sets (sets_length p.n)) (Err (Short Sets))
    (cond (ltb numbers (numbers_length p.n)) (Err (Short Numbers)) (cond (ltb work (choice.work_length p.n)) (Err (Short Work)) (Ok p))) in
    let a : rest problem ≡ Ok other = sym (ap (λ (r : Result Problem Refusal). and_then r rest) e) ∙ h in
    let b = passed (ltb sets (sets_length problem.n)) (Short Sets)
    (cond (ltb numbers (numbers_length problem.n)) (Err (Short Numbers)) (cond (ltb work (choice.work_length problem.n)) (Err (Short Work)) (Ok problem))) other a in
    let c = passed (ltb numbers (numbers_length problem.n)) (Short Numbers)
    (cond (ltb work (choice.work_length problem.n)) (Err (Short Work)) (Ok problem)) other b.1 in
    let d = passed (ltb work (choice.work_length problem.n)) (Short Work) (Ok problem) other c.1 in
    (sym (one_problem problem other d.1), ltb-false sets (sets_length problem.n) b.0, ltb-false numbers (numbers_length problem.n) c.0, ltb-false work (choice.work_length problem.n) d.0)

-- else the answer is that of choosing
pub sheet_admitted : (file : List ℕ) (sets numbers sheet work : ℕ) (problem : Problem) → read file ≡ Ok problem → longest problem.n ≤ sheet →
    all_admitted file sets numbers sheet work ≡ admitted file sets numbers work
sheet_admitted file sets numbers sheet work problem h l =
    ap (λ (r : Result Problem Refusal). and_then r (λ problem. cond (ltb sheet (longest problem.n)) (Err (Short Sets)) (admitted file sets numbers work))) h
    ∙ ap (λ (v : Bool). cond v (Err (Short Sets)) (admitted file sets numbers work)) (le-ltb sheet (longest problem.n) l)

-- memory that is long enough for all sizes is so for those that there are
pub room : (n size sets numbers sheet : ℕ) → size ≤ n → sets_length n ≤ sets → numbers_length n ≤ numbers → longest n ≤ sheet →
    ((size + 2) * row_bytes n ≤ sets) × (2 * (size * n) ≤ numbers) × (row_at n (size + 2) ≤ sheet)
room n size sets numbers sheet l a b c =
    let d : (size + 2) * row_bytes n ≤ (n + 2) * row_bytes n = mul-le-mul_right (row_bytes n) (let s : size + 2 ≤ n + 2 = omega arith in s) in
    let e : size * n ≤ n * n = mul-le-mul_right n l in
    let f = rows_ordered n (size + 2) (n + 2) (omega arith) in
    (omega arith, omega arith, omega arith)

-- choosing takes more words than the check
pub enough_work : (n words : ℕ) → choice.work_length n ≤ words → work_length n ≤ words
enough_work n words h =
    let a : 2 * row_words n ≤ (n + 6) * row_words n = mul-le-mul_right (row_words n) (let s : 2 ≤ n + 6 = omega arith in s) in
    omega arith
