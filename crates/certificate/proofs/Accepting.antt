-- From a file's meaning to the check of a certificate, and back.
use Rattle.std.proofs.Common.{◌≡◌, ℕ, ◌≤◌, List, length, Ok, Err, Result, sym, ◌∙◌, subst, arith}
use Rattle.sets.specs.declared.refusal.Refusal.{Refusal}
use Rattle.matroid.specs.declared.problem.Problem.{Problem}
use Rattle.matroid.specs.declared.rule.Rule.{Rule}
use Rattle.matroid.specs.declared.rule.Rule.TheVariants.{Limits, Volunteers, Links, Rows}
use Rattle.matroid.specs.Problem.{weight_of, rules_at, Means, Stands}
use Rattle.matroid.specs.Reading as reading
use Rattle.matroid.proofs.FileReading.{means_well, reads_meaning}
use Rattle.matroid.proofs.RuleLaws.{rule_matroid}
use Rattle.certificate.specs.Accepted.{Certified, Proven}
use Rattle.certificate.specs.Faults.{Fault, FirstFault}
use Rattle.certificate.specs.Layout.{count}
use Rattle.matroid.specs.TwoRules.{by_first, by_second}
use Rattle.certificate.specs.Validity.{Usable, Valid}
use Rattle.certificate.proofs.Soundness.{shows_largest, shows_heaviest}
use Rattle.certificate.proofs.Validating.{no_fault}

-- a rule that stands at a place is behind it
behind : (file : List ℕ) (n p : ℕ) (rule : Rule) → Stands file n p rule → p ≤ length file
behind file n p (Limits groups at) h = let l = h.0 in omega arith
behind file n p (Volunteers volunteers at) h = let l = h.0 in omega arith
behind file n p (Links towns at) h = let l = h.0 in omega arith
behind file n p (Rows prime long at) h = let l = h.0 in omega arith

-- what a file means can be asked: what a caller of `Claim::check` shows
pub usable : (file : List ℕ) (problem : Problem) → Means file problem → Usable file problem
usable file problem m =
    let w = means_well file problem m in
    record {
      some = m.some;
      few = m.few;
      weights = behind file problem.n (rules_at problem.n) problem.first m.first;
      first = w.0;
      second = w.1;
    }

-- a valid certificate proves what it should
pub proven : (file sheet : List ℕ) (problem : Problem) (k : ℕ) → Means file problem → k ≡ count problem.n sheet →
    Valid problem.n (by_first file problem) (by_second file problem) (weight_of file) sheet → Proven file sheet problem k
proven file sheet problem k m e v =
    let n = problem.n in
    let f = by_first file problem in
    let g = by_second file problem in
    let w = means_well file problem m in
    let mf = rule_matroid file n problem.first w.0 in
    let mg = rule_matroid file n problem.second w.1 in
    let a = shows_largest n f g (weight_of file) sheet mf mg v in
    record {
      counted = e;
      largest = λ t x y. let l = a.2 t x y in omega arith;
      sized = λ j o l. (shows_heaviest n f g (weight_of file) sheet j mf mg v o (omega arith)).0;
      first = λ j o l. (shows_heaviest n f g (weight_of file) sheet j mf mg v o (omega arith)).1;
      second = λ j o l. (shows_heaviest n f g (weight_of file) sheet j mf mg v o (omega arith)).2;
      heaviest = λ j o l. (shows_heaviest n f g (weight_of file) sheet j mf mg v o (omega arith)).3;
    }

-- a file that is refused means nothing
pub refused_file : (file : List ℕ) (e : Refusal) → reading.read file ≡ Err e → (problem : Problem) → Means file problem → ⊥
refused_file file e h problem m =
    let k = (reads_meaning file problem).1 m in
    let z : ◌≡◌ {A = Result Problem Refusal} (Ok problem) (Err e) = sym k ∙ h in
    let o : ◌≡◌ {A = ℕ} 0 1 = cc in omega arith

-- two problems that a file means are one
pub one_meaning : (file : List ℕ) (p q : Problem) → Means file p → Means file q → p ≡ q
one_meaning file p q a b =
    let k = (reads_meaning file p).1 a in
    let l = (reads_meaning file q).1 b in
    let z : ◌≡◌ {A = Result Problem Refusal} (Ok p) (Ok q) = sym k ∙ l in cc

-- a certificate in fault is not certified
pub not_certified : (file sheet : List ℕ) (words : ℕ) (problem : Problem) (e : Refusal) → Means file problem →
    FirstFault (Fault problem.n (by_first file problem) (by_second file problem) (weight_of file) sheet words) e →
    (other : Problem) → Certified file sheet words other → ⊥
not_certified file sheet words problem e m h other c =
    let same = one_meaning file other problem c.0 m in
    let d = subst (λ (p : Problem). Certified file sheet words p) same c in
    no_fault problem.n (by_first file problem) (by_second file problem) (weight_of file) sheet d.1 words d.2 h.0 h.1.0 e h.1.1
