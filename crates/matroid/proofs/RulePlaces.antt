-- Where a rule ends, and where its faults are.
use Rattle.std.proofs.Common.{◌≡◌, ℕ, ◌+◌, ◌<◌, ◌≤◌, eqb, List, length, get_or, Ok, sym, refl, ap, ◌∙◌, inl, inr, ⊎_elim, arith}
use Rattle.std.proofs.lemmas.Bool.{cond_both}
use Rattle.sets.specs.Bits.{le2}
use Rattle.sets.specs.Refusals.{place}
use Rattle.sets.specs.declared.refusal.Refusal.{Refusal}
use Rattle.sets.specs.declared.refusal.Refusal.TheVariants.{Length}
use Rattle.sets.specs.declared.refusal.Source.TheVariants.{Offers}
use Rattle.matroid.specs.declared.rule.Rule.{Rule}
use Rattle.matroid.specs.declared.rule.Rule.TheVariants.{Limits, Volunteers, Links, Rows}
use Rattle.matroid.specs.Problem.{rule_end, Stands}
use Rattle.matroid.specs.Reading.{read_rule, end_kind, end_at, Known, RuleFault}
use Rattle.matroid.specs.Reading.RuleFault.{no_kind, unknown, limits, volunteers, links, rows}
use Rattle.matroid.proofs.Stages.{Located}
use Rattle.matroid.proofs.RuleReading.{rule_sound}
use Rattle.matroid.proofs.KindLaws.{limits_located, volunteers_located, links_located, rows_located}
use Rattle.laminar.specs.Reading as laminar
use Rattle.transversal.specs.Reading as transversal
use Rattle.graphic.specs.Links as graphic
use Rattle.linear.specs.Reading as linear

-- a rule takes one byte at least
pub end_past : (file : List ℕ) (n p : ℕ) → p < end_at file n p
end_past file n p =
    let k = get_or file p 0 in
    cond_both (eqb k 1) _ _ (λ x. p < x) (λ _. omega arith) (λ _.
    cond_both (eqb k 2) _ _ (λ x. p < x) (λ _. omega arith) (λ _.
    cond_both (eqb k 3) _ _ (λ x. p < x) (λ _. omega arith) (λ _.
    cond_both (eqb k 4) _ _ (λ x. p < x) (λ _. omega arith) (λ _. omega arith))))

-- a fault of a kind's own is one of the rule with its kind
wider : (file : List ℕ) (p a b : ℕ) (f : Refusal) → a ≡ b → Located file (p + 1) a f → Located file p b f
wider file p a b f e w =
    ⊎_elim (λ (x : (f ≡ Length Offers (length file)) × (length file < a)). inl (x.0, omega (arith, x.1)))
    (λ (x : (p + 1 ≤ place f) × (place f < a) × (place f < length file)). inr (omega (arith, x.0), omega (arith, x.1), x.2)) w

-- where the faults of a rule are
pub rule_located : (file : List ℕ) (n p : ℕ) → (f : Refusal) → RuleFault file n p f → Located file p (end_at file n p) f
rule_located file n p _ (no_kind h) = let e = end_past file n p in inl (refl, omega arith)
rule_located file n p _ (unknown h i) = let e = end_past file n p in inr (omega arith, omega arith, omega arith)
rule_located file n p f (limits h i w) =
    wider file p (laminar.end file n (p + 1)) _ f (sym (ap (end_kind file n p) i)) (limits_located file n (p + 1) f w)
rule_located file n p f (volunteers h i w) =
    wider file p (transversal.end file n (p + 1)) _ f (sym (ap (end_kind file n p) i)) (volunteers_located file n (p + 1) f w)
rule_located file n p f (links h i w) =
    wider file p (graphic.end file n (p + 1)) _ f (sym (ap (end_kind file n p) i)) (links_located file n (p + 1) f w)
rule_located file n p f (rows h i w) =
    wider file p (linear.end file n (p + 1)) _ f (sym (ap (end_kind file n p) i)) (rows_located file n (p + 1) f w)

-- a rule that stands in the file ends where its header says
pub ends_there : (file : List ℕ) (n p : ℕ) (x : Rule) → Stands file n p x → rule_end n x ≡ end_at file n p
ends_there file n p (Limits c at) g = sum g.2 g.3 ∙ sym (ap (end_kind file n p) g.1)
  where
    sum : c ≡ get_or file (p + 1) 0 → at ≡ p + 2 → rule_end n (Limits c at) ≡ laminar.end file n (p + 1)
    sum e f = rw (e, f) (omega arith)
ends_there file n p (Volunteers c at) g = sum g.2 g.3 ∙ sym (ap (end_kind file n p) g.1)
  where
    sum : c ≡ le2 file (p + 1) → at ≡ p + 3 → rule_end n (Volunteers c at) ≡ transversal.end file n (p + 1)
    sum e f = rw (e, f) (omega arith)
ends_there file n p (Links c at) g = sum g.3 ∙ sym (ap (end_kind file n p) g.1)
  where
    sum : at ≡ p + 3 → rule_end n (Links c at) ≡ graphic.end file n (p + 1)
    sum f = omega arith
ends_there file n p (Rows c d at) g = sum g.2.1 g.3 ∙ sym (ap (end_kind file n p) g.1)
  where
    sum : d ≡ get_or file (p + 2) 0 → at ≡ p + 3 → rule_end n (Rows c d at) ≡ linear.end file n (p + 1)
    sum e f = let q : p + 1 + 1 ≡ p + 2 = omega arith in rw (e, f, q) (omega arith)

-- and all of it is there
pub ends_within : (file : List ℕ) (n p : ℕ) (x : Rule) → Stands file n p x → rule_end n x ≤ length file
ends_within file n p (Limits c at) g = g.4.whole
ends_within file n p (Volunteers c at) g = g.4.whole
ends_within file n p (Links c at) g = g.4.present
ends_within file n p (Rows c d at) g = g.4.there

-- its kind is known
pub kind_known : (file : List ℕ) (n p : ℕ) (x : Rule) → Stands file n p x → Known file p
kind_known file n p (Limits c at) g = (omega (arith, g.0), omega (arith, g.1), omega (arith, g.1))
kind_known file n p (Volunteers c at) g = (omega (arith, g.0), omega (arith, g.1), omega (arith, g.1))
kind_known file n p (Links c at) g = (omega (arith, g.0), omega (arith, g.1), omega (arith, g.1))
kind_known file n p (Rows c d at) g = (omega (arith, g.0), omega (arith, g.1), omega (arith, g.1))

-- a rule that was read ends within the file
pub read_within : (file : List ℕ) (n p : ℕ) (x : Rule) → Ok x ≡ read_rule file n p → rule_end n x ≤ length file
read_within file n p x h = ends_within file n p x ((rule_sound file n p).ok_good x (sym h))
