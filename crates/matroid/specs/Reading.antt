-- How a file of offers is read, front to back, and all that can be wrong with it.
use Rattle.std.specs.Prelude.{◌≡◌, ℕ, zero, suc, ◌+◌, ◌*◌, ◌<◌, ◌≤◌, cond, ◌||◌, ◌⊎◌, List, length, Ok, Err, Result, ◌==◌, nat_le, nat_lt, slice_index}
use Rattle.sets.specs.Bits.{le4}
use Rattle.sets.specs.Refusals.{First}
use Rattle.sets.specs.declared.refusal.Refusal.{Refusal}
use Rattle.sets.specs.declared.refusal.Refusal.TheVariants.{Length, Weight, Kind}
use Rattle.sets.specs.declared.refusal.Refusal.TheVariants as refused
use Rattle.sets.specs.declared.refusal.Source.TheVariants.{Offers}
use Rattle.matroid.specs.declared.rule.Rule.{Rule}
use Rattle.matroid.specs.declared.rule.Rule.TheVariants.{Limits, Volunteers, Links, Rows}
use Rattle.matroid.specs.declared.problem.Problem.{Problem}
use Rattle.matroid.specs.Problem.{offers, weight_of, rules_at, rule_end, Means}
use Rattle.matroid.specs.Rules.{Well}
use Rattle.laminar.specs.Reading as laminar
use Rattle.transversal.specs.Reading as transversal
use Rattle.graphic.specs.Links as graphic
use Rattle.linear.specs.Reading as linear

-- goes on with what was read, or stops at a refusal
abbrev pub and_then : {A B : Type 0} → Result A Refusal → (A → Result B Refusal) → Result B Refusal
and_then (Ok a) next = next a
and_then (Err e) next = Err e

-- the weight at a place: it is there, and at most a million
abbrev pub read_weight : List ℕ → ℕ → Result (Unit {0}) Refusal
read_weight file at =
    cond (nat_lt (length file) (at + 4)) (Err (Length Offers (length file))) (cond (nat_lt 1000000 (le4 file at)) (Err (Weight at)) (Ok tt))

-- the weights of `left` offers from the place `at` on
abbrev pub read_weights : List ℕ → ℕ → ℕ → Result (Unit {0}) Refusal
read_weights file zero at = Ok tt
read_weights file (suc left) at = and_then (read_weight file at) (λ _. read_weights file left (at + 4))

-- a rule of the kind that the byte at p says
abbrev pub read_kind : List ℕ → ℕ → ℕ → ℕ → Result Rule Refusal
read_kind file n p kind =
    cond (kind == 1) (and_then (laminar.read file n (p + 1)) (λ groups. Ok (Limits groups (p + 2))))
    (cond (kind == 2) (and_then (transversal.read file n (p + 1)) (λ volunteers. Ok (Volunteers volunteers (p + 3))))
    (cond (kind == 3) (and_then (graphic.read file n (p + 1)) (λ towns. Ok (Links towns (p + 3))))
    (cond (kind == 4) (and_then (linear.read file n (p + 1)) (λ shape. Ok (Rows shape.prime shape.len (p + 3))))
    (Err (Kind p)))))

-- the rule at p
abbrev pub read_rule : List ℕ → ℕ → ℕ → Result Rule Refusal
read_rule file n p = cond (nat_le (length file) p) (Err (Length Offers (length file))) (read_kind file n p (slice_index file p))

-- no byte is left over
abbrev pub read_end : List ℕ → ℕ → Rule → Rule → Result Problem Refusal
read_end file n first second =
    cond (nat_lt (rule_end n second) (length file)) (Err (Length Offers (rule_end n second)))
    (Ok (record { n = n; first = first; second = second }))

-- the second rule, behind the first
abbrev pub read_second : List ℕ → ℕ → Rule → Result Problem Refusal
read_second file n first = and_then (read_rule file n (rule_end n first)) (λ second. read_end file n first second)

-- both rules, behind the weights
abbrev pub read_rules : List ℕ → ℕ → Result Problem Refusal
read_rules file n = and_then (read_rule file n (rules_at n)) (λ first. read_second file n first)

-- the whole file: the number of offers, the weights, two rules, and no more
abbrev pub read : List ℕ → Result Problem Refusal
read file =
    cond (nat_lt (length file) 2) (Err (Length Offers (length file)))
    (cond (offers file == 0 || nat_lt 600 (offers file)) (Err refused.Offers)
    (and_then (read_weights file (offers file) 2) (λ _. read_rules file (offers file))))

-- the place behind a rule at p of that kind, by what its header says
abbrev pub end_kind : List ℕ → ℕ → ℕ → ℕ → ℕ
end_kind file n p kind =
    cond (kind == 1) (laminar.end file n (p + 1))
    (cond (kind == 2) (transversal.end file n (p + 1))
    (cond (kind == 3) (graphic.end file n (p + 1)) (cond (kind == 4) (linear.end file n (p + 1)) (p + 1))))

-- the place behind the rule at p
abbrev pub end_at : List ℕ → ℕ → ℕ → ℕ
end_at file n p = end_kind file n p (slice_index file p)

-- the byte at p says a kind of rule
abbrev pub Known : List ℕ → ℕ → Type 0
Known file p = (p < length file) × (1 ≤ slice_index file p) × (slice_index file p ≤ 4)

-- all that can be wrong with a rule at p: it is not there, its kind is unknown, or what is wrong by its kind
pub data RuleFault (file : List ℕ) (n p : ℕ) : Refusal → Type 0 where
  no_kind : length file ≤ p → RuleFault file n p (Length Offers (length file))
  unknown : p < length file → (slice_index file p ≡ 0) ⊎ (4 < slice_index file p) → RuleFault file n p (Kind p)
  limits : {e : Refusal} → p < length file → slice_index file p ≡ 1 → laminar.Fault file n (p + 1) e → RuleFault file n p e
  volunteers : {e : Refusal} → p < length file → slice_index file p ≡ 2 → transversal.Fault file n (p + 1) e → RuleFault file n p e
  links : {e : Refusal} → p < length file → slice_index file p ≡ 3 → graphic.Fault file n (p + 1) e → RuleFault file n p e
  rows : {e : Refusal} → p < length file → slice_index file p ≡ 4 → linear.Fault file n (p + 1) e → RuleFault file n p e

-- where the second rule begins, and where the file ends
abbrev pub second_at : List ℕ → ℕ
second_at file = end_at file (offers file) (rules_at (offers file))

abbrev pub end_of : List ℕ → ℕ
end_of file = end_at file (offers file) (second_at file)

-- all that can be wrong with a file; weights and rules are looked for only if the number of offers is right, the second rule
-- only behind a first of a known kind
pub data Fault (file : List ℕ) : Refusal → Type 0 where
  no_number : length file < 2 → Fault file (Length Offers (length file))
  wrong_number : 2 ≤ length file → (offers file ≡ 0) ⊎ (600 < offers file) → Fault file refused.Offers
  cut : 1 ≤ offers file → offers file ≤ 600 → length file < rules_at (offers file) → Fault file (Length Offers (length file))
  heavy : 1 ≤ offers file → offers file ≤ 600 → (i : ℕ) → i < offers file → 2 + 4 * i + 4 ≤ length file → 1000000 < weight_of file i →
      Fault file (Weight (2 + 4 * i))
  first : {e : Refusal} → 1 ≤ offers file → offers file ≤ 600 → RuleFault file (offers file) (rules_at (offers file)) e → Fault file e
  second : {e : Refusal} → 1 ≤ offers file → offers file ≤ 600 → Known file (rules_at (offers file)) →
      RuleFault file (offers file) (second_at file) e → Fault file e
  too_long : 1 ≤ offers file → offers file ≤ 600 → Known file (rules_at (offers file)) → Known file (second_at file) →
      end_of file < length file → Fault file (Length Offers (end_of file))

-- a file is read exactly if it means a problem, and as that problem
abbrev pub ReadsMeaning : Type 0
ReadsMeaning =
    (file : List ℕ) (problem : Problem) →
    (read file ≡ Ok problem → Means file problem) × (Means file problem → read file ≡ Ok problem)

-- a refusal is the first of all faults
abbrev pub RefusesFirst : Type 0
RefusesFirst = (file : List ℕ) (e : Refusal) → read file ≡ Err e → First (Fault file) e

-- a file that means a problem has no fault
abbrev pub Faultless : Type 0
Faultless = (file : List ℕ) (problem : Problem) (e : Refusal) → Means file problem → Fault file e → ⊥

-- both rules of a file that means a problem are well formed
abbrev pub MeansWell : Type 0
MeansWell =
    (file : List ℕ) (problem : Problem) → Means file problem → Well file problem.n problem.first × Well file problem.n problem.second
