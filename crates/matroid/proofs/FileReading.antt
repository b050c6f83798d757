-- Reading a whole file of offers.
use Rattle.std.proofs.Common.{◌≡◌, ℕ, zero, suc, ◌+◌, ◌<◌, ◌≤◌, true, ◌||◌, eqb, ltb, ◌⊎◌, List, length, Ok, Err, Result, sym, refl, ap, ◌∙◌, subst, inl, inr, ⊎_elim, arith, MatchResult}
use Rattle.std.proofs.lemmas.Bool.{ltb-true, ltb-false, eqb-true, eqb-false, or_cases, or_parts}
use Rattle.sets.specs.Refusals.{First, place, number}
use Rattle.sets.specs.declared.refusal.Refusal.{Refusal}
use Rattle.sets.specs.declared.refusal.Refusal.TheVariants.{Length, Weight}
use Rattle.sets.specs.declared.refusal.Refusal.TheVariants as refused
use Rattle.sets.specs.declared.refusal.Source.TheVariants.{Offers}
use Rattle.matroid.specs.declared.rule.Rule.{Rule}
use Rattle.matroid.specs.declared.rule.Rule.TheVariants.{Limits, Volunteers, Links, Rows}
use Rattle.matroid.specs.declared.problem.Problem.{Problem}
use Rattle.matroid.specs.Problem.{offers, rules_at, rule_end, Stands, Means}
use Rattle.matroid.specs.Reading.{and_then, read_weights, read_rule, read_end, read, end_at, Known, RuleFault, second_at, end_of, Fault, ReadsMeaning, RefusesFirst, Faultless, MeansWell}
use Rattle.matroid.specs.Reading.Fault.{no_number, wrong_number, cut, heavy, first, second, too_long}
use Rattle.matroid.specs.Rules.{Well}
use Rattle.matroid.proofs.Stages.{Sound, Located, reworded, tested, in_turn}
use Rattle.matroid.proofs.WeightReading.{WeightsFault, WeightsGood, weights_sound, weights_located}
use Rattle.matroid.proofs.RuleReading.{rule_sound}
use Rattle.matroid.proofs.RulePlaces.{end_past, rule_located, ends_there, ends_within, kind_known}

-- a part is in a longer part
longer : (file : List ℕ) (a a' b b' : ℕ) (f : Refusal) → a' ≤ a → b ≤ b' → Located file a b f → Located file a' b' f
longer file a a' b b' f l m w =
    ⊎_elim (λ (x : (f ≡ Length Offers (length file)) × (length file < b)). inl (x.0, omega (arith, x.1)))
    (λ (x : (a ≤ place f) × (place f < b) × (place f < length file)). inr (omega (arith, x.0), omega (arith, x.1), x.2)) w

-- a number in range is not out of it
no_range : (k : ℕ) → 1 ≤ k → k ≤ 600 → (k ≡ 0) ⊎ (600 < k) → ⊥
no_range k a b (inl w) = omega arith
no_range k a b (inr w) = omega arith

-- a number that is not 0 is 1 at least
above_none : (k : ℕ) → (k ≡ 0 → ⊥) → 1 ≤ k
above_none zero h = absurd (h refl)
above_none (suc k) h = omega arith

-- a file whose number of offers is right
module _ (file : List ℕ) (long : 2 ≤ length file) (some : 1 ≤ offers file) (few : offers file ≤ 600) where
  -- how many offers there are
  abbrev n : ℕ
  n = offers file

  -- the place of the first rule
  abbrev p : ℕ
  p = rules_at (offers file)

  -- a place behind all
  abbrev far : ℕ
  far = length file + end_of file + 1

  -- what is wrong with the second rule
  abbrev SecondFault : Refusal → Type 0
  SecondFault f = Known file p × RuleFault file n (second_at file) f

  -- bytes are left over
  abbrev EndFault : Refusal → Type 0
  EndFault f = Known file p × Known file (second_at file) × (end_of file < length file) × (f ≡ Length Offers (end_of file))

  -- the problem is what was read, and the file ends there
  abbrev EndGood : Rule → Rule → Problem → Type 0
  EndGood x y problem = (problem ≡ record { n = n; first = x; second = y }) × (rule_end n y ≡ length file)

  -- where bytes left over are
  end_located : (f : Refusal) → EndFault f → Located file (end_of file) far f
  end_located f k = let q : place f ≡ end_of file = ap place k.3 in inr (omega arith, omega (arith, k.2), omega (arith, k.2))

  -- where the faults of the second rule are
  second_located : (f : Refusal) → SecondFault f → Located file (second_at file) (end_of file) f
  second_located f k = rule_located file n (second_at file) f k.1

  -- where the faults behind the first rule are
  later_located : (f : Refusal) → SecondFault f ⊎ EndFault f → Located file (second_at file) far f
  later_located f k =
      let e = end_past file n (second_at file) in
      ⊎_elim (λ (x : SecondFault f). longer file _ _ _ _ f (omega arith) (omega arith) (second_located f x))
      (λ (x : EndFault f). longer file _ _ _ _ f (omega arith) (omega arith) (end_located f x)) k

  -- where the faults behind the weights are
  rules_located : (f : Refusal) → RuleFault file n p f ⊎ (SecondFault f ⊎ EndFault f) → Located file p far f
  rules_located f k =
      let d = end_past file n p in
      let e = end_past file n (second_at file) in
      ⊎_elim (λ (x : RuleFault file n p f). longer file _ _ _ _ f (omega arith) (omega arith) (rule_located file n p f x))
      (λ (x : SecondFault f ⊎ EndFault f). longer file _ _ _ _ f (omega arith) (omega arith) (later_located f x)) k

  -- behind both rules
  end_sound : (x y : Rule) → Stands file n p x → Stands file n (rule_end n x) y → Sound Problem (read_end file n x y) EndFault (EndGood x y)
  end_sound x y g h =
      let e = ends_there file n p x g in
      let k = kind_known file n p x g in
      let m : Known file (second_at file) = subst (λ (z : ℕ). Known file z) e (kind_known file n (rule_end n x) y h) in
      let q : rule_end n y ≡ end_of file = ends_there file n (rule_end n x) y h ∙ ap (end_at file n) e in
      let w = ends_within file n (rule_end n x) y h in
      tested (ltb (rule_end n y) (length file)) (Length Offers (rule_end n y)) (Ok (record { n = n; first = x; second = y })) EndFault (EndGood x y)
      (λ b.
      let l = ltb-true (rule_end n y) (length file) b in (
        (k, m, omega arith, ap (λ (z : ℕ). Length Offers z) q),
        λ f d. inr (q ∙ sym (ap place d.3), omega (arith, ap number d.3)),
      ))
      (λ b z d. let l = ltb-true (rule_end n y) (length file) b in omega (arith, d.1))
      (λ b.
      let l = ltb-false (rule_end n y) (length file) b in
      record {
        ok_good = λ z d. (cc, omega arith);
        good_ok = λ z d. ap Ok (sym d.0);
        err_first = λ z d. absurd (let o : ◌≡◌ {A = ℕ} 0 1 = cc in omega arith);
        faultless = λ z d f c. omega (arith, c.2);
      })

  -- the second rule
  second_sound : (x : Rule) → Stands file n p x → Sound Rule (read_rule file n (rule_end n x)) SecondFault (Stands file n (rule_end n x))
  second_sound x g =
      let e = ends_there file n p x g in
      reworded (RuleFault file n (rule_end n x)) SecondFault (Stands file n (rule_end n x)) (Stands file n (rule_end n x))
      (λ f d. (kind_known file n p x g, subst (λ (z : ℕ). RuleFault file n z f) e d))
      (λ f d. subst (λ (z : ℕ). RuleFault file n z f) (sym e) d.1) (λ y d. d) (λ y d. d) (rule_sound file n (rule_end n x))

  -- what is behind the first rule, both rules, and all that follows the number of offers
  later_sound : (x : Rule) → Stands file n p x →
      Sound Problem (and_then (read_rule file n (rule_end n x)) (λ y. read_end file n x y)) (λ f. SecondFault f ⊎ EndFault f)
      (λ z. (y : Rule) × Stands file n (rule_end n x) y × EndGood x y z)
  later_sound x g =
      in_turn file (second_at file) (end_of file) far SecondFault EndFault (Stands file n (rule_end n x)) (EndGood x) second_located end_located
      (λ y. read_end file n x y) (λ y h. end_sound x y g h) (read_rule file n (rule_end n x)) (second_sound x g)

  -- reading both rules
  rules_sound :
      Sound Problem (and_then (read_rule file n p) (λ x. and_then (read_rule file n (rule_end n x)) (λ y. read_end file n x y)))
      (λ f. RuleFault file n p f ⊎ (SecondFault f ⊎ EndFault f))
      (λ z. (x : Rule) × Stands file n p x × ((y : Rule) × Stands file n (rule_end n x) y × EndGood x y z))
  rules_sound =
      in_turn file p (second_at file) far (RuleFault file n p) (λ f. SecondFault f ⊎ EndFault f) (Stands file n p)
      (λ x z. (y : Rule) × Stands file n (rule_end n x) y × EndGood x y z) (rule_located file n p) later_located
      (λ x. and_then (read_rule file n (rule_end n x)) (λ y. read_end file n x y)) later_sound (read_rule file n p) (rule_sound file n p)

  -- all that can be wrong behind the number of offers
  abbrev AllFault : Refusal → Type 0
  AllFault f = WeightsFault file n 2 f ⊎ (RuleFault file n p f ⊎ (SecondFault f ⊎ EndFault f))

  -- all behind the number of offers is good
  abbrev AllGood : Problem → Type 0
  AllGood z = (w : Unit {0}) × WeightsGood file n 2 w × ((x : Rule) × Stands file n p x × ((y : Rule) × Stands file n (rule_end n x) y × EndGood x y z))

  -- reading all that follows the number of offers
  all_sound :
      Sound Problem
      (and_then (read_weights file n 2) (λ _. and_then (read_rule file n p) (λ x. and_then (read_rule file n (rule_end n x)) (λ y. read_end file n x y))))
      AllFault AllGood
  all_sound =
      in_turn file 2 p far (WeightsFault file n 2) (λ f. RuleFault file n p f ⊎ (SecondFault f ⊎ EndFault f)) (WeightsGood file n 2)
      (λ w z. (x : Rule) × Stands file n p x × ((y : Rule) × Stands file n (rule_end n x) y × EndGood x y z))
      (weights_located file n 2) rules_located
      (λ _. and_then (read_rule file n p) (λ x. and_then (read_rule file n (rule_end n x)) (λ y. read_end file n x y))) (λ w g. rules_sound)
      (read_weights file n 2) (weights_sound file n 2 long)

  -- these are all faults of the file
  to_fault : (f : Refusal) → AllFault f → Fault file f
  to_fault f (inl (inl x)) = subst (Fault file) (sym x.0) (cut some few x.1)
  to_fault f (inl (inr x)) = subst (Fault file) (sym x.4) (heavy some few x.0 x.1 x.2 x.3)
  to_fault f (inr (inl x)) = first some few x
  to_fault f (inr (inr (inl x))) = second some few x.0 x.1
  to_fault f (inr (inr (inr x))) = subst (Fault file) (sym x.3) (too_long some few x.0 x.1 x.2)

  -- and there are no others
  from_fault : (f : Refusal) → Fault file f → AllFault f
  from_fault _ (no_number l) = absurd (omega arith)
  from_fault _ (wrong_number l (inl k)) = absurd (omega arith)
  from_fault _ (wrong_number l (inr k)) = absurd (omega arith)
  from_fault _ (cut a b l) = inl (inl (refl, l))
  from_fault _ (heavy a b i k l m) = inl (inr (i, k, l, m, refl))
  from_fault _ (first a b x) = inr (inl x)
  from_fault _ (second a b k x) = inr (inr (inl (k, x)))
  from_fault _ (too_long a b k m l) = inr (inr (inr (k, m, l, refl)))

  -- and this is what the file means
  to_means : (z : Problem) → AllGood z → Means file z
  to_means z g =
      let w = g.1 in
      let x = g.2.0 in
      let y = g.2.2.0 in
      let e = g.2.2.2.0 in
      subst (Means file) (sym e)
      (record {
        number = refl;
        some = some;
        few = few;
        light = w.1;
        first = g.2.1;
        second = g.2.2.1;
        whole = g.2.2.2.1;
      })

  -- and nothing else is asked for
  from_means : (z : Problem) → Means file z → AllGood z
  from_means z m =
      let e : z.n ≡ n = m.number in
      let one : Stands file n p z.first = subst (λ (k : ℕ). Stands file k (rules_at k) z.first) e m.first in
      let two : Stands file n (rule_end n z.first) z.second = subst (λ (k : ℕ). Stands file k (rule_end k z.first) z.second) e m.second in
      let l = (kind_known file n p z.first one).0 in (
        tt,
        (omega arith, λ i k. m.light i (omega arith)),
        (z.first, one, (z.second, two, (same e, sym (ap (λ (k : ℕ). rule_end k z.second) e) ∙ m.whole))),
      )
    where
      same : z.n ≡ n → z ≡ record { n = n; first = z.first; second = z.second }
      same e = let made : ℕ → Problem = λ k. record { n = k; first = z.first; second = z.second } in ap made e

-- a file of fewer than two bytes has one fault only
short_only : (file : List ℕ) → length file < 2 → (f : Refusal) → Fault file f → f ≡ Length Offers (length file)
short_only file s _ (no_number l) = refl
short_only file s _ (wrong_number l k) = absurd (omega arith)
short_only file s _ (cut a b l) = refl
short_only file s _ (heavy a b i k l m) = absurd (omega arith)
short_only file s f (first a b x) =
    ⊎_elim (λ (y : (f ≡ Length Offers (length file)) × (length file < end_at file (offers file) (rules_at (offers file)))). y.0)
    (λ (y : (rules_at (offers file) ≤ place f) × (place f < end_at file (offers file) (rules_at (offers file))) × (place f < length file)).
    absurd (omega (arith, y.0, y.2)))
    (rule_located file (offers file) (rules_at (offers file)) f x)
short_only file s f (second a b k x) = absurd (omega (arith, k.0))
short_only file s _ (too_long a b k m l) = absurd (omega (arith, k.0))

-- a file whose number of offers is wrong has one fault only
number_only : (file : List ℕ) → 2 ≤ length file → (offers file ≡ 0) ⊎ (600 < offers file) → (f : Refusal) → Fault file f → f ≡ refused.Offers
number_only file s w _ (no_number l) = absurd (omega arith)
number_only file s w _ (wrong_number l k) = refl
number_only file s w _ (cut a b l) = absurd (no_range (offers file) a b w)
number_only file s w _ (heavy a b i k l m) = absurd (no_range (offers file) a b w)
number_only file s w _ (first a b x) = absurd (no_range (offers file) a b w)
number_only file s w _ (second a b k x) = absurd (no_range (offers file) a b w)
number_only file s w _ (too_long a b k m l) = absurd (no_range (offers file) a b w)

-- the only fault is the first
only_first : (F : Refusal → Type 0) (e : Refusal) → F e → ((f : Refusal) → F f → f ≡ e) → First F e
only_first F e k h = (k, λ f d. let q = h f d in inr (sym (ap place q), omega (arith, ap number q)))

-- a whole file is read exactly if it means a problem, else its first fault is told
pub read_sound : (file : List ℕ) → Sound Problem (read file) (Fault file) (Means file)
read_sound file =
    tested (ltb (length file) 2) (Length Offers (length file)) _ _ _
    (λ b. let s = ltb-true (length file) 2 b in only_first (Fault file) _ (no_number s) (short_only file s))
    (λ b z m.
    let s = ltb-true (length file) 2 b in
    let l = (kind_known file z.n (rules_at z.n) z.first m.first).0 in
    omega arith)
    (λ b.
    let s = ltb-false (length file) 2 b in
    tested (eqb (offers file) 0 || ltb 600 (offers file)) refused.Offers _ _ _
    (λ c. let w = wrong file c in only_first (Fault file) _ (wrong_number s w) (number_only file s w))
    (λ c z m. let e = m.number in let a = m.some in let d = m.few in no_range (offers file) (omega arith) (omega arith) (wrong file c))
    (λ c.
    let r = or_parts (eqb (offers file) 0) (ltb 600 (offers file)) c in
    let a : 1 ≤ offers file = above_none (offers file) (eqb-false (offers file) 0 r.0) in
    let d = ltb-false 600 (offers file) r.1 in
    reworded (AllFault file s a d) (Fault file) (AllGood file s a d) (Means file) (to_fault file s a d) (from_fault file s a d) (to_means file s a d) (from_means file s a d)
    (all_sound file s a d)))
  where
    wrong : (file : List ℕ) → (eqb (offers file) 0 || ltb 600 (offers file)) ≡ true → (offers file ≡ 0) ⊎ (600 < offers file)
    wrong file c =
        ⊎_elim (λ (x : eqb (offers file) 0 ≡ true). inl (eqb-true (offers file) 0 x))
        (λ (x : ltb 600 (offers file) ≡ true). inr (ltb-true 600 (offers file) x))
        (or_cases (eqb (offers file) 0) (ltb 600 (offers file)) c)

-- the three laws of reading
pub reads_meaning : ReadsMeaning
reads_meaning file problem = ((read_sound file).ok_good problem, (read_sound file).good_ok problem)

-- a refusal is the first fault
pub refuses_first : RefusesFirst
refuses_first file e h = (read_sound file).err_first e h

-- a meaning leaves no fault
pub faultless : Faultless
faultless file problem e m k = (read_sound file).faultless problem m e k

-- an answer is what the file means, a refusal its first fault
pub read_cases : (file : List ℕ) (r : Result Problem Refusal) → r ≡ read file → MatchResult r (λ problem. Means file problem) (λ e. First (Fault file) e)
read_cases file (Ok problem) h = (read_sound file).ok_good problem (sym h)
read_cases file (Err e) h = (read_sound file).err_first e (sym h)

-- a rule that stands in a file is well formed, so both rules of a problem are
stands_well : (file : List ℕ) (n p : ℕ) (rule : Rule) → Stands file n p rule → Well file n rule
stands_well file n p (Limits groups at) g = g.4
stands_well file n p (Volunteers volunteers at) g = g.4
stands_well file n p (Links towns at) g = g.4
stands_well file n p (Rows prime long at) g = g.4

-- both rules of a problem are well formed
pub means_well : MeansWell
means_well file problem m = (stands_well file _ _ _ m.first, stands_well file _ _ _ m.second)
