-- Reading one rule, of whichever kind.
use Rattle.std.proofs.Common.{◌≡◌, ℕ, ◌+◌, ◌<◌, ◌≤◌, eqb, leb, ◌⊎◌, List, length, get_or, Ok, Err, Result, sym, refl, ap, ◌∙◌, inl, inr, arith}
use Rattle.std.proofs.lemmas.Bool.{leb-true, leb-false, eqb-true, eqb-false}
use Rattle.sets.specs.Refusals.{First, Precedes}
use Rattle.sets.specs.declared.refusal.Refusal.{Refusal}
use Rattle.sets.specs.declared.refusal.Refusal.TheVariants.{Length, Kind}
use Rattle.sets.specs.declared.refusal.Source.TheVariants.{Offers}
use Rattle.matroid.specs.declared.rule.Rule.{Rule}
use Rattle.matroid.specs.declared.rule.Rule.TheVariants.{Limits, Volunteers, Links, Rows}
use Rattle.matroid.specs.Problem.{Stands}
use Rattle.matroid.specs.Reading.{and_then, read_rule, RuleFault}
use Rattle.matroid.specs.Reading.RuleFault.{no_kind, unknown, limits, volunteers, links, rows}
use Rattle.matroid.proofs.Stages.{Sound, tested, either_way, no_answer}
use Rattle.matroid.proofs.KindLaws.{LimitsGood, limits_sound, VolunteersGood, volunteers_sound, LinksGood, links_sound, RowsGood, rows_sound}
use Rattle.laminar.specs.Reading as laminar
use Rattle.transversal.specs.Reading as transversal
use Rattle.graphic.specs.Links as graphic
use Rattle.linear.specs.Reading as linear
use Rattle.linear.specs.declared.Shape.{Shape}

-- a kind's own reading, put into the enum of rules: `good` says which answer stands in the file
module _ {C : Type 0} (file : List ℕ) (n p kind : ℕ) (here : p < length file) (is : get_or file p 0 ≡ kind)
    (r : Result C Refusal) (F : Refusal → Type 0) (G : C → Type 0) (rule : C → Rule)
    (s : Sound C r F G) (stands : (c : C) → G c → Stands file n p (rule c))
    (back : (x : Rule) → Stands file n p x → (c : C) × G c × (x ≡ rule c))
    (to : (f : Refusal) → F f → RuleFault file n p f) (from : (f : Refusal) → RuleFault file n p f → F f) where
  -- then the rule is read as its kind is
  pub of_kind : Sound Rule (and_then r (λ c. Ok (rule c))) (RuleFault file n p) (Stands file n p)
  of_kind = go r s
    where
      go : (q : Result C Refusal) → Sound C q F G → Sound Rule (and_then q (λ c. Ok (rule c))) (RuleFault file n p) (Stands file n p)
      go (Ok c) t =
          record {
            ok_good = λ x h. let e : x ≡ rule c = cc in rw e (stands c (t.ok_good c refl));
            good_ok = λ x g.
                let b = back x g in
                let e = t.good_ok b.0 b.1 in
                let f : b.0 ≡ c = cc in
                ap Ok (sym (ap rule f) ∙ sym b.2);
            err_first = λ e h. absurd (let z : ◌≡◌ {A = ℕ} 0 1 = cc in omega arith);
            faultless = λ x g f k. t.faultless c (t.ok_good c refl) f (from f k);
          }
      go (Err d) t =
          record {
            ok_good = λ x h. absurd (no_answer d x h);
            good_ok = λ x g. let b = back x g in absurd (no_answer d b.0 (t.good_ok b.0 b.1));
            err_first = λ e h.
                let q : e ≡ d = cc in
                let u = t.err_first d refl in
                rw q (to d u.0, λ f k. u.1 f (from f k));
            faultless = λ x g f k. let b = back x g in no_answer d b.0 (t.good_ok b.0 b.1);
          }

-- what the byte at p says decides which faults a rule there can have
by_kind : (file : List ℕ) (n p : ℕ) (f : Refusal) → p < length file → RuleFault file n p f →
    (get_or file p 0 ≡ 1 → laminar.Fault file n (p + 1) f) × (get_or file p 0 ≡ 2 → transversal.Fault file n (p + 1) f)
    × (get_or file p 0 ≡ 3 → graphic.Fault file n (p + 1) f) × (get_or file p 0 ≡ 4 → linear.Fault file n (p + 1) f)
by_kind file n p _ l (no_kind h) = absurd (omega arith)
by_kind file n p _ l (unknown h (inl i)) = (λ k. absurd (omega arith), λ k. absurd (omega arith), λ k. absurd (omega arith), λ k. absurd (omega arith))
by_kind file n p _ l (unknown h (inr i)) = (λ k. absurd (omega arith), λ k. absurd (omega arith), λ k. absurd (omega arith), λ k. absurd (omega arith))
by_kind file n p _ l (limits h i w) = (λ k. w, λ k. absurd (omega arith), λ k. absurd (omega arith), λ k. absurd (omega arith))
by_kind file n p _ l (volunteers h i w) = (λ k. absurd (omega arith), λ k. w, λ k. absurd (omega arith), λ k. absurd (omega arith))
by_kind file n p _ l (links h i w) = (λ k. absurd (omega arith), λ k. absurd (omega arith), λ k. w, λ k. absurd (omega arith))
by_kind file n p _ l (rows h i w) = (λ k. absurd (omega arith), λ k. absurd (omega arith), λ k. absurd (omega arith), λ k. w)

-- a byte that is none of the four kinds
no_other : (k : ℕ) → (k ≡ 1 → ⊥) → (k ≡ 2 → ⊥) → (k ≡ 3 → ⊥) → (k ≡ 4 → ⊥) → (k ≡ 0) ⊎ (4 < k)
no_other k a b c d = grind arith

-- a rule whose kind is unknown
unknown_sound : (file : List ℕ) (n p : ℕ) → p < length file → (get_or file p 0 ≡ 0) ⊎ (4 < get_or file p 0) →
    Sound Rule (Err (Kind p)) (RuleFault file n p) (Stands file n p)
unknown_sound file n p l u =
    record {
      ok_good = λ x h. absurd (no_answer (Kind p) x h);
      good_ok = λ x g. absurd (no_rule x g u);
      err_first = λ e h. let q : e ≡ Kind p = cc in rw q (unknown l u, λ f k. only f k u);
      faultless = λ x g f k. no_rule x g u;
    }
  where
    no_rule : (x : Rule) → Stands file n p x → (get_or file p 0 ≡ 0) ⊎ (4 < get_or file p 0) → ⊥
    no_rule (Limits c at) g (inl i) = omega (arith, g.1)
    no_rule (Limits c at) g (inr i) = omega (arith, g.1)
    no_rule (Volunteers c at) g (inl i) = omega (arith, g.1)
    no_rule (Volunteers c at) g (inr i) = omega (arith, g.1)
    no_rule (Links c at) g (inl i) = omega (arith, g.1)
    no_rule (Links c at) g (inr i) = omega (arith, g.1)
    no_rule (Rows c d at) g (inl i) = omega (arith, g.1)
    no_rule (Rows c d at) g (inr i) = omega (arith, g.1)

    only : (f : Refusal) → RuleFault file n p f → (get_or file p 0 ≡ 0) ⊎ (4 < get_or file p 0) → Precedes (Kind p) f
    only _ (no_kind h) v = absurd (omega arith)
    only _ (unknown h i) v = inr (refl, omega arith)
    only _ (limits h i w) (inl v) = absurd (omega arith)
    only _ (limits h i w) (inr v) = absurd (omega arith)
    only _ (volunteers h i w) (inl v) = absurd (omega arith)
    only _ (volunteers h i w) (inr v) = absurd (omega arith)
    only _ (links h i w) (inl v) = absurd (omega arith)
    only _ (links h i w) (inr v) = absurd (omega arith)
    only _ (rows h i w) (inl v) = absurd (omega arith)
    only _ (rows h i w) (inr v) = absurd (omega arith)

-- a rule that is not there
missing_first : (file : List ℕ) (n p : ℕ) → length file ≤ p → First (RuleFault file n p) (Length Offers (length file))
missing_first file n p l = (no_kind l, λ f k. only f k)
  where
    only : (f : Refusal) → RuleFault file n p f → Precedes (Length Offers (length file)) f
    only _ (no_kind h) = inr (refl, omega arith)
    only _ (unknown h i) = absurd (omega arith)
    only _ (limits h i w) = absurd (omega arith)
    only _ (volunteers h i w) = absurd (omega arith)
    only _ (links h i w) = absurd (omega arith)
    only _ (rows h i w) = absurd (omega arith)

-- a rule that stands at p is there
there : (file : List ℕ) (n p : ℕ) (x : Rule) → Stands file n p x → p < length file
there file n p (Limits c at) g = omega (arith, g.0)
there file n p (Volunteers c at) g = omega (arith, g.0)
there file n p (Links c at) g = omega (arith, g.0)
there file n p (Rows c d at) g = omega (arith, g.0)

-- the four kinds
limits_rule : (file : List ℕ) (n p : ℕ) → p < length file → get_or file p 0 ≡ 1 →
    Sound Rule (and_then (laminar.read file n (p + 1)) (λ c. Ok (Limits c (p + 2)))) (RuleFault file n p) (Stands file n p)
limits_rule file n p l k =
    of_kind file n p 1 l k (laminar.read file n (p + 1)) (laminar.Fault file n (p + 1)) (LimitsGood file n (p + 1)) (λ c. Limits c (p + 2))
    (limits_sound file n (p + 1)) stands back (λ f w. limits l k w) (λ f w. (by_kind file n p f l w).0 k)
  where
    stands : (c : ℕ) → LimitsGood file n (p + 1) c → Stands file n p (Limits c (p + 2))
    stands c g = let q : p + 1 + 1 ≡ p + 2 = omega arith in (omega (arith, g.0), k, g.1, refl, rw q at g.2)

    back : (x : Rule) → Stands file n p x → (c : ℕ) × LimitsGood file n (p + 1) c × (x ≡ Limits c (p + 2))
    back (Limits c at) g = let q : p + 1 + 1 ≡ at = omega (arith, g.3) in (c, (omega (arith, g.0), g.2, rw q g.4), ap (Limits c) g.3)
    back (Volunteers c at) g = absurd (omega (arith, g.1))
    back (Links c at) g = absurd (omega (arith, g.1))
    back (Rows c d at) g = absurd (omega (arith, g.1))

-- volunteers
volunteers_rule : (file : List ℕ) (n p : ℕ) → p < length file → get_or file p 0 ≡ 2 →
    Sound Rule (and_then (transversal.read file n (p + 1)) (λ c. Ok (Volunteers c (p + 3)))) (RuleFault file n p) (Stands file n p)
volunteers_rule file n p l k =
    of_kind file n p 2 l k (transversal.read file n (p + 1)) (transversal.Fault file n (p + 1)) (VolunteersGood file n (p + 1)) (λ c. Volunteers c (p + 3))
    (volunteers_sound file n (p + 1)) stands back (λ f w. volunteers l k w) (λ f w. (by_kind file n p f l w).1 k)
  where
    stands : (c : ℕ) → VolunteersGood file n (p + 1) c → Stands file n p (Volunteers c (p + 3))
    stands c g = let q : p + 1 + 2 ≡ p + 3 = omega arith in (omega (arith, g.0), k, g.1, refl, rw q at g.2)

    back : (x : Rule) → Stands file n p x → (c : ℕ) × VolunteersGood file n (p + 1) c × (x ≡ Volunteers c (p + 3))
    back (Volunteers c at) g = let q : p + 1 + 2 ≡ at = omega (arith, g.3) in (c, (omega (arith, g.0), g.2, rw q g.4), ap (Volunteers c) g.3)
    back (Limits c at) g = absurd (omega (arith, g.1))
    back (Links c at) g = absurd (omega (arith, g.1))
    back (Rows c d at) g = absurd (omega (arith, g.1))

-- links
links_rule : (file : List ℕ) (n p : ℕ) → p < length file → get_or file p 0 ≡ 3 →
    Sound Rule (and_then (graphic.read file n (p + 1)) (λ c. Ok (Links c (p + 3)))) (RuleFault file n p) (Stands file n p)
links_rule file n p l k =
    of_kind file n p 3 l k (graphic.read file n (p + 1)) (graphic.Fault file n (p + 1)) (LinksGood file n (p + 1)) (λ c. Links c (p + 3))
    (links_sound file n (p + 1)) stands back (λ f w. links l k w) (λ f w. (by_kind file n p f l w).2 k)
  where
    stands : (c : ℕ) → LinksGood file n (p + 1) c → Stands file n p (Links c (p + 3))
    stands c g = let q : p + 1 + 2 ≡ p + 3 = omega arith in (omega (arith, g.0), k, g.1, refl, rw q at g.2)

    back : (x : Rule) → Stands file n p x → (c : ℕ) × LinksGood file n (p + 1) c × (x ≡ Links c (p + 3))
    back (Links c at) g = let q : p + 1 + 2 ≡ at = omega (arith, g.3) in (c, (omega (arith, g.0), g.2, rw q g.4), ap (Links c) g.3)
    back (Limits c at) g = absurd (omega (arith, g.1))
    back (Volunteers c at) g = absurd (omega (arith, g.1))
    back (Rows c d at) g = absurd (omega (arith, g.1))

-- rows
rows_rule : (file : List ℕ) (n p : ℕ) → p < length file → get_or file p 0 ≡ 4 →
    Sound Rule (and_then (linear.read file n (p + 1)) (λ c. Ok (Rows c.prime c.len (p + 3)))) (RuleFault file n p) (Stands file n p)
rows_rule file n p l k =
    of_kind file n p 4 l k (linear.read file n (p + 1)) (linear.Fault file n (p + 1)) (RowsGood file n (p + 1)) (λ c. Rows c.prime c.len (p + 3))
    (rows_sound file n (p + 1)) stands back (λ f w. rows l k w) (λ f w. (by_kind file n p f l w).3 k)
  where
    stands : (c : Shape) → RowsGood file n (p + 1) c → Stands file n p (Rows c.prime c.len (p + 3))
    stands c g =
        let q : p + 1 + 2 ≡ p + 3 = omega arith in
        let r : p + 1 + 1 ≡ p + 2 = omega arith in (
          omega (arith, g.0),
          k,
          (ap (λ (x : Shape). x.prime) g.1, ap (λ (x : Shape). x.len) g.1 ∙ ap (λ (x : ℕ). get_or file x 0) r),
          refl,
          rw q at g.2,
        )

    same : (c d : ℕ) → c ≡ get_or file (p + 1) 0 → d ≡ get_or file (p + 2) 0 → ◌≡◌ {A = Shape} (record { prime = c; len = d }) (linear.shape_at file (p + 1))
    same c d e f = let r : p + 1 + 1 ≡ p + 2 = omega arith in rw (e, f, r) refl

    back : (x : Rule) → Stands file n p x → (c : Shape) × RowsGood file n (p + 1) c × (x ≡ Rows c.prime c.len (p + 3))
    back (Rows c d at) g =
        let q : p + 1 + 2 ≡ at = omega (arith, g.3) in
        (record { prime = c; len = d }, (omega (arith, g.0), same c d g.2.0 g.2.1, rw q g.4), ap (Rows c d) g.3)
    back (Limits c at) g = absurd (omega (arith, g.1))
    back (Volunteers c at) g = absurd (omega (arith, g.1))
    back (Links c at) g = absurd (omega (arith, g.1))

-- a rule of any kind is read exactly if it stands in the file, else its first fault is told
pub rule_sound : (file : List ℕ) (n p : ℕ) → Sound Rule (read_rule file n p) (RuleFault file n p) (Stands file n p)
rule_sound file n p =
    tested (leb (length file) p) (Length Offers (length file)) _ _ _ (λ b. missing_first file n p (leb-true (length file) p b))
    (λ b x g. let l = leb-true (length file) p b in let t = there file n p x g in omega arith)
    (λ b.
    let l = leb-false (length file) p b in
    let k = get_or file p 0 in
    either_way (eqb k 1) _ _ _ _ (λ i. limits_rule file n p l (eqb-true k 1 i)) (λ i.
    either_way (eqb k 2) _ _ _ _ (λ j. volunteers_rule file n p l (eqb-true k 2 j)) (λ j.
    either_way (eqb k 3) _ _ _ _ (λ m. links_rule file n p l (eqb-true k 3 m)) (λ m.
    either_way (eqb k 4) _ _ _ _ (λ o. rows_rule file n p l (eqb-true k 4 o)) (λ o.
    unknown_sound file n p l (no_other k (eqb-false k 1 i) (eqb-false k 2 j) (eqb-false k 3 m) (eqb-false k 4 o)))))))
