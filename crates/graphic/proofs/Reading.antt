-- Reading a rule of links: what it answers, and that a refusal is the first of all faults.
use Rattle.std.proofs.Common.{◌≡◌, ℕ, zero, suc, ◌+◌, ◌-◌, ◌*◌, ◌/◌, ◌%◌, ◌<◌, ◌≤◌, Bool, true, false, cond, ltb, leb, ◌⊎◌, List, length, Ok, Err, Result, refl, inl, inr, ⊎_elim, arith}
use Rattle.std.proofs.lemmas.Bool.{ltb-true, ltb-false, leb-true, leb-false, le-ltb, lt-leb, cases_lt, cases_eq}
use Rattle.sets.specs.declared.refusal.Refusal.{Refusal}
use Rattle.sets.specs.declared.refusal.Refusal.TheVariants.{Length, Range, Town}
use Rattle.sets.specs.declared.refusal.Source.TheVariants.{Offers}
use Rattle.sets.specs.Bits.{le2}
use Rattle.sets.specs.Refusals.{First, Precedes, place}
use Rattle.graphic.specs.Links.{Well, read, read_towns, end, Fault, ReadsWell, RefusesFirst}
use Rattle.graphic.specs.Links.Fault.{short, many, missing}

-- a test that would refuse was passed on the way to an answer
passed : (b : Bool) (x : Refusal) (r : Result ℕ Refusal) (c : ℕ) → cond b (Err x) r ≡ Ok c → (b ≡ false) × (r ≡ Ok c)
passed true x r c h = absurd (let z : ◌≡◌ {A = ℕ} 0 1 = cc in omega arith)
passed false x r c h = (refl, h)

-- a refusal comes from a test, or from what follows it
stopped : (b : Bool) (x : Refusal) (r : Result ℕ Refusal) (e : Refusal) → cond b (Err x) r ≡ Err e →
    ((b ≡ true) × (e ≡ x)) ⊎ ((b ≡ false) × (r ≡ Err e))
stopped true x r e h = inl (refl, cc)
stopped false x r e h = inr (refl, h)

module _ (file : List ℕ) (towns : ℕ) where
  -- one town, and then the rest
  pub towns_step : (count j at : ℕ) → j < count →
      read_towns file towns (count - j) (at + 2 * j)
      ≡ cond (ltb (length file) (at + 2 * j + 2)) (Err (Length Offers (length file)))
      (cond (leb towns (le2 file (at + 2 * j))) (Err (Town (at + 2 * j)))
      (read_towns file towns (count - (j + 1)) (at + 2 * (j + 1))))
  towns_step count j at l =
      let e : count - j ≡ suc (count - (j + 1)) = omega arith in
      let q : at + 2 * (j + 1) ≡ at + 2 * j + 2 = omega arith in
      rw (e, q)

  -- towns that were read are there, and each is one of them
  towns_ok : (left at c : ℕ) → at ≤ length file → read_towns file towns left at ≡ Ok c →
      (c ≡ towns) × (at + 2 * left ≤ length file) × ((j : ℕ) → j < left → le2 file (at + 2 * j) < towns)
  towns_ok zero at c l h = (cc, omega arith, λ j k. absurd (omega arith))
  towns_ok (suc left) at c l h =
      let a = passed (ltb (length file) (at + 2)) (Length Offers (length file)) _ c h in
      let there : at + 2 ≤ length file = ltb-false (length file) (at + 2) a.0 in
      let b = passed (leb towns (le2 file at)) (Town at) (read_towns file towns left (at + 2)) c a.1 in
      let one : le2 file at < towns = leb-false towns (le2 file at) b.0 in
      let r = towns_ok left (at + 2) c there b.1 in
      (r.0, let k = r.1 in omega arith, first one r.2)
    where
      first : le2 file at < towns → ((j : ℕ) → j < left → le2 file (at + 2 + 2 * j) < towns) →
          (j : ℕ) → j < suc left → le2 file (at + 2 * j) < towns
      first one rest zero k = let e : at + 2 * 0 ≡ at = omega arith in rw e one
      first one rest (suc j) k = let e : at + 2 * suc j ≡ at + 2 + 2 * j = omega arith in rw e (rest j (omega arith))

  -- towns that are there and exist are read
  towns_well : (left at : ℕ) → at + 2 * left ≤ length file → ((j : ℕ) → j < left → le2 file (at + 2 * j) < towns) →
      read_towns file towns left at ≡ Ok towns
  towns_well zero at l h = refl
  towns_well (suc left) at l h =
      let e : at + 2 * 0 ≡ at = omega arith in
      let a : ltb (length file) (at + 2) ≡ false = le-ltb (length file) (at + 2) (omega arith) in
      let one : le2 file at < towns = rw e at (h 0 (omega arith)) in
      let b : leb towns (le2 file at) ≡ false = lt-leb towns (le2 file at) one in
      rw (a, b) (towns_well left (at + 2) (omega arith)
      (λ j k. let q : at + 2 * suc j ≡ at + 2 + 2 * j = omega arith in rw q at (h (suc j) (omega arith))))

  -- what a refusal of towns says: the file ends too early and all towns in it exist, or the first that does not exist
  abbrev Stop : ℕ → ℕ → Refusal → Type 0
  Stop left at e =
      ((e ≡ Length Offers (length file)) × (length file < at + 2 * left)
      × ((j : ℕ) → j < left → at + 2 * j + 2 ≤ length file → le2 file (at + 2 * j) < towns))
      ⊎ ((k : ℕ) × (k < left) × (at + 2 * k + 2 ≤ length file) × (towns ≤ le2 file (at + 2 * k)) × (e ≡ Town (at + 2 * k))
      × ((j : ℕ) → j < k → le2 file (at + 2 * j) < towns))

  -- one more town in front
  more : (left at : ℕ) (e : Refusal) → le2 file at < towns → Stop left (at + 2) e → Stop (suc left) at e
  more left at e one w =
      ⊎_elim (λ d. inl (d.0, omega (arith, d.1), early d.2))
      (λ d. inr (
        suc d.0,
        omega (arith, d.1),
        omega (arith, d.2),
        (let q : at + 2 * suc d.0 ≡ at + 2 + 2 * d.0 = omega arith in rw q d.3),
        (let q : at + 2 * suc d.0 ≡ at + 2 + 2 * d.0 = omega arith in rw q d.4),
        late d.0 d.5,
      )) w
    where
      early : ((j : ℕ) → j < left → at + 2 + 2 * j + 2 ≤ length file → le2 file (at + 2 + 2 * j) < towns) →
          (j : ℕ) → j < suc left → at + 2 * j + 2 ≤ length file → le2 file (at + 2 * j) < towns
      early rest zero k l = let q : at + 2 * 0 ≡ at = omega arith in rw q one
      early rest (suc j) k l = let q : at + 2 * suc j ≡ at + 2 + 2 * j = omega arith in rw q (rest j (omega arith) (omega arith))

      late : (k : ℕ) → ((j : ℕ) → j < k → le2 file (at + 2 + 2 * j) < towns) → (j : ℕ) → j < suc k → le2 file (at + 2 * j) < towns
      late k rest zero l = let q : at + 2 * 0 ≡ at = omega arith in rw q one
      late k rest (suc j) l = let q : at + 2 * suc j ≡ at + 2 + 2 * j = omega arith in rw q (rest j (omega arith))

  -- a refusal of towns is one of the two
  towns_stop : (left at : ℕ) (e : Refusal) → read_towns file towns left at ≡ Err e → Stop left at e
  towns_stop zero at e h = absurd (let z : ◌≡◌ {A = ℕ} 0 1 = cc in omega arith)
  towns_stop (suc left) at e h =
      ⊎_elim (λ d. let l : length file < at + 2 = ltb-true (length file) (at + 2) d.0 in inl (d.1, omega arith, λ j k m. absurd (omega arith)))
      (λ d. ⊎_elim
      (λ f. let l : at + 2 ≤ length file = ltb-false (length file) (at + 2) d.0 in
      let q : at + 2 * 0 ≡ at = omega arith in
      inr (0, omega arith, omega arith, rw q (leb-true towns (le2 file at) f.0), rw q f.1, λ j k. absurd (omega arith)))
      (λ f. more left at e (leb-false towns (le2 file at) f.0) (towns_stop left (at + 2) e f.1))
      (stopped (leb towns (le2 file at)) (Town at) (read_towns file towns left (at + 2)) e d.1))
      (stopped (ltb (length file) (at + 2)) (Length Offers (length file)) _ e h)

module _ (file : List ℕ) (n p : ℕ) where
  -- a rule that was read stands in the file as it should
  pub ok_well : (towns : ℕ) → read file n p ≡ Ok towns → (p + 2 ≤ length file) × (towns ≡ le2 file p) × Well file n towns (p + 2)
  ok_well towns h =
      let a = passed (ltb (length file) (p + 2)) (Length Offers (length file)) _ towns h in
      let there : p + 2 ≤ length file = ltb-false (length file) (p + 2) a.0 in
      let b = passed (ltb 600 (le2 file p)) (Range Offers p) _ towns a.1 in
      let few : le2 file p ≤ 600 = ltb-false 600 (le2 file p) b.0 in
      let r = towns_ok file (le2 file p) (2 * n) (p + 2) towns there b.1 in
      made towns there few r.0 r.1 r.2
    where
      made : (towns : ℕ) → p + 2 ≤ length file → le2 file p ≤ 600 → towns ≡ le2 file p → p + 2 + 2 * (2 * n) ≤ length file →
          ((j : ℕ) → j < 2 * n → le2 file (p + 2 + 2 * j) < le2 file p) →
          (p + 2 ≤ length file) × (towns ≡ le2 file p) × Well file n towns (p + 2)
      made towns there few e all each = (
        there,
        e,
        record {
          few = omega arith;
          present = omega arith;
          from_real = λ i l. let q : p + 2 + 2 * (2 * i) ≡ p + 2 + 4 * i = omega arith in
              rw e (rw q at (each (2 * i) (omega arith)));
          to_real = λ i l. let q : p + 2 + 2 * (2 * i + 1) ≡ p + 2 + 4 * i + 2 = omega arith in
              rw e (rw q at (each (2 * i + 1) (omega arith)));
        },
      )

  -- the towns of the links one after the other
  each_town : (towns : ℕ) → Well file n towns (p + 2) → (j : ℕ) → j < 2 * n → le2 file (p + 2 + 2 * j) < towns
  each_town towns w j l =
      ⊎_elim
      (λ e. let q : p + 2 + 4 * (j / 2) ≡ p + 2 + 2 * j = omega arith in rw q at (w.from_real (j / 2) (omega arith)))
      (λ e. let q : p + 2 + 4 * (j / 2) + 2 ≡ p + 2 + 2 * j = omega arith in rw q at (w.to_real (j / 2) (omega arith)))
      (parity j)
    where
      parity : (j : ℕ) → (j % 2 ≡ 0) ⊎ (j % 2 ≡ 1)
      parity j = ⊎_elim (λ e. inl e) (λ ne. inr (omega arith)) (cases_eq (j % 2) 0)

  -- a rule that stands in the file as it should is read
  pub well_ok : p + 2 ≤ length file → Well file n (le2 file p) (p + 2) → read file n p ≡ Ok (le2 file p)
  well_ok l w =
      let a : ltb (length file) (p + 2) ≡ false = le-ltb (length file) (p + 2) l in
      let b : ltb 600 (le2 file p) ≡ false = le-ltb 600 (le2 file p) w.few in
      rw (a, b) (towns_well file (le2 file p) (2 * n) (p + 2) (let k = w.present in omega arith) (each_town (le2 file p) w))

  -- a refusal is the first of all faults
  pub err_first : (e : Refusal) → read file n p ≡ Err e → First (Fault file n p) e
  err_first e h =
      ⊎_elim (λ d. let l : length file < p + 2 = ltb-true (length file) (p + 2) d.0 in
      rw d.1 (short (omega arith), λ f k. header l f k))
      (λ d. ⊎_elim
      (λ f. let l : p + 2 ≤ length file = ltb-false (length file) (p + 2) d.0 in
      let m : 600 < le2 file p = ltb-true 600 (le2 file p) f.0 in
      rw f.1 (many l m, λ g k. count l m g k))
      (λ f. let l : p + 2 ≤ length file = ltb-false (length file) (p + 2) d.0 in
      let m : le2 file p ≤ 600 = ltb-false 600 (le2 file p) f.0 in
      ⊎_elim
      (λ g. rw g.0 (short (early_end g.1), λ q k. early m g.2 q k))
      (λ g. rw g.4 (missing g.0 g.1 g.2 g.3, λ q k. town g.0 m g.2 g.5 q k))
      (towns_stop file (le2 file p) (2 * n) (p + 2) e f.1))
      (stopped (ltb 600 (le2 file p)) (Range Offers p) _ e d.1))
      (stopped (ltb (length file) (p + 2)) (Length Offers (length file)) _ e h)
    where
      early_end : length file < p + 2 + 2 * (2 * n) → length file < end file n p
      early_end k = omega arith

      header : length file < p + 2 → (f : Refusal) → Fault file n p f → Precedes (Length Offers (length file)) f
      header l _ (short k) = inr (refl, omega arith)
      header l _ (many k m) = absurd (omega arith)
      header l _ (missing j k m o) = absurd (omega arith)

      count : p + 2 ≤ length file → 600 < le2 file p → (f : Refusal) → Fault file n p f → Precedes (Range Offers p) f
      count l m _ (short k) = inl (omega arith)
      count l m _ (many k o) = inr (refl, omega arith)
      count l m _ (missing j k o q) = inl (omega arith)

      early : le2 file p ≤ 600 →
          ((j : ℕ) → j < 2 * n → p + 2 + 2 * j + 2 ≤ length file → le2 file (p + 2 + 2 * j) < le2 file p) →
          (f : Refusal) → Fault file n p f → Precedes (Length Offers (length file)) f
      early m each _ (short k) = inr (refl, omega arith)
      early m each _ (many k o) = absurd (omega arith)
      early m each _ (missing j k o q) = absurd (let b = each j k o in omega arith)

      town : (i : ℕ) → le2 file p ≤ 600 → p + 2 + 2 * i + 2 ≤ length file →
          ((j : ℕ) → j < i → le2 file (p + 2 + 2 * j) < le2 file p) →
          (f : Refusal) → Fault file n p f → Precedes (Town (p + 2 + 2 * i)) f
      town i m there each _ (short k) = inl (omega arith)
      town i m there each _ (many k o) = absurd (omega arith)
      town i m there each _ (missing j k o q) =
          ⊎_elim (λ l. absurd (let b = each j l in omega arith))
          (λ l. ⊎_elim (λ e. inr (omega arith, omega arith)) (λ ne. inl (omega arith)) (cases_eq i j)) (cases_lt j i)

  -- a rule that stands in the file as it should has no fault
  pub well_faultless : (f : Refusal) → p + 2 ≤ length file → Well file n (le2 file p) (p + 2) → Fault file n p f → ⊥
  well_faultless _ l w (short k) = let b = w.present in omega arith
  well_faultless _ l w (many k m) = let b = w.few in omega arith
  well_faultless _ l w (missing j k m o) = let b = each_town (le2 file p) w j k in omega arith

  -- where faults are: at the end of a file that is too short, or within the rule
  pub fault_place : (f : Refusal) → Fault file n p f →
      ((f ≡ Length Offers (length file)) × (length file < end file n p))
      ⊎ ((p ≤ place f) × (place f < end file n p) × (place f < length file))
  fault_place _ (short k) = inl (refl, k)
  fault_place _ (many k m) = inr (omega arith, omega arith, omega arith)
  fault_place _ (missing j k m o) = inr (omega arith, omega arith, omega arith)

-- a rule is read exactly if it stands in the file as it should
pub reads_well : ReadsWell
reads_well file n p towns =
    ((λ h. ok_well file n p towns h), (λ h. rw h.1 (well_ok file n p h.0 (rw h.1 at h.2))))

-- a refusal is the first of all faults
pub refuses_first : RefusesFirst
refuses_first file n p e h = err_first file n p e h
