-- Reading a rule of volunteers: what it answers, and that a refusal is the first of all faults.
use Rattle.std.proofs.Common.{◌≡◌, ℕ, zero, suc, ◌+◌, ◌-◌, ◌*◌, ◌<◌, ◌≤◌, Bool, true, false, ◌||◌, cond, ltb, ◌⊎◌, List, length, Ok, Err, Result, sym, refl, ap, ◌∙◌, inl, inr, ⊎_elim, arith}
use Rattle.std.proofs.lemmas.Nat.{mul-le}
use Rattle.std.proofs.lemmas.Bool.{ltb-true, ltb-false, le-ltb, cases_order, cases_Bool}
use Rattle.sets.specs.declared.refusal.Refusal.{Refusal}
use Rattle.sets.specs.declared.refusal.Refusal.TheVariants.{Length, Range}
use Rattle.sets.specs.declared.refusal.Source.TheVariants.{Offers}
use Rattle.std.specs.List.{list_any, range_with_len}
use Rattle.sets.specs.Bits.{row, row_bytes}
use Rattle.sets.specs.Matroid.{Set}
use Rattle.sets.specs.Refusals.{First, Precedes, place}
use Rattle.transversal.specs.Volunteers.{can_tend, some, Well}
use Rattle.transversal.specs.Reading.{count, end, Fault, short, many, stray_bit, stray, read_rows, read, ReadsWell, RefusesFirst}
use Rattle.transversal.proofs.Matchings.{last, some_last, some_from}
use Rattle.transversal.proofs.RowFacts.{some_same}

-- a test that would refuse was passed on the way to an answer
passed : (b : Bool) (x : Refusal) (r : Result ℕ Refusal) (c : ℕ) → cond b (Err x) r ≡ Ok c → (b ≡ false) × (r ≡ Ok c)
passed true x r c h = absurd (let z : ◌≡◌ {A = ℕ} 0 1 = cc in omega arith)
passed false x r c h = (refl, h)

-- a refusal comes from a test, or from what follows it
stopped : (b : Bool) (x : Refusal) (r : Result ℕ Refusal) (e : Refusal) → cond b (Err x) r ≡ Err e →
    ((b ≡ true) × (e ≡ x)) ⊎ ((b ≡ false) × (r ≡ Err e))
stopped true x r e h = inl (refl, cc)
stopped false x r e h = inr (refl, h)

-- tests of numbers in a row, from the first on
some_first : (m : ℕ) (p : Set) → some (suc m) p ≡ (p 0 || some m (λ k. p (suc k)))
some_first zero p = refl
some_first (suc m) p =
    let r : some (suc m) p ≡ (p 0 || some m (λ k. p (suc k))) = some_first m p in
    grind arith

pub any_is_some : (p : Set) (a m : ℕ) → list_any p (range_with_len a m) ≡ some m (λ k. p (a + k))
any_is_some p a zero = refl
any_is_some p a (suc m) =
    let r : list_any p (range_with_len (a + 1) m) ≡ some m (λ k. p (a + 1 + k)) = any_is_some p (a + 1) m in
    let q : some m (λ k. p (a + 1 + k)) ≡ some m (λ k. p (a + suc k)) = some_same m _ _ (λ k h. ap p (omega arith)) in
    let z : p a ≡ p (a + 0) = ap p (omega arith) in
    (ap (λ b. p a || b) (r ∙ q) ∙ ap (λ b. b || some m (λ k. p (a + suc k))) z) ∙ sym (some_first m (λ k. p (a + k)))

module _ (file : List ℕ) (n : ℕ) where
  -- a bit from n on is a stray bit
  pub stray_from : (at i : ℕ) → n ≤ i → i < 8 * row_bytes n → row file at i ≡ true → stray file n at ≡ true
  stray_from at i h l d =
      let q : n + (i - n) ≡ i = omega arith in
      some_from (8 * row_bytes n - n) (λ k. row file at (n + k)) (i - n) (omega arith) (ap (λ j. row file at j) q ∙ d)

  -- a row with no stray bit, and one with a stray bit
  pub clean_row : (at i : ℕ) → stray file n at ≡ false → n ≤ i → i < 8 * row_bytes n → row file at i ≡ false
  clean_row at i e h l = ⊎_elim
      (λ d. absurd (let s : stray file n at ≡ true = stray_from at i h l d in grind arith))
      (λ d. d) (cases_Bool (row file at i))

  pub dirty_row : (at : ℕ) → stray file n at ≡ true → (i : ℕ) × (n ≤ i) × (i < 8 * row_bytes n) × (row file at i ≡ true)
  dirty_row at e =
      let r = some_last (8 * row_bytes n - n) (λ k. row file at (n + k)) e in
      let l : last (8 * row_bytes n - n) (λ k. row file at (n + k)) < 8 * row_bytes n - n = r.0 in
      (n + last (8 * row_bytes n - n) (λ k. row file at (n + k)), omega arith, omega arith, r.1)

  -- a row with no bit from n on
  pub clean_rows : (at : ℕ) → ((j : ℕ) → n ≤ j → j < 8 * row_bytes n → row file at j ≡ false) → stray file n at ≡ false
  clean_rows at h = ⊎_elim
      (λ d. absurd (let r = dirty_row at d in let q : row file at r.0 ≡ false = h r.0 r.1 r.2 in let s : row file at r.0 ≡ true = r.3 in grind arith))
      (λ d. d) (cases_Bool (stray file n at))

  -- one row, and then the rest
  pub rows_step : (volunteers v at : ℕ) → v < volunteers →
      read_rows file n volunteers (volunteers - v) at
      ≡ cond (ltb (length file) (at + row_bytes n)) (Err (Length Offers (length file)))
      (cond (stray file n at) (Err (Range Offers (at + row_bytes n - 1))) (read_rows file n volunteers (volunteers - (v + 1)) (at + row_bytes n)))
  rows_step volunteers v at l = let e : volunteers - v ≡ suc (volunteers - (v + 1)) = omega arith in rw e

  -- the next row, of as many bytes as n bits need, has a stray bit, or is clean
  pub rows_dirty : (volunteers v at bytes : ℕ) → bytes ≡ row_bytes n → v < volunteers → at + v * bytes + bytes ≤ length file → stray file n (at + v * bytes) ≡ true →
      read_rows file n volunteers (volunteers - v) (at + v * row_bytes n) ≡ Err (Range Offers (at + v * bytes + bytes - 1))
  rows_dirty volunteers v at bytes b l h e =
      let a : ltb (length file) (at + v * row_bytes n + row_bytes n) ≡ false = le-ltb (length file) (at + v * row_bytes n + row_bytes n) (rw b at h) in
      let d : stray file n (at + v * row_bytes n) ≡ true = rw b at e in
      rw b (rows_step volunteers v (at + v * row_bytes n) l ∙ rw (a, d))

  pub rows_on : (volunteers v at bytes : ℕ) → bytes ≡ row_bytes n → v < volunteers → at + v * bytes + bytes ≤ length file → stray file n (at + v * bytes) ≡ false →
      (read_rows file n volunteers (volunteers - v) (at + v * row_bytes n) ≡ read_rows file n volunteers (volunteers - (v + 1)) (at + (v + 1) * row_bytes n))
      × (at + (v + 1) * row_bytes n ≤ length file)
  rows_on volunteers v at bytes b l h e =
      let there : at + v * row_bytes n + row_bytes n ≤ length file = rw b at h in
      let a : ltb (length file) (at + v * row_bytes n + row_bytes n) ≡ false = le-ltb (length file) (at + v * row_bytes n + row_bytes n) there in
      let d : stray file n (at + v * row_bytes n) ≡ false = rw b at e in
      let q : at + (v + 1) * row_bytes n ≡ at + v * row_bytes n + row_bytes n = omega arith in
      (rows_step volunteers v (at + v * row_bytes n) l ∙ rw (a, d, q), omega arith)

  -- rows that were read are there and clean
  rows_ok : (volunteers left at c : ℕ) → at ≤ length file → read_rows file n volunteers left at ≡ Ok c →
      (c ≡ volunteers) × (at + left * row_bytes n ≤ length file) × ((v : ℕ) → v < left → stray file n (at + v * row_bytes n) ≡ false)
  rows_ok volunteers zero at c l h = (cc, omega arith, λ j k. absurd (omega arith))
  rows_ok volunteers (suc left) at c l h =
      let a = passed (ltb (length file) (at + row_bytes n)) (Length Offers (length file)) _ c h in
      let there : at + row_bytes n ≤ length file = ltb-false (length file) (at + row_bytes n) a.0 in
      let b = passed (stray file n at) (Range Offers (at + row_bytes n - 1)) (read_rows file n volunteers left (at + row_bytes n)) c a.1 in
      let r = rows_ok volunteers left (at + row_bytes n) c there b.1 in
      (r.0, let k = r.1 in omega arith, first b.0 r.2)
    where
      first : stray file n at ≡ false → ((v : ℕ) → v < left → stray file n (at + row_bytes n + v * row_bytes n) ≡ false) →
          (v : ℕ) → v < suc left → stray file n (at + v * row_bytes n) ≡ false
      first one rest zero k = let e : at + 0 * row_bytes n ≡ at = omega arith in rw e one
      first one rest (suc v) k = let e : at + suc v * row_bytes n ≡ at + row_bytes n + v * row_bytes n = omega arith in rw e (rest v (omega arith))

  -- rows that are there and clean are read
  rows_well : (volunteers left at : ℕ) → at + left * row_bytes n ≤ length file → ((v : ℕ) → v < left → stray file n (at + v * row_bytes n) ≡ false) →
      read_rows file n volunteers left at ≡ Ok volunteers
  rows_well volunteers zero at l h = refl
  rows_well volunteers (suc left) at l h =
      let e : at + 0 * row_bytes n ≡ at = omega arith in
      let a : ltb (length file) (at + row_bytes n) ≡ false = le-ltb (length file) (at + row_bytes n) (omega arith) in
      let b : stray file n at ≡ false = rw e at (h 0 (omega arith)) in
      rw (a, b) (rows_well volunteers left (at + row_bytes n) (omega arith)
      (λ v k. let q : at + suc v * row_bytes n ≡ at + row_bytes n + v * row_bytes n = omega arith in rw q at (h (suc v) (omega arith))))

  -- what a refusal of rows says: the file ends too early and all rows in it are clean, or the first that is not
  abbrev Stop : ℕ → ℕ → Refusal → Type 0
  Stop left at e =
      ((e ≡ Length Offers (length file)) × (length file < at + left * row_bytes n)
      × ((v : ℕ) → v < left → at + v * row_bytes n + row_bytes n ≤ length file → stray file n (at + v * row_bytes n) ≡ false))
      ⊎ ((k : ℕ) × (k < left) × (at + k * row_bytes n + row_bytes n ≤ length file) × (stray file n (at + k * row_bytes n) ≡ true)
      × (e ≡ Range Offers (at + k * row_bytes n + row_bytes n - 1)) × ((v : ℕ) → v < k → stray file n (at + v * row_bytes n) ≡ false))

  -- one more clean row in front
  more : (left at : ℕ) (e : Refusal) → stray file n at ≡ false → Stop left (at + row_bytes n) e → Stop (suc left) at e
  more left at e one w =
      ⊎_elim (λ d. inl (d.0, omega (arith, d.1), early d.2))
      (λ d. inr (
        suc d.0,
        omega (arith, d.1),
        omega (arith, d.2),
        (let q : at + suc d.0 * row_bytes n ≡ at + row_bytes n + d.0 * row_bytes n = omega arith in rw q d.3),
        (let q : at + suc d.0 * row_bytes n ≡ at + row_bytes n + d.0 * row_bytes n = omega arith in rw q d.4),
        late d.0 d.5,
      )) w
    where
      early : ((v : ℕ) → v < left → at + row_bytes n + v * row_bytes n + row_bytes n ≤ length file → stray file n (at + row_bytes n + v * row_bytes n) ≡ false) →
          (v : ℕ) → v < suc left → at + v * row_bytes n + row_bytes n ≤ length file → stray file n (at + v * row_bytes n) ≡ false
      early rest zero k l = let q : at + 0 * row_bytes n ≡ at = omega arith in rw q one
      early rest (suc v) k l = let q : at + suc v * row_bytes n ≡ at + row_bytes n + v * row_bytes n = omega arith in rw q (rest v (omega arith) (omega arith))

      late : (k : ℕ) → ((v : ℕ) → v < k → stray file n (at + row_bytes n + v * row_bytes n) ≡ false) → (v : ℕ) → v < suc k → stray file n (at + v * row_bytes n) ≡ false
      late k rest zero l = let q : at + 0 * row_bytes n ≡ at = omega arith in rw q one
      late k rest (suc v) l = let q : at + suc v * row_bytes n ≡ at + row_bytes n + v * row_bytes n = omega arith in rw q (rest v (omega arith))

  -- a refusal of rows is one of the two
  rows_stop : (volunteers left at : ℕ) (e : Refusal) → at ≤ length file → read_rows file n volunteers left at ≡ Err e → Stop left at e
  rows_stop volunteers zero at e l h = absurd (let z : ◌≡◌ {A = ℕ} 0 1 = cc in omega arith)
  rows_stop volunteers (suc left) at e l h =
      ⊎_elim (λ d. let s : length file < at + row_bytes n = ltb-true (length file) (at + row_bytes n) d.0 in inl (d.1, omega arith, λ v k m. absurd (omega arith)))
      (λ d. let s : at + row_bytes n ≤ length file = ltb-false (length file) (at + row_bytes n) d.0 in
      ⊎_elim
      (λ f. let q : at + 0 * row_bytes n ≡ at = omega arith in
      inr (0, omega arith, omega arith, rw q f.0, rw q f.1, λ j k. absurd (omega arith)))
      (λ f. more left at e f.0 (rows_stop volunteers left (at + row_bytes n) e s f.1))
      (stopped (stray file n at) (Range Offers (at + row_bytes n - 1)) (read_rows file n volunteers left (at + row_bytes n)) e d.1))
      (stopped (ltb (length file) (at + row_bytes n)) (Length Offers (length file)) _ e h)

module _ (file : List ℕ) (n p : ℕ) where
  -- a rule that was read stands in the file as it should
  pub ok_well : (volunteers : ℕ) → read file n p ≡ Ok volunteers → (p + 2 ≤ length file) × (volunteers ≡ count file p) × Well file n volunteers (p + 2)
  ok_well volunteers h =
      let a = passed (ltb (length file) (p + 2)) (Length Offers (length file)) _ volunteers h in
      let there : p + 2 ≤ length file = ltb-false (length file) (p + 2) a.0 in
      let b = passed (ltb 600 (count file p)) (Range Offers p) _ volunteers a.1 in
      let few : count file p ≤ 600 = ltb-false 600 (count file p) b.0 in
      let r = rows_ok file n (count file p) (count file p) (p + 2) volunteers there b.1 in (
        there,
        r.0,
        rw r.0 (record {
          few = few;
          whole = r.1;
          clean = λ v i l k m. clean_row file n (p + 2 + v * row_bytes n) i (r.2 v l) k m;
        }),
      )

  -- a rule that stands in the file as it should is read
  pub well_ok : p + 2 ≤ length file → Well file n (count file p) (p + 2) → read file n p ≡ Ok (count file p)
  well_ok l w =
      let a : ltb (length file) (p + 2) ≡ false = le-ltb (length file) (p + 2) l in
      let b : ltb 600 (count file p) ≡ false = le-ltb 600 (count file p) w.few in
      rw (a, b) (rows_well file n (count file p) (count file p) (p + 2) w.whole (λ v k. clean_rows file n (p + 2 + v * row_bytes n) (λ j. w.clean v j k)))

  -- of two rows the later one ends later
  row_after : (i v : ℕ) → i < v → i * row_bytes n + row_bytes n ≤ v * row_bytes n
  row_after i v l = let a = mul-le (i + 1) (row_bytes n) v (row_bytes n) (omega arith) (omega arith) in omega arith

  -- a refusal is the first of all faults
  pub err_first : (e : Refusal) → read file n p ≡ Err e → First (Fault file n p) e
  err_first e h =
      ⊎_elim (λ d. let l : length file < p + 2 = ltb-true (length file) (p + 2) d.0 in
      rw d.1 (short (omega arith), λ f k. header l f k))
      (λ d. let l : p + 2 ≤ length file = ltb-false (length file) (p + 2) d.0 in
      ⊎_elim
      (λ f. let m : 600 < count file p = ltb-true 600 (count file p) f.0 in
      rw f.1 (many l m, λ g k. full l m g k))
      (λ f. let m : count file p ≤ 600 = ltb-false 600 (count file p) f.0 in
      ⊎_elim
      (λ g. rw g.0 (short g.1, λ q k. early m g.2 q k))
      (λ g. let b = dirty_row file n (p + 2 + g.0 * row_bytes n) g.3 in
      rw g.4 (stray_bit g.0 b.0 g.1 g.2 b.1 b.2 b.3, λ q k. dirty g.0 b.0 m g.2 b.1 b.2 g.5 q k))
      (rows_stop file n (count file p) (count file p) (p + 2) e l f.1))
      (stopped (ltb 600 (count file p)) (Range Offers p) _ e d.1))
      (stopped (ltb (length file) (p + 2)) (Length Offers (length file)) _ e h)
    where
      header : length file < p + 2 → (f : Refusal) → Fault file n p f → Precedes (Length Offers (length file)) f
      header l _ (short k) = inr (refl, omega arith)
      header l _ (many k m) = absurd (omega arith)
      header l _ (stray_bit v i k m o q s) = absurd (omega arith)

      full : p + 2 ≤ length file → 600 < count file p → (f : Refusal) → Fault file n p f → Precedes (Range Offers p) f
      full l m _ (short k) = inl (omega arith)
      full l m _ (many k o) = inr (refl, omega arith)
      full l m _ (stray_bit v i k o q r s) = inl (omega arith)

      early : count file p ≤ 600 →
          ((v : ℕ) → v < count file p → p + 2 + v * row_bytes n + row_bytes n ≤ length file → stray file n (p + 2 + v * row_bytes n) ≡ false) →
          (f : Refusal) → Fault file n p f → Precedes (Length Offers (length file)) f
      early m each _ (short k) = inr (refl, omega arith)
      early m each _ (many k o) = absurd (omega arith)
      early m each _ (stray_bit v i k o q r s) =
          absurd (let b : can_tend file n (p + 2) v i ≡ false = clean_row file n (p + 2 + v * row_bytes n) i (each v k o) q r in grind arith)

      dirty : (j i : ℕ) → count file p ≤ 600 → p + 2 + j * row_bytes n + row_bytes n ≤ length file → n ≤ i → i < 8 * row_bytes n →
          ((v : ℕ) → v < j → stray file n (p + 2 + v * row_bytes n) ≡ false) →
          (f : Refusal) → Fault file n p f → Precedes (Range Offers (p + 2 + j * row_bytes n + row_bytes n - 1)) f
      dirty j i m there low high each _ (short k) = inl (omega arith)
      dirty j i m there low high each _ (many k o) = absurd (omega arith)
      dirty j i m there low high each _ (stray_bit v u k o q r s) =
          ⊎_elim (λ (e : v ≡ j). inr (let a : v * row_bytes n ≡ j * row_bytes n = ap (λ w. w * row_bytes n) e in omega arith, omega arith))
          (⊎_elim
          (λ (l : v < j). absurd (let b : can_tend file n (p + 2) v u ≡ false = clean_row file n (p + 2 + v * row_bytes n) u (each v l) q r in grind arith))
          (λ (l : j < v). inl (let a = row_after j v l in omega arith)))
          (cases_order v j)

  -- a rule that stands in the file as it should has no fault
  pub well_faultless : (f : Refusal) → p + 2 ≤ length file → Well file n (count file p) (p + 2) → Fault file n p f → ⊥
  well_faultless _ l w (short k) = let b = w.whole in omega arith
  well_faultless _ l w (many k m) = let b = w.few in omega arith
  well_faultless _ l w (stray_bit v i k o q r s) = let b : can_tend file n (p + 2) v i ≡ false = w.clean v i k q r in grind arith

  -- where faults are: at the end of a file that is too short, or within the rule
  pub fault_place : (f : Refusal) → Fault file n p f →
      ((f ≡ Length Offers (length file)) × (length file < end file n p))
      ⊎ ((p ≤ place f) × (place f < end file n p) × (place f < length file))
  fault_place _ (short k) = inl (refl, k)
  fault_place _ (many k m) = inr (omega arith, omega arith, omega arith)
  fault_place _ (stray_bit v i k o q r s) = let a = row_after v (count file p) k in inr (omega arith, omega arith, omega arith)

-- a rule is read exactly if it stands in the file as it should
pub reads_well : ReadsWell
reads_well file n p volunteers =
    ((λ h. ok_well file n p volunteers h), (λ h. rw h.1 (well_ok file n p h.0 (rw h.1 at h.2))))

-- a refusal is the first of all faults
pub refuses_first : RefusesFirst
refuses_first file n p e h = err_first file n p e h
