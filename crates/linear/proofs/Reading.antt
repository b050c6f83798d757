-- Reading a rule of rows: what it answers, and that a refusal is the first of all faults.
use Rattle.std.proofs.Common.{◌≡◌, ℕ, zero, suc, ◌+◌, ◌-◌, ◌*◌, ◌%◌, ◌<◌, ◌≤◌, Bool, true, false, cond, not, ◌&&◌, eqb, ltb, leb, ◌⊎◌, List, length, get_or, Ok, Err, Result, refl, sym, ap, ◌∙◌, inl, inr, ⊎_elim, arith}
use Rattle.std.proofs.lemmas.Bool.{ltb-true, leb-true, leb-false, lt-ltb, lt-leb, le-leb, cases_lt, cases_eq, cases_Bool, and_parts, and_from, not-true, not-false, eqb-true, eq-eqb, both_ways}
use Rattle.std.proofs.lemmas.List.Folds.{Any-from_list_any, list_any_at}
use Rattle.std.proofs.lemmas.List.FromFn.{length-range_with_len, get_or-range_with_len}
use Rattle.std.specs.List.{list_any, range_with_len}
use Rattle.sets.specs.declared.refusal.Refusal.{Refusal}
use Rattle.sets.specs.declared.refusal.Refusal.TheVariants.{Length, Row}
use Rattle.sets.specs.declared.refusal.Source.TheVariants.{Offers}
use Rattle.sets.specs.Refusals.{First, Precedes, place}
use Rattle.linear.specs.declared.Shape.{Shape}
use Rattle.linear.specs.Rows.{Prime, Well}
use Rattle.linear.specs.Reading.{divisible, small_prime, good_length, read, read_numbers, shape_at, end, Fault, ReadsWell, RefusesFirst}
use Rattle.linear.specs.Reading.Fault.{short, no_prime, bad_length, too_large}
use Rattle.linear.proofs.Span.{some_from, some_gives}

-- a test that would refuse was passed on the way to an answer
passed : (b : Bool) (x : Refusal) (r : Result Shape Refusal) (c : Shape) → cond b (Err x) r ≡ Ok c → (b ≡ false) × (r ≡ Ok c)
passed true x r c h = absurd (let z : ◌≡◌ {A = ℕ} 0 1 = cc in omega arith)
passed false x r c h = (refl, h)

-- a refusal comes from a test, or from what follows it
stopped : (b : Bool) (x : Refusal) (r : Result Shape Refusal) (e : Refusal) → cond b (Err x) r ≡ Err e →
    ((b ≡ true) × (e ≡ x)) ⊎ ((b ≡ false) × (r ≡ Err e))
stopped true x r e h = inl (refl, cc)
stopped false x r e h = inr (refl, h)

-- trying every divisor finds one, if there is one
pub divisible_from : (p d : ℕ) → 1 < d → d < p → p % d ≡ 0 → divisible p ≡ true
divisible_from p d a b e =
    some_from p (λ x. ltb 1 x && eqb (p % x) 0) d b (and_from (ltb 1 d) (eqb (p % d) 0) (lt-ltb 1 d a) (eq-eqb (p % d) 0 e))

-- and finds none, if there is none
pub divisible_never : (p : ℕ) → ((d : ℕ) → 1 < d → d < p → p % d ≡ 0 → ⊥) → divisible p ≡ false
divisible_never p h = ⊎_elim (λ y. absurd (found y)) (λ y. y) (cases_Bool (divisible p))
  where
    found : divisible p ≡ true → ⊥
    found y =
        let r = some_gives p (λ x. ltb 1 x && eqb (p % x) 0) y in
        let a = and_parts (ltb 1 r.0) (eqb (p % r.0) 0) r.2 in
        h r.0 (ltb-true 1 r.0 a.0) r.1 (eqb-true (p % r.0) 0 a.1)

-- trying the numbers from 2 on tries every divisor
pub divisible_listed : (p : ℕ) → list_any (λ d. eqb (p % d) 0) (range_with_len 2 (p - 2)) ≡ divisible p
divisible_listed p = ⊎_elim (λ y. y ∙ sym (found y)) (λ n. n ∙ sym (divisible_never p (none n))) (cases_Bool (list_any divides tried))
  where
    divides : ℕ → Bool
    divides d = eqb (p % d) 0

    tried : List ℕ
    tried = range_with_len 2 (p - 2)

    found : list_any divides tried ≡ true → divisible p ≡ true
    found y =
        let r = Any-from_list_any divides tried y in
        let low : r.0 < p - 2 = omega (arith, r.2, length-range_with_len 2 (p - 2)) in
        let e : r.1 ≡ 2 + r.0 = sym r.3 ∙ get_or-range_with_len 2 (p - 2) r.0 r.1 low in
        divisible_from p r.1 (omega arith) (omega arith) (eqb-true (p % r.1) 0 r.4)

    none : list_any divides tried ≡ false → (d : ℕ) → 1 < d → d < p → p % d ≡ 0 → ⊥
    none n d a b e =
        let low : d - 2 < length tried = omega (arith, length-range_with_len 2 (p - 2)) in
        let at : get_or tried (d - 2) 0 ≡ d = get_or-range_with_len 2 (p - 2) (d - 2) 0 (omega arith) ∙ omega arith in
        both_ways (list_any divides tried) n (list_any_at divides tried (d - 2) 0 low (ap divides at ∙ eq-eqb (p % d) 0 e))

-- the test of a prime
pub prime_passes : (p : ℕ) → Prime p → p ≤ 251 → small_prime p ≡ true
prime_passes p h l =
    let a = lt-ltb 1 p h.0 in
    let b = le-leb p 251 l in
    let c = divisible_never p h.1 in
    tested (ltb 1 p) (leb p 251) (divisible p) a b c
  where
    tested : (a b c : Bool) → a ≡ true → b ≡ true → c ≡ false → (a && b && not c) ≡ true
    tested a b c f g h = grind arith

-- what passes it is a prime
pub passes_prime : (p : ℕ) → small_prime p ≡ true → Prime p × (p ≤ 251)
passes_prime p h =
    let t = parts (ltb 1 p) (leb p 251) (divisible p) h in
    ((ltb-true 1 p t.0, λ d a b e. both_ways (divisible p) t.2 (divisible_from p d a b e)), leb-true p 251 t.1)
  where
    parts : (a b c : Bool) → (a && b && not c) ≡ true → (a ≡ true) × (b ≡ true) × (c ≡ false)
    parts true true false h = (refl, refl, refl)
    parts true true true h = absurd (grind arith)
    parts true false c h = absurd (grind arith)
    parts false b c h = absurd (grind arith)

-- the test of a length
pub length_passes : (l : ℕ) → 1 ≤ l → l ≤ 64 → good_length l ≡ true
length_passes l a b = and_from (ltb 0 l) (leb l 64) (lt-ltb 0 l a) (le-leb l 64 b)

-- what passes it is from 1 to 64
pub passes_length : (l : ℕ) → good_length l ≡ true → (1 ≤ l) × (l ≤ 64)
passes_length l h =
    let t = and_parts (ltb 0 l) (leb l 64) h in
    (ltb-true 0 l t.0, leb-true l 64 t.1)

module _ (file : List ℕ) (shape : Shape) where
  -- one number, and then the rest
  pub numbers_step : (end place : ℕ) → place < end →
      read_numbers file shape (end - place) place
      ≡ cond (leb (length file) place) (Err (Length Offers (length file)))
      (cond (leb shape.prime (get_or file place 0)) (Err (Row place))
      (read_numbers file shape (end - (place + 1)) (place + 1)))
  numbers_step end place l =
      let e : end - place ≡ suc (end - (place + 1)) = omega arith in rw e

  -- numbers that were read are there, and each is below the prime
  numbers_ok : (left at : ℕ) (c : Shape) → at ≤ length file → read_numbers file shape left at ≡ Ok c →
      (c ≡ shape) × (at + left ≤ length file) × ((j : ℕ) → j < left → get_or file (at + j) 0 < shape.prime)
  numbers_ok zero at c l h = (cc, omega arith, λ j k. absurd (omega arith))
  numbers_ok (suc left) at c l h =
      let a = passed (leb (length file) at) (Length Offers (length file)) _ c h in
      let there : at < length file = leb-false (length file) at a.0 in
      let b = passed (leb shape.prime (get_or file at 0)) (Row at) (read_numbers file shape left (at + 1)) c a.1 in
      let one : get_or file at 0 < shape.prime = leb-false shape.prime (get_or file at 0) b.0 in
      let r = numbers_ok left (at + 1) c (omega arith) b.1 in
      (r.0, let k = r.1 in omega arith, first one r.2)
    where
      first : get_or file at 0 < shape.prime → ((j : ℕ) → j < left → get_or file (at + 1 + j) 0 < shape.prime) →
          (j : ℕ) → j < suc left → get_or file (at + j) 0 < shape.prime
      first one rest zero k = let e : at + 0 ≡ at = omega arith in rw e one
      first one rest (suc j) k = let e : at + suc j ≡ at + 1 + j = omega arith in rw e (rest j (omega arith))

  -- numbers that are there and below the prime are read
  numbers_well : (left at : ℕ) → at + left ≤ length file → ((j : ℕ) → j < left → get_or file (at + j) 0 < shape.prime) →
      read_numbers file shape left at ≡ Ok shape
  numbers_well zero at l h = refl
  numbers_well (suc left) at l h =
      let e : at + 0 ≡ at = omega arith in
      let a : leb (length file) at ≡ false = lt-leb (length file) at (omega arith) in
      let one : get_or file at 0 < shape.prime = rw e at (h 0 (omega arith)) in
      let b : leb shape.prime (get_or file at 0) ≡ false = lt-leb shape.prime (get_or file at 0) one in
      rw (a, b) (numbers_well left (at + 1) (omega arith)
      (λ j k. let q : at + suc j ≡ at + 1 + j = omega arith in rw q at (h (suc j) (omega arith))))

  -- what a refusal of numbers says: the file ends too early and all numbers in it are low, or the first that is not
  abbrev Stop : ℕ → ℕ → Refusal → Type 0
  Stop left at e =
      ((e ≡ Length Offers (length file)) × (length file < at + left)
      × ((j : ℕ) → j < left → at + j < length file → get_or file (at + j) 0 < shape.prime))
      ⊎ ((k : ℕ) × (k < left) × (at + k < length file) × (shape.prime ≤ get_or file (at + k) 0) × (e ≡ Row (at + k))
      × ((j : ℕ) → j < k → get_or file (at + j) 0 < shape.prime))

  -- one more number in front
  more : (left at : ℕ) (e : Refusal) → get_or file at 0 < shape.prime → Stop left (at + 1) e → Stop (suc left) at e
  more left at e one w =
      ⊎_elim (λ d. inl (d.0, omega (arith, d.1), early d.2))
      (λ d. inr (
        suc d.0,
        omega (arith, d.1),
        omega (arith, d.2),
        (let q : at + suc d.0 ≡ at + 1 + d.0 = omega arith in rw q d.3),
        (let q : at + suc d.0 ≡ at + 1 + d.0 = omega arith in rw q d.4),
        late d.0 d.5,
      )) w
    where
      early : ((j : ℕ) → j < left → at + 1 + j < length file → get_or file (at + 1 + j) 0 < shape.prime) →
          (j : ℕ) → j < suc left → at + j < length file → get_or file (at + j) 0 < shape.prime
      early rest zero k l = let q : at + 0 ≡ at = omega arith in rw q one
      early rest (suc j) k l = let q : at + suc j ≡ at + 1 + j = omega arith in rw q (rest j (omega arith) (omega arith))

      late : (k : ℕ) → ((j : ℕ) → j < k → get_or file (at + 1 + j) 0 < shape.prime) → (j : ℕ) → j < suc k → get_or file (at + j) 0 < shape.prime
      late k rest zero l = let q : at + 0 ≡ at = omega arith in rw q one
      late k rest (suc j) l = let q : at + suc j ≡ at + 1 + j = omega arith in rw q (rest j (omega arith))

  -- a refusal of numbers is such
  numbers_stop : (left at : ℕ) (e : Refusal) → at ≤ length file → read_numbers file shape left at ≡ Err e → Stop left at e
  numbers_stop zero at e l h = absurd (let z : ◌≡◌ {A = ℕ} 0 1 = cc in omega arith)
  numbers_stop (suc left) at e l h =
      ⊎_elim (λ d. let m : length file ≤ at = leb-true (length file) at d.0 in inl (d.1, omega arith, λ j k o. absurd (omega arith)))
      (λ d. let m : at < length file = leb-false (length file) at d.0 in
      ⊎_elim
      (λ f. let q : at + 0 ≡ at = omega arith in
      inr (0, omega arith, omega arith, rw q (leb-true shape.prime (get_or file at 0) f.0), rw q f.1, λ j k. absurd (omega arith)))
      (λ f. more left at e (leb-false shape.prime (get_or file at 0) f.0) (numbers_stop left (at + 1) e (omega arith) f.1))
      (stopped (leb shape.prime (get_or file at 0)) (Row at) (read_numbers file shape left (at + 1)) e d.1))
      (stopped (leb (length file) at) (Length Offers (length file)) _ e h)

module _ (file : List ℕ) (n p : ℕ) where
  -- the prime that the header says
  abbrev prime : ℕ
  prime = get_or file p 0

  -- the length that the header says
  abbrev long : ℕ
  long = get_or file (p + 1) 0

  -- a rule that was read stands in the file as it should
  pub ok_well : (shape : Shape) → read file n p ≡ Ok shape →
      (p + 2 ≤ length file) × (shape ≡ shape_at file p) × Well file n shape.prime shape.len (p + 2)
  ok_well shape h =
      let a = passed (leb (length file) p) (Length Offers (length file)) _ shape h in
      let b = passed (not (small_prime prime)) (Row p) _ shape a.1 in
      let c = passed (leb (length file) (p + 1)) (Length Offers (length file)) _ shape b.1 in
      let d = passed (not (good_length long)) (Row (p + 1)) _ shape c.1 in
      let there : p + 1 < length file = leb-false (length file) (p + 1) c.0 in
      let r = numbers_ok file (shape_at file p) (n * long) (p + 2) shape (omega arith) d.1 in
      let is_prime = passes_prime prime (not-false (small_prime prime) b.0) in
      let is_long = passes_length long (not-false (good_length long) d.0) in
      made shape (omega arith) is_prime is_long r.0 r.1 r.2
    where
      made : (shape : Shape) → p + 2 ≤ length file → Prime prime × (prime ≤ 251) → (1 ≤ long) × (long ≤ 64) → shape ≡ shape_at file p →
          p + 2 + n * long ≤ length file → ((k : ℕ) → k < n * long → get_or file (p + 2 + k) 0 < prime) →
          (p + 2 ≤ length file) × (shape ≡ shape_at file p) × Well file n shape.prime shape.len (p + 2)
      made shape there a b e all each =
          let w : Well file n prime long (p + 2) =
          record { is_prime = a.0; prime_small = a.1; some_numbers = b.0; few_numbers = b.1; there = all; below = each } in
          (there, e, rw e w)

  -- a rule that stands in the file as it should is read
  pub well_ok : p + 2 ≤ length file → Well file n prime long (p + 2) → read file n p ≡ Ok (shape_at file p)
  well_ok l w =
      let a : leb (length file) p ≡ false = lt-leb (length file) p (omega arith) in
      let b : small_prime prime ≡ true = prime_passes prime w.is_prime w.prime_small in
      let c : leb (length file) (p + 1) ≡ false = lt-leb (length file) (p + 1) (omega arith) in
      let d : good_length long ≡ true = length_passes long w.some_numbers w.few_numbers in
      all_passed (leb (length file) p) (small_prime prime) (leb (length file) (p + 1)) (good_length long)
      (Length Offers (length file)) (Row p) (Length Offers (length file)) (Row (p + 1))
      (read_numbers file (shape_at file p) (n * long) (p + 2)) a b c d
      ∙ numbers_well file (shape_at file p) (n * long) (p + 2) w.there w.below
    where
      all_passed : (a b c d : Bool) (x y z u : Refusal) (r : Result Shape Refusal) → a ≡ false → b ≡ true → c ≡ false → d ≡ true →
          cond a (Err x) (cond (not b) (Err y) (cond c (Err z) (cond (not d) (Err u) r))) ≡ r
      all_passed a b c d x y z u r e f g h = rw (e, f, g, h)

  -- a refusal is the first of all faults
  pub err_first : (e : Refusal) → read file n p ≡ Err e → First (Fault file n p) e
  err_first e h =
      ⊎_elim
      (λ a. let l : length file ≤ p = leb-true (length file) p a.0 in rw a.1 (short (omega arith), λ f k. at_once l f k))
      (λ a. let l : p < length file = leb-false (length file) p a.0 in
      ⊎_elim
      (λ b. rw b.1 (no_prime l (λ g. both_ways (small_prime prime) (not-true (small_prime prime) b.0) (prime_passes prime g.0 g.1)), λ f k. at_prime l f k))
      (λ b. let is_prime = passes_prime prime (not-false (small_prime prime) b.0) in
      ⊎_elim
      (λ c. let m : length file ≤ p + 1 = leb-true (length file) (p + 1) c.0 in rw c.1 (short (one_byte m), λ f k. at_header m is_prime f k))
      (λ c. let m : p + 1 < length file = leb-false (length file) (p + 1) c.0 in
      ⊎_elim
      (λ d. rw d.1 (bad_length m (λ g. both_ways (good_length long) (not-true (good_length long) d.0) (length_passes long g.0 g.1)), λ f k. at_length m is_prime f k))
      (λ d. let is_long = passes_length long (not-false (good_length long) d.0) in
      ⊎_elim
      (λ g. rw g.0 (short g.1, λ f k. at_end m is_prime is_long g.2 f k))
      (λ g. rw g.4 (too_large g.0 g.1 g.2 g.3, λ f k. at_number g.0 is_prime is_long g.2 g.5 f k))
      (numbers_stop file (shape_at file p) (n * long) (p + 2) e (omega arith) d.1))
      (stopped (not (good_length long)) (Row (p + 1)) _ e c.1))
      (stopped (leb (length file) (p + 1)) (Length Offers (length file)) _ e b.1))
      (stopped (not (small_prime prime)) (Row p) _ e a.1))
      (stopped (leb (length file) p) (Length Offers (length file)) _ e h)
    where
      one_byte : length file ≤ p + 1 → length file < end file n p
      one_byte m = omega arith

      at_once : length file ≤ p → (f : Refusal) → Fault file n p f → Precedes (Length Offers (length file)) f
      at_once l _ (short k) = inr (refl, omega arith)
      at_once l _ (no_prime k m) = absurd (omega arith)
      at_once l _ (bad_length k m) = absurd (omega arith)
      at_once l _ (too_large j k m o) = absurd (omega arith)

      at_prime : p < length file → (f : Refusal) → Fault file n p f → Precedes (Row p) f
      at_prime l _ (short k) = inl l
      at_prime l _ (no_prime k m) = inr (refl, omega arith)
      at_prime l _ (bad_length k m) = inl (omega arith)
      at_prime l _ (too_large j k m o) = inl (omega arith)

      at_header : length file ≤ p + 1 → Prime prime × (prime ≤ 251) → (f : Refusal) → Fault file n p f → Precedes (Length Offers (length file)) f
      at_header l a _ (short k) = inr (refl, omega arith)
      at_header l a _ (no_prime k m) = absurd (m a)
      at_header l a _ (bad_length k m) = absurd (omega arith)
      at_header l a _ (too_large j k m o) = absurd (omega arith)

      at_length : p + 1 < length file → Prime prime × (prime ≤ 251) → (f : Refusal) → Fault file n p f → Precedes (Row (p + 1)) f
      at_length l a _ (short k) = inl l
      at_length l a _ (no_prime k m) = absurd (m a)
      at_length l a _ (bad_length k m) = inr (refl, omega arith)
      at_length l a _ (too_large j k m o) = inl (omega arith)

      at_end : p + 1 < length file → Prime prime × (prime ≤ 251) → (1 ≤ long) × (long ≤ 64) →
          ((j : ℕ) → j < n * long → p + 2 + j < length file → get_or file (p + 2 + j) 0 < prime) →
          (f : Refusal) → Fault file n p f → Precedes (Length Offers (length file)) f
      at_end l a b each _ (short k) = inr (refl, omega arith)
      at_end l a b each _ (no_prime k m) = absurd (m a)
      at_end l a b each _ (bad_length k m) = absurd (m b)
      at_end l a b each _ (too_large j k m o) = absurd (let c = each j k m in omega arith)

      at_number : (i : ℕ) → Prime prime × (prime ≤ 251) → (1 ≤ long) × (long ≤ 64) → p + 2 + i < length file →
          ((j : ℕ) → j < i → get_or file (p + 2 + j) 0 < prime) → (f : Refusal) → Fault file n p f → Precedes (Row (p + 2 + i)) f
      at_number i a b l each _ (short k) = inl l
      at_number i a b l each _ (no_prime k m) = absurd (m a)
      at_number i a b l each _ (bad_length k m) = absurd (m b)
      at_number i a b l each _ (too_large j k m o) =
          ⊎_elim (λ (q : j < i). absurd (let c = each j q in omega arith))
          (λ (q : i ≤ j). ⊎_elim (λ (e : i ≡ j). inr (ap (λ x. p + 2 + x) e, omega arith)) (λ (ne : i ≡ j → ⊥). inl (omega arith)) (cases_eq i j)) (cases_lt j i)

  -- a rule that stands in the file as it should has no fault
  pub well_faultless : (f : Refusal) → p + 2 ≤ length file → Well file n prime long (p + 2) → Fault file n p f → ⊥
  well_faultless _ l w (short k) = let b = w.there in omega arith
  well_faultless _ l w (no_prime k m) = m (w.is_prime, w.prime_small)
  well_faultless _ l w (bad_length k m) = m (w.some_numbers, w.few_numbers)
  well_faultless _ l w (too_large j k m o) = let b = w.below j k in omega arith

  -- where faults are: at the end of a file that is too short, or within the rule
  pub fault_place : (f : Refusal) → Fault file n p f →
      ((f ≡ Length Offers (length file)) × (length file < end file n p))
      ⊎ ((p ≤ place f) × (place f < end file n p) × (place f < length file))
  fault_place _ (short k) = inl (refl, k)
  fault_place _ (no_prime k m) = inr (omega arith, omega arith, k)
  fault_place _ (bad_length k m) = inr (omega arith, omega arith, k)
  fault_place _ (too_large j k m o) = inr (omega arith, omega arith, m)

-- a rule is read exactly if it stands in the file as it should
pub reads_well : ReadsWell
reads_well file n p shape =
    ((λ h. ok_well file n p shape h), (λ h. rw h.1 (well_ok file n p h.0 (rw h.1 at h.2))))

-- a refusal is the first of all faults
pub refuses_first : RefusesFirst
refuses_first file n p e h = err_first file n p e h
