-- Reading the weights of a file of offers.
use Rattle.std.proofs.Common.{◌≡◌, ℕ, zero, suc, ◌+◌, ◌-◌, ◌*◌, ◌<◌, ◌≤◌, ltb, ◌⊎◌, List, length, Ok, Err, Result, sym, refl, ap, ◌∙◌, inl, inr, ⊎_elim, arith}
use Rattle.std.proofs.lemmas.Bool.{ltb-true, ltb-false, cases_lt}
use Rattle.sets.specs.Bits.{le4}
use Rattle.sets.specs.Refusals.{place, number}
use Rattle.sets.specs.declared.refusal.Refusal.{Refusal}
use Rattle.sets.specs.declared.refusal.Refusal.TheVariants.{Length, Weight}
use Rattle.sets.specs.declared.refusal.Source.TheVariants.{Offers}
use Rattle.matroid.specs.Reading.{and_then, read_weight, read_weights}
use Rattle.matroid.proofs.Stages.{Sound, Located, reworded, tested, in_turn}

-- what can be wrong with `left` weights from `at` on
abbrev pub WeightsFault : List ℕ → ℕ → ℕ → Refusal → Type 0
WeightsFault file left at f =
    ((f ≡ Length Offers (length file)) × (length file < at + 4 * left))
    ⊎ ((i : ℕ) × (i < left) × (at + 4 * i + 4 ≤ length file) × (1000000 < le4 file (at + 4 * i)) × (f ≡ Weight (at + 4 * i)))

-- they are there, and none is above a million
abbrev pub WeightsGood : List ℕ → ℕ → ℕ → Unit {0} → Type 0
WeightsGood file left at _ = (at + 4 * left ≤ length file) × ((i : ℕ) → i < left → le4 file (at + 4 * i) ≤ 1000000)

-- where such a fault is
pub weights_located : (file : List ℕ) (left at : ℕ) (f : Refusal) → WeightsFault file left at f → Located file at (at + 4 * left) f
weights_located file left at f w =
    ⊎_elim (λ (x : (f ≡ Length Offers (length file)) × (length file < at + 4 * left)). inl x)
    (λ (x : (i : ℕ) × (i < left) × (at + 4 * i + 4 ≤ length file) × (1000000 < le4 file (at + 4 * i)) × (f ≡ Weight (at + 4 * i))).
    let p : place f ≡ at + 4 * x.0 = ap place x.4 in
    inr (omega arith, omega (arith, x.1), omega (arith, x.2))) w

-- no weights
none_sound : (file : List ℕ) (at : ℕ) → at ≤ length file → Sound (Unit {0}) (Ok tt) (WeightsFault file 0 at) (WeightsGood file 0 at)
none_sound file at l =
    record {
      ok_good = λ x h. (omega arith, λ i k. absurd (omega arith));
      good_ok = λ x g. refl;
      err_first = λ e h. absurd (let z : ◌≡◌ {A = ℕ} 0 1 = cc in omega arith);
      faultless = λ x g f w.
          ⊎_elim (λ (y : (f ≡ Length Offers (length file)) × (length file < at + 4 * 0)). omega (arith, y.1))
          (λ (y : (i : ℕ) × (i < 0) × (at + 4 * i + 4 ≤ length file) × (1000000 < le4 file (at + 4 * i)) × (f ≡ Weight (at + 4 * i))). omega (arith, y.1)) w;
    }

-- the weight at `at` is there and too high, or is not there
abbrev OneFault : List ℕ → ℕ → Refusal → Type 0
OneFault file at f =
    ((f ≡ Length Offers (length file)) × (length file < at + 4)) ⊎ ((at + 4 ≤ length file) × (1000000 < le4 file at) × (f ≡ Weight at))

-- the weight is there, and at most a million
abbrev OneGood : List ℕ → ℕ → Unit {0} → Type 0
OneGood file at _ = (at + 4 ≤ length file) × (le4 file at ≤ 1000000)

-- where a fault of one weight is
one_located : (file : List ℕ) (at : ℕ) (f : Refusal) → OneFault file at f → Located file at (at + 4) f
one_located file at f w =
    ⊎_elim (λ (x : (f ≡ Length Offers (length file)) × (length file < at + 4)). inl x)
    (λ (x : (at + 4 ≤ length file) × (1000000 < le4 file at) × (f ≡ Weight at)).
    let p : place f ≡ at = ap place x.2 in
    inr (omega arith, omega arith, omega (arith, x.0))) w

-- one weight
one_sound : (file : List ℕ) (at : ℕ) → Sound (Unit {0}) (read_weight file at) (OneFault file at) (OneGood file at)
one_sound file at =
    tested (ltb (length file) (at + 4)) (Length Offers (length file)) _ _ _
    (λ b.
    let l = ltb-true (length file) (at + 4) b in (
      inl (refl, l),
      λ f w. ⊎_elim (λ (x : (f ≡ Length Offers (length file)) × (length file < at + 4)). inr (sym (ap place x.0), omega (arith, ap number x.0)))
          (λ (x : (at + 4 ≤ length file) × (1000000 < le4 file at) × (f ≡ Weight at)). absurd (omega (arith, x.0))) w,
    ))
    (λ b y g. let l = ltb-true (length file) (at + 4) b in omega (arith, g.0))
    (λ b.
    let l = ltb-false (length file) (at + 4) b in
    tested (ltb 1000000 (le4 file at)) (Weight at) _ _ _
    (λ c.
    let m = ltb-true 1000000 (le4 file at) c in (
      inr (l, m, refl),
      λ f w. ⊎_elim (λ (x : (f ≡ Length Offers (length file)) × (length file < at + 4)). absurd (omega (arith, x.1)))
          (λ (x : (at + 4 ≤ length file) × (1000000 < le4 file at) × (f ≡ Weight at)). inr (sym (ap place x.2), omega (arith, ap number x.2))) w,
    ))
    (λ c y g. let m = ltb-true 1000000 (le4 file at) c in omega (arith, g.1))
    (λ c.
    let m = ltb-false 1000000 (le4 file at) c in
    record {
      ok_good = λ y h. (l, m);
      good_ok = λ y g. refl;
      err_first = λ e h. absurd (let z : ◌≡◌ {A = ℕ} 0 1 = cc in omega arith);
      faultless = λ y g f w.
          ⊎_elim (λ (x : (f ≡ Length Offers (length file)) × (length file < at + 4)). omega (arith, x.1))
          (λ (x : (at + 4 ≤ length file) × (1000000 < le4 file at) × (f ≡ Weight at)). omega (arith, x.1)) w;
    }))

-- a fault of the first weight or of the others is one of them all, and the other way round
to_all : (file : List ℕ) (left at : ℕ) (f : Refusal) → OneFault file at f ⊎ WeightsFault file left (at + 4) f → WeightsFault file (suc left) at f
to_all file left at f w =
    ⊎_elim
    (λ (o : OneFault file at f).
    ⊎_elim (λ (x : (f ≡ Length Offers (length file)) × (length file < at + 4)). inl (x.0, omega (arith, x.1)))
    (λ (x : (at + 4 ≤ length file) × (1000000 < le4 file at) × (f ≡ Weight at)).
    let q : at + 4 * 0 ≡ at = omega arith in
    inr (0, omega arith, omega (arith, x.0), rw q x.1, rw q x.2)) o)
    (λ (o : WeightsFault file left (at + 4) f).
    ⊎_elim (λ (x : (f ≡ Length Offers (length file)) × (length file < at + 4 + 4 * left)). inl (x.0, omega (arith, x.1)))
    (λ (x : (i : ℕ) × (i < left) × (at + 4 + 4 * i + 4 ≤ length file) × (1000000 < le4 file (at + 4 + 4 * i)) × (f ≡ Weight (at + 4 + 4 * i))).
    let q : at + 4 * suc x.0 ≡ at + 4 + 4 * x.0 = omega arith in
    inr (suc x.0, omega (arith, x.1), omega (arith, x.2), rw q x.3, rw q x.4)) o)
    w

-- a fault of all weights is one of the first or of the others
from_all : (file : List ℕ) (left at : ℕ) (f : Refusal) → at + 4 ≤ length file ⊎ length file < at + 4 → WeightsFault file (suc left) at f →
    OneFault file at f ⊎ WeightsFault file left (at + 4) f
from_all file left at f o w =
    ⊎_elim
    (λ (x : (f ≡ Length Offers (length file)) × (length file < at + 4 * suc left)).
    ⊎_elim (λ (l : at + 4 ≤ length file). inr (inl (x.0, omega (arith, x.1)))) (λ (l : length file < at + 4). inl (inl (x.0, l))) o)
    (λ (x : (i : ℕ) × (i < suc left) × (at + 4 * i + 4 ≤ length file) × (1000000 < le4 file (at + 4 * i)) × (f ≡ Weight (at + 4 * i))).
    place_of x.0 x.1 x.2 x.3 x.4)
    w
  where
    place_of : (i : ℕ) → i < suc left → at + 4 * i + 4 ≤ length file → 1000000 < le4 file (at + 4 * i) → f ≡ Weight (at + 4 * i) →
        OneFault file at f ⊎ WeightsFault file left (at + 4) f
    place_of zero k l m e = let q : at + 4 * 0 ≡ at = omega arith in inl (inr (omega arith, rw q at m, rw q at e))
    place_of (suc i) k l m e =
        let q : at + 4 * suc i ≡ at + 4 + 4 * i = omega arith in inr (inr (i, omega arith, omega arith, rw q at m, rw q at e))

-- all weights
pub weights_sound : (file : List ℕ) (left at : ℕ) → at ≤ length file →
    Sound (Unit {0}) (read_weights file left at) (WeightsFault file left at) (WeightsGood file left at)
weights_sound file zero at l = none_sound file at l
weights_sound file (suc left) at l =
    reworded _ _ _ _ (to_all file left at) (λ f w. from_all file left at f (order (cases_lt (length file) (at + 4))) w)
    (λ x g. (omega (arith, g.2.0), first_and g.1.1 g.2.1)) (λ x g. (tt, head g, tail g))
    (in_turn file at (at + 4) (at + 4 + 4 * left) (OneFault file at) (WeightsFault file left (at + 4)) (OneGood file at) (λ _. WeightsGood file left (at + 4))
    (one_located file at) (weights_located file left (at + 4)) (λ _. read_weights file left (at + 4))
    (λ x g. weights_sound file left (at + 4) g.0) (read_weight file at) (one_sound file at))
  where
    first_and : le4 file at ≤ 1000000 → ((i : ℕ) → i < left → le4 file (at + 4 + 4 * i) ≤ 1000000) → (i : ℕ) → i < suc left → le4 file (at + 4 * i) ≤ 1000000
    first_and one more zero k = let q : at + 4 * 0 ≡ at = omega arith in rw q one
    first_and one more (suc i) k = let q : at + 4 * suc i ≡ at + 4 + 4 * i = omega arith in rw q (more i (omega arith))

    head : WeightsGood file (suc left) at tt → OneGood file at tt
    head g = let q : at + 4 * 0 ≡ at = omega arith in (omega (arith, g.0), rw q at (g.1 0 (omega arith)))

    tail : WeightsGood file (suc left) at tt → WeightsGood file left (at + 4) tt
    tail g =
        (omega (arith, g.0), λ i k. let q : at + 4 * suc i ≡ at + 4 + 4 * i = omega arith in rw q at (g.1 (suc i) (omega arith)))

    order : (length file < at + 4) ⊎ (at + 4 ≤ length file) → (at + 4 ≤ length file) ⊎ (length file < at + 4)
    order (inl a) = inr a
    order (inr a) = inl a

-- one turn of the loop over the weights
pub weights_step : (file : List ℕ) (n i : ℕ) → i < n →
    read_weights file (n - i) (2 + 4 * i) ≡ and_then (read_weight file (2 + 4 * i)) (λ _. read_weights file (n - (i + 1)) (2 + 4 * (i + 1)))
weights_step file n i l =
    let a : n - i ≡ suc (n - (i + 1)) = omega arith in
    let b : 2 + 4 * i + 4 ≡ 2 + 4 * (i + 1) = omega arith in
    ap (λ (k : ℕ). read_weights file k (2 + 4 * i)) a
    ∙ ap (λ (k : ℕ). and_then (read_weight file (2 + 4 * i)) (λ _. read_weights file (n - (i + 1)) k)) b

-- the turn stops at a refusal, and goes on where there is none
pub weights_stop : (file : List ℕ) (n i : ℕ) (e : Refusal) → i < n → read_weights file (n - i) (2 + 4 * i) ≡ read_weights file n 2 →
    read_weight file (2 + 4 * i) ≡ Err e → Err e ≡ read_weights file n 2
weights_stop file n i e l inv h =
    sym (ap (λ (r : Result (Unit {0}) Refusal). and_then r (λ _. read_weights file (n - (i + 1)) (2 + 4 * (i + 1)))) h) ∙ sym (weights_step file n i l) ∙ inv

-- it goes on where there is none
pub weights_more : (file : List ℕ) (n i : ℕ) → i < n → read_weights file (n - i) (2 + 4 * i) ≡ read_weights file n 2 →
    read_weight file (2 + 4 * i) ≡ Ok tt →
    (2 + 4 * (i + 1) ≤ length file) × (read_weights file (n - (i + 1)) (2 + 4 * (i + 1)) ≡ read_weights file n 2)
weights_more file n i l inv h =
    let g = (one_sound file (2 + 4 * i)).ok_good tt h in (
      omega (arith, g.0),
      sym (ap (λ (r : Result (Unit {0}) Refusal). and_then r (λ _. read_weights file (n - (i + 1)) (2 + 4 * (i + 1)))) h) ∙ sym (weights_step file n i l) ∙ inv,
    )

-- weights that were read are there
pub weights_within : (file : List ℕ) (n : ℕ) → 2 ≤ length file → Ok tt ≡ read_weights file n 2 → 2 + 4 * n ≤ length file
weights_within file n l h = ((weights_sound file n 2 l).ok_good tt (sym h)).0
