-- Reading in stages, front to back: what each stage promises, and that two stages in a row promise the same.
use Rattle.std.proofs.Common.{◌≡◌, ℕ, ◌<◌, ◌≤◌, Bool, true, false, cond, ◌⊎◌, List, length, Ok, Err, Result, sym, refl, ap, ◌∙◌, inl, inr, ⊎_elim, arith}
use Rattle.sets.specs.Refusals.{First, Precedes, place, number}
use Rattle.sets.specs.declared.refusal.Refusal.{Refusal}
use Rattle.sets.specs.declared.refusal.Refusal.TheVariants.{Length}
use Rattle.sets.specs.declared.refusal.Source.TheVariants.{Offers}
use Rattle.matroid.specs.Reading.{and_then}

-- a refusal is no answer
pub no_answer : {C : Type 0} (d : Refusal) (y : C) → ◌≡◌ {A = Result C Refusal} (Err d) (Ok y) → ⊥
no_answer d y h = let z : ◌≡◌ {A = ℕ} 0 1 = cc in omega arith

-- what reading one part promises: an answer exactly where the part is good, else the first of its faults
pub record Sound (A : Type 0) (read : Result A Refusal) (Fault : Refusal → Type 0) (Good : A → Type 0) : Type 0 where
  pub ok_good : (a : A) → read ≡ Ok a → Good a
  pub good_ok : (a : A) → Good a → read ≡ Ok a
  pub err_first : (e : Refusal) → read ≡ Err e → First Fault e
  pub faultless : (a : A) → Good a → (f : Refusal) → Fault f → ⊥

-- the same promise in other words
pub reworded : {A : Type 0} {r : Result A Refusal} (F F' : Refusal → Type 0) (G G' : A → Type 0) → ((f : Refusal) → F f → F' f) → ((f : Refusal) → F' f → F f) →
    ((x : A) → G x → G' x) → ((x : A) → G' x → G x) → Sound A r F G → Sound A r F' G'
reworded F F' G G' to from good back s =
    record {
      ok_good = λ x h. good x (s.ok_good x h);
      good_ok = λ x g. s.good_ok x (back x g);
      err_first = λ e h. let u = s.err_first e h in (to e u.0, λ f k. u.1 f (from f k));
      faultless = λ x g f k. s.faultless x (back x g) f (from f k);
    }

-- a test that refuses, then the rest
pub tested : {A : Type 0} (b : Bool) (x : Refusal) (r : Result A Refusal) (F : Refusal → Type 0) (G : A → Type 0) →
    (b ≡ true → First F x) → (b ≡ true → (y : A) → G y → ⊥) → (b ≡ false → Sound A r F G) → Sound A (cond b (Err x) r) F G
tested true x r F G first bad rest =
    record {
      ok_good = λ y h. absurd (no_answer x y h);
      good_ok = λ y g. absurd (bad refl y g);
      err_first = λ e h. let q : e ≡ x = cc in rw q (first refl);
      faultless = λ y g f k. bad refl y g;
    }
tested false x r F G first bad rest = rest refl

-- one way or another
pub either_way : {A : Type 0} (b : Bool) (r s : Result A Refusal) (F : Refusal → Type 0) (G : A → Type 0) →
    (b ≡ true → Sound A r F G) → (b ≡ false → Sound A s F G) → Sound A (cond b r s) F G
either_way true r s F G yes_way no_way = yes_way refl
either_way false r s F G yes_way no_way = no_way refl

-- a fault of the part from a to b: the file ends before b, or it stands at a byte of the part that is there
abbrev pub Located : List ℕ → ℕ → ℕ → Refusal → Type 0
Located file a b f = ((f ≡ Length Offers (length file)) × (length file < b)) ⊎ ((a ≤ place f) × (place f < b) × (place f < length file))

-- what is in a part comes before what is in the next
pub before : (file : List ℕ) (a b c : ℕ) (e f : Refusal) → Located file a b e → Located file b c f → Precedes e f
before file a b c e f p q =
    ⊎_elim
    (λ (x : (e ≡ Length Offers (length file)) × (length file < b)).
    let pe : place e ≡ length file = ap place x.0 in
    let ne : number e ≡ 1 = ap number x.0 in
    ⊎_elim
    (λ (y : (f ≡ Length Offers (length file)) × (length file < c)).
    let pf : place f ≡ length file = ap place y.0 in
    let nf : number f ≡ 1 = ap number y.0 in
    inr (pe ∙ sym pf, omega arith))
    (λ (y : (b ≤ place f) × (place f < c) × (place f < length file)). absurd (omega (arith, x.1, y.0, y.2)))
    q)
    (λ (x : (a ≤ place e) × (place e < b) × (place e < length file)).
    ⊎_elim
    (λ (y : (f ≡ Length Offers (length file)) × (length file < c)).
    let pf : place f ≡ length file = ap place y.0 in
    inl (omega (arith, x.2)))
    (λ (y : (b ≤ place f) × (place f < c) × (place f < length file)). inl (omega (arith, x.1, y.0)))
    q)
    p

-- one part, then the next
module _ {A B : Type 0} (file : List ℕ) (a b c : ℕ) (FA FB : Refusal → Type 0) (GA : A → Type 0) (GB : A → B → Type 0)
    (at_a : (f : Refusal) → FA f → Located file a b f) (at_b : (f : Refusal) → FB f → Located file b c f) (rb : A → Result B Refusal)
    (next : (x : A) → GA x → Sound B (rb x) FB (GB x)) where
  -- both parts are good
  abbrev pub BothGood : B → Type 0
  BothGood y = (x : A) × GA x × GB x y

  -- a fault of one part or of the other
  abbrev pub EitherFault : Refusal → Type 0
  EitherFault f = FA f ⊎ FB f

  -- two parts in a row
  pub in_turn : (ra : Result A Refusal) → Sound A ra FA GA → Sound B (and_then ra rb) EitherFault BothGood
  in_turn (Ok x) s =
      let g = s.ok_good x refl in
      let t = next x g in
      record {
        ok_good = λ y h. (x, g, t.ok_good y h);
        good_ok = λ y h. let e = same x h.0 (s.good_ok h.0 h.1) in t.good_ok y (rw (sym e) at h.2);
        err_first = λ e h.
            let u = t.err_first e h in
            (inr u.0, λ f d. ⊎_elim (λ (k : FA f). absurd (s.faultless x g f k)) (λ (k : FB f). u.1 f k) d);
        faultless = λ y h f d.
            let e = same x h.0 (s.good_ok h.0 h.1) in
            ⊎_elim (λ (k : FA f). s.faultless x g f k) (λ (k : FB f). t.faultless y (rw (sym e) at h.2) f k) d;
      }
    where
      same : (x z : A) → ◌≡◌ {A = Result A Refusal} (Ok x) (Ok z) → x ≡ z
      same x z h = cc
  in_turn (Err d) s =
      let u = s.err_first d refl in
      record {
        ok_good = λ y h. absurd (no_answer d y h);
        good_ok = λ y h. absurd (no_answer d h.0 (s.good_ok h.0 h.1));
        err_first = λ e h.
            let q : e ≡ d = cc in (
              inl (rw q u.0),
              λ f k. rw q (⊎_elim (λ (m : FA f). u.1 f m) (λ (m : FB f). before file a b c d f (at_a d u.0) (at_b f m)) k),
            );
        faultless = λ y h f k. no_answer d h.0 (s.good_ok h.0 h.1);
      }
