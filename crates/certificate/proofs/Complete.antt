-- What is written from a choice is a valid certificate.
use Rattle.std.proofs.Common.{◌≡◌, ℕ, zero, suc, ◌+◌, ◌-◌, ◌*◌, ◌<◌, ◌≤◌, Bool, false, ◌&&◌, List, get_or, sym, ap, ◌∙◌, arith, w64, to_z}
use Rattle.std.proofs.lemmas.Bool.{lt-ltb, le-ltb}
use Rattle.sets.specs.Bits.{row, row_bytes, le8}
use Rattle.sets.specs.Matroid.{Set, size, both, outside, with, Matroid}
use Rattle.sets.proofs.FiniteSets.{size_same}
use Rattle.sets.proofs.MatroidLaws.{allowed_same}
use Rattle.matroid.specs.Optimal.{Dual, SignedSplit}
use Rattle.weighted.specs.Choice.{Chosen}
use Rattle.weighted.specs.Choice as choice
use Rattle.weighted.proofs.Written.{signed_along}
use Rattle.certificate.specs.Layout.{row_at, largest_set, dual_set, sized_set, count, numbers_at, part, first_part, second_part}
use Rattle.certificate.specs.Writing.{RowWritten, NumbersWritten, Written}
use Rattle.certificate.specs.Completeness.{ChoicesAreValid}
use Rattle.certificate.proofs.Rows.{row_apart}

-- a dual set of a set and of one that agrees with it below n
dual_alike : {n : ℕ} {f g : Set → Bool} → Matroid n f → Matroid n g → (s t u v : Set) → ((x : ℕ) → x < n → t x ≡ s x) →
    ((x : ℕ) → x < n → v x ≡ u x) → Dual n f g s u → Dual n f g t v
dual_alike mf mg s t u v e d h =
    record {
      first = allowed_same mf t s e ∙ h.first;
      second = allowed_same mg t s e ∙ h.second;
      full_in = λ x l i o.
          allowed_same mf (with (both t v) x) (with (both s u) x) (λ z b. let p = e z b in let q = d z b in cc) ∙
          h.full_in x l (sym (d x l) ∙ i) (sym (e x l) ∙ o);
      full_out = λ x l i o.
          allowed_same mg (with (outside t v) x) (with (outside s u) x) (λ z b. let p = e z b in let q = d z b in cc) ∙
          h.full_out x l (sym (d x l) ∙ i) (sym (e x l) ∙ o);
    }

-- a row that is written has the members of the row of sets, and no bit from n on
members_written : (n : ℕ) (sets sheet : List ℕ) (i at : ℕ) → at ≡ i * row_bytes n → RowWritten n sets sheet i →
    (x : ℕ) → x < n → row sheet (row_at n i) x ≡ row sets at x
members_written n sets sheet i at e w x l =
    let b : x < 8 * row_bytes n = omega arith in
    w x b ∙ ap (λ (v : Bool). v && row sets (i * row_bytes n) x) (lt-ltb x n l) ∙ ap (λ (z : ℕ). row sets z x) (sym e)

-- no bit from n on is set
beyond_written : (n : ℕ) (sets sheet : List ℕ) (i : ℕ) → RowWritten n sets sheet i →
    (j : ℕ) → n ≤ j → j < 8 * row_bytes n → row sheet (row_at n i) j ≡ false
beyond_written n sets sheet i w j h l = w j l ∙ ap (λ (v : Bool). v && row sets (i * row_bytes n) j) (le-ltb j n h)

-- the number that stands at a place, by equal places
number_at : (sheet numbers : List ℕ) (a b p q : ℕ) → a ≡ b → p ≡ q → le8 sheet a ≡ get_or numbers p 0 → to_z w64 (le8 sheet b) ≡ to_z w64 (get_or numbers q 0)
number_at sheet numbers a b p q e h t =
    ap (λ (z : ℕ). to_z w64 (le8 sheet z)) (sym e) ∙ ap (to_z w64) t ∙ ap (λ (z : ℕ). to_z w64 (get_or numbers z 0)) h

-- where the two numbers of an offer stand among all
place_of : (n j x : ℕ) → 2 * ((suc j + 1 - 2) * n) + 2 * x ≡ 2 * (j * n + x)
place_of n j x =
    let e : suc j + 1 - 2 ≡ j = omega arith in
    let d : (suc j + 1 - 2) * n ≡ j * n = ap (λ (v : ℕ). v * n) e in
    omega arith

-- the first number of each offer
first_written : (n : ℕ) (numbers sheet : List ℕ) (j : ℕ) → NumbersWritten n numbers sheet (suc j + 1) →
    (x : ℕ) → x < n → first_part n sheet (suc j) x ≡ choice.first_part n numbers j x
unfolding part
first_written n numbers sheet j w x l =
    number_at sheet numbers (numbers_at n (suc j) + 8 * (2 * x)) (numbers_at n (suc j) + 16 * x) (2 * ((suc j + 1 - 2) * n) + 2 * x) (2 * (j * n + x))
    (omega arith) (place_of n j x) (w (2 * x) (omega arith))

-- the second number of each offer
second_written : (n : ℕ) (numbers sheet : List ℕ) (j : ℕ) → NumbersWritten n numbers sheet (suc j + 1) →
    (x : ℕ) → x < n → second_part n sheet (suc j) x ≡ choice.second_part n numbers j x
unfolding part
second_written n numbers sheet j w x l =
    number_at sheet numbers (numbers_at n (suc j) + 8 * (2 * x + 1)) (numbers_at n (suc j) + 8 + 16 * x) (2 * ((suc j + 1 - 2) * n) + (2 * x + 1))
    (2 * (j * n + x) + 1) (omega arith) (let e = place_of n j x in omega arith) (w (2 * x + 1) (omega arith))

-- the set of one size agrees with the one of the choice
set_written : (n : ℕ) (sets sheet : List ℕ) (j : ℕ) → RowWritten n sets sheet (suc j + 1) →
    (x : ℕ) → x < n → sized_set n sheet (suc j) x ≡ choice.sized_set n sets j x
set_written n sets sheet j w =
    members_written n sets sheet (suc j + 1) ((j + 2) * row_bytes n) (ap (λ (v : ℕ). v * row_bytes n) (let e : j + 2 ≡ suc j + 1 = omega arith in e)) w

-- one size: its set has that size, and its numbers show that none is heavier
size_written : {n : ℕ} {f g : Set → Bool} → Matroid n f → Matroid n g → (w : ℕ → ℕ) (sets numbers sheet : List ℕ) (k j : ℕ) →
    Chosen n f g w sets numbers k → Written n sets numbers sheet (k + 2) → 1 ≤ j → j ≤ k →
    (size n (sized_set n sheet j) ≡ j) × SignedSplit n f g w (first_part n sheet j) (second_part n sheet j) (sized_set n sheet j)
size_written mf mg w sets numbers sheet k zero c v o l = absurd (let z : 1 ≤ 0 = o in omega arith)
size_written {n} mf mg w sets numbers sheet k (suc j) c v o l =
    let s = c.each j (omega arith) in
    let b = v.bits (suc j + 1) (omega arith) in
    let p = v.parts (suc j + 1) (omega arith) (omega arith) in
    let e = set_written n sets sheet j b in (
      size_same n (sized_set n sheet (suc j)) (choice.sized_set n sets j) e ∙ s.sized,
      signed_along mf mg w (choice.first_part n numbers j) (choice.second_part n numbers j) (first_part n sheet (suc j)) (second_part n sheet (suc j))
          (choice.sized_set n sets j) (sized_set n sheet (suc j)) e (first_written n numbers sheet j p) (second_written n numbers sheet j p) s.split,
    )

-- the whole certificate
pub choices_are_valid : ChoicesAreValid
choices_are_valid n f g w sets numbers sheet k mf mg c v long =
    let largest : (x : ℕ) → x < n → largest_set n sheet x ≡ choice.largest_set sets x =
    members_written n sets sheet 0 0 (omega arith) (v.bits 0 (omega arith)) in
    let dual : (x : ℕ) → x < n → dual_set n sheet x ≡ choice.dual_set n sets x =
    members_written n sets sheet 1 (row_bytes n) (omega arith) (v.bits 1 (omega arith)) in
    let counted : count n sheet ≡ k = size_same n (largest_set n sheet) (choice.largest_set sets) largest ∙ c.counted in (
      record {
        long = long ∙ ap (λ (z : ℕ). row_at n (z + 2)) (sym counted);
        clean = λ i l.
            record {
              whole = let a = row_apart n i (k + 2) (omega arith) in omega arith;
              clear = beyond_written n sets sheet i (v.bits i (omega arith));
            };
        dual = dual_alike mf mg (choice.largest_set sets) (largest_set n sheet) (choice.dual_set n sets) (dual_set n sheet) largest dual c.dual;
        sized = λ j o l. (size_written mf mg w sets numbers sheet k j c v o (omega arith)).0;
        split = λ j o l. (size_written mf mg w sets numbers sheet k j c v o (omega arith)).1;
      },
      counted,
    )
