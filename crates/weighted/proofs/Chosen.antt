-- What the last round leaves: a largest set with its dual set, and a heaviest set for every size.
use Rattle.std.proofs.Common.{◌≡◌, ℕ, zero, suc, ◌+◌, ◌-◌, ◌*◌, ◌<◌, ◌≤◌, Bool, true, List, pos, sym, refl, ap, ◌∙◌, subst, mul_assoc, mul_comm, add-mul, mul-add, arith}
use borrow.Author.Differences.{up, down}
use Rattle.sets.specs.Matroid.{Set, size, weight, both, outside, none, with, Matroid}
use Rattle.sets.proofs.FiniteSets.{size_same, size_none}
use Rattle.sets.proofs.MatroidLaws.{allowed_same}
use Rattle.sets.proofs.Weights.{weight_none, weight_same}
use Rattle.matroid.specs.Optimal.{Dual}
use Rattle.matroid.proofs.Gains.{gains_never_rise}
use Rattle.matroid.proofs.Optimality.{largest, heaviest_signed, signed_is_split}
use Rattle.weighted.specs.Choice.{largest_set, dual_set, sized_set, first_part, second_part, weight_of_size, round_calls, Sized, Chosen}
use Rattle.weighted.proofs.Progress.{Kept}

-- a set with a splitting is a heaviest one of its size
pub sized_kept : {n : ℕ} {f g : Set → Bool} → Matroid n f → Matroid n g → (w : ℕ → ℕ) (sets numbers : List ℕ) (j : ℕ) →
    Kept n f g w sets numbers j → Sized n f g w sets numbers j
sized_kept {n} {f} {g} mf mg w sets numbers j k =
    record {
      sized = k.sized;
      split = k.split;
      heaviest = λ t ft gt c.
          heaviest_signed n f g w (first_part n numbers j) (second_part n numbers j) (sized_set n sets j) t mf mg k.split ft gt
          (c ∙ sym k.sized);
    }

-- a set of one less beside the set of size j + 1: the set of size j, or the empty set
record Less (n : ℕ) (f g : Set → Bool) (w : ℕ → ℕ) (sets : List ℕ) (j : ℕ) : Type 0 where
  r : Set
  first : f r ≡ true
  second : g r ≡ true
  sized : size n r ≡ j
  weighs : weight n w r ≡ weight_of_size n w sets j

less : {n : ℕ} {f g : Set → Bool} → Matroid n f → Matroid n g → (w : ℕ → ℕ) (sets numbers : List ℕ) (j : ℕ) →
    ((i : ℕ) → i < j → Kept n f g w sets numbers i) → Less n f g w sets j
less {n} mf mg w sets numbers zero h = record { r = none; first = mf.empty; second = mg.empty; sized = size_none n; weighs = weight_none n w }
less {n} mf mg w sets numbers (suc i) h =
    let k = h i (omega arith) in
    record { r = sized_set n sets i; first = k.split.first; second = k.split.second; sized = k.sized; weighs = refl }

-- from size to size no more is gained than before
gains : {n : ℕ} {f g : Set → Bool} → Matroid n f → Matroid n g → (w : ℕ → ℕ) (sets numbers : List ℕ) (j : ℕ) →
    ((i : ℕ) → i ≤ suc j → Kept n f g w sets numbers i) →
    weight_of_size n w sets (suc (suc j)) + weight_of_size n w sets j ≤ weight_of_size n w sets (suc j) + weight_of_size n w sets (suc j)
gains {n} {f} {g} mf mg w sets numbers j h =
    let t = h (suc j) (omega arith) in
    let s = h j (omega arith) in
    let r = less mf mg w sets numbers j (λ i l. h i (omega arith)) in
    let p = first_part n numbers j in
    let q = second_part n numbers j in
    let d = signed_is_split n f g w p q (sized_set n sets j) s.split in
    let l = d.0 in
    let e = gains_never_rise n f g w (λ x. up (p x) + (l - down (p x))) (λ x. up (q x) + (l - down (q x))) r.r (sized_set n sets j) (sized_set n sets (suc j))
    mf mg d.1 r.first r.second t.split.first t.split.second (t.sized ∙ ap suc (sym s.sized)) (s.sized ∙ ap suc (sym r.sized)) in
    rw r.weighs at e

-- a dual set of a set and of one that agrees with it below n
dual_along : {n : ℕ} {f g : Set → Bool} → Matroid n f → Matroid n g → (s t u v : Set) → ((x : ℕ) → x < n → t x ≡ s x) →
    ((x : ℕ) → x < n → v x ≡ u x) → Dual n f g s u → Dual n f g t v
dual_along mf mg s t u v e d h =
    record {
      first = allowed_same mf t s e ∙ h.first;
      second = allowed_same mg t s e ∙ h.second;
      full_in = λ x l i o.
          allowed_same mf (with (both t v) x) (with (both s u) x) (λ z b. let p = e z b in let q = d z b in cc) ∙
          h.full_in x l (sym (d x l) ∙ i) (sym (e x l) ∙ o);
      full_out = λ x l i o.
          allowed_same mg (with (outside t v) x) (with (outside s u) x) (λ z b. let p = e z b in let q = d z b in cc) ∙
          h.full_out x l (sym (d x l) ∙ i) (sym (e x l) ∙ o);
    }

-- the whole choice, once the largest set and its dual set are written too
pub chosen : {n : ℕ} {f g : Set → Bool} → Matroid n f → Matroid n g → (w : ℕ → ℕ) (s u : Set) (sets numbers : List ℕ) (k : ℕ) →
    size n s ≡ k → Dual n f g s u → ((x : ℕ) → x < n → largest_set sets x ≡ s x) → ((x : ℕ) → x < n → dual_set n sets x ≡ u x) →
    ((j : ℕ) → j < k → Kept n f g w sets numbers j) → Chosen n f g w sets numbers k
chosen {n} {f} {g} mf mg w s u sets numbers k c d es eu each =
    record {
      counted = size_same n (largest_set sets) s es ∙ c;
      dual = dual_along mf mg s (largest_set sets) u (dual_set n sets) es eu d;
      largest = λ t ft gt. rw c at (largest n f g s u t mf mg d ft gt);
      each = λ j l. sized_kept mf mg w sets numbers j (each j l);
      gains = λ j l. gains mf mg w sets numbers j (λ i b. each i (omega arith));
    }

-- what the sets of each size weigh, by weights that agree below n
weights_alike : (n : ℕ) (w w' : ℕ → ℕ) (sets : List ℕ) (j : ℕ) → ((x : ℕ) → x < n → w' x ≡ w x) →
    weight_of_size n w' sets j ≡ weight_of_size n w sets j
weights_alike n w w' sets zero e = refl
weights_alike n w w' sets (suc j) e = weight_same n w' w (sized_set n sets j) (sized_set n sets j) e (λ x l. refl)

-- a choice for weights that agree below n
pub chosen_alike : (n : ℕ) (f g : Set → Bool) (w w' : ℕ → ℕ) (sets numbers : List ℕ) (k : ℕ) → ((x : ℕ) → x < n → w' x ≡ w x) →
    Chosen n f g w sets numbers k → Chosen n f g w' sets numbers k
chosen_alike n f g w w' sets numbers k e h =
    record {
      counted = h.counted;
      dual = h.dual;
      largest = h.largest;
      each = λ j l.
          let s = h.each j l in
          record {
            sized = s.sized;
            split =
                record {
                  first = s.split.first;
                  second = s.split.second;
                  parts = λ x b. s.split.parts x b ∙ ap pos (sym (e x b));
                  add_first = s.split.add_first;
                  exchange_first = s.split.exchange_first;
                  add_second = s.split.add_second;
                  exchange_second = s.split.exchange_second;
                };
            heaviest = λ t ft gt c.
                rw (weight_same n w' w t t e (λ x b. refl), weight_same n w' w (sized_set n sets j) (sized_set n sets j) e (λ x b. refl))
                (s.heaviest t ft gt c);
          };
      gains = λ j l.
          rw (weights_alike n w w' sets (suc (suc j)) e, weights_alike n w w' sets j e, weights_alike n w w' sets (suc j) e) (h.gains j l);
    }

-- twice a part of n times the rest is at most n times n
twice : (k m : ℕ) → 2 * k * m ≤ (k + m) * (k + m)
twice k m =
    let e : (k + m) * (k + m) ≡ k * (k + m) + m * (k + m) = add-mul k m (k + m) in
    let f : k * (k + m) ≡ k * k + k * m = mul-add k k m in
    let g : m * (k + m) ≡ m * k + m * m = mul-add m k m in
    let h : m * k ≡ k * m = mul_comm m k in
    let i : 2 * k * m ≡ 2 * (k * m) = mul_assoc 2 k m in
    omega arith

-- a round of a set of k offers asks no more than n times n
pub few_calls : (n k : ℕ) → k ≤ n → round_calls n k ≤ n * n
few_calls n k l =
    let e : k + (n - k) ≡ n = omega arith in
    subst (λ (z : ℕ). round_calls n k ≤ z * z) e (twice k (n - k))
