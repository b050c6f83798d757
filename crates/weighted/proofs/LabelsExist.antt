-- Every state has complete labels: the least label is settled, again and again.
use Rattle.std.proofs.Common.{◌≡◌, ℕ, zero, suc, ◌+◌, ◌<◌, ◌≤◌, Bool, true, false, not, ◌&&◌, ◌||◌, eqb, refl, ⊎_elim, arith}
use Rattle.std.proofs.lemmas.Bool.{cases_eq, both_ways}
use Rattle.sets.specs.Matroid.{pick, Set, size, with, none, Within}
use Rattle.sets.proofs.FiniteSets.{least, look_up, size_with, part_as_large}
use Rattle.exchange.specs.Round.{no_worse}
use Rattle.exchange.specs.Graph.{arc, addable, cost, Cheapest, bettered, Least}
use Rattle.exchange.proofs.LeadingExists.{size_all}
use Rattle.exchange.proofs.Settling.{Going, complete, turn}
use Rattle.exchange.proofs.CheapestLabels.{labels_of_cheapest}
use Rattle.weighted.specs.Steps.{LabelsExist}

-- of elements that pass a test, one of least cost, and of these of fewest steps
pub least_label : (n : ℕ) (p : Set) (d k : ℕ → ℕ) (x : ℕ) → x < n → p x ≡ true → (m : ℕ) × Least n p d k m
least_label n p d k x h e =
    let r = least n p d x h e in
    let q = least n (λ v. p v && eqb (d v) (d r.0)) k r.0 r.1 (start (p r.0) (d r.0) r.2) in (
      q.0,
      (
        q.1,
        front (p q.0) (eqb (d q.0) (d r.0)) q.2,
        λ v l f. order (d q.0) (k q.0) (d v) (k v) (d r.0) (p v) (p q.0) q.2 (r.3 v l f) f (q.3 v l),
      ),
    )
  where
    start : (p : Bool) (d : ℕ) → p ≡ true → (p && eqb d d) ≡ true
    start p d h = grind arith

    front : (p q : Bool) → (p && q) ≡ true → p ≡ true
    front p q h = grind arith

    order : (dq kq dv kv dr : ℕ) (pv pq : Bool) → (pq && eqb dq dr) ≡ true → dr ≤ dv → pv ≡ true → ((pv && eqb dv dr) ≡ true → kq ≤ kv) →
        no_worse dq kq dv kv ≡ true
    order dq kq dv kv dr pv pq h l f more = ⊎_elim
        (λ (e : dv ≡ dr). let m : kq ≤ kv = more (grind arith) in grind arith)
        (λ (e : dv ≡ dr → ⊥). grind arith)
        (cases_eq dv dr)

module _ (n : ℕ) (to : ℕ → ℕ → Bool) (c : ℕ → ℕ → ℕ) (source : Set) where
  -- cheapest labels
  abbrev Found : Type 0
  Found = (reached : Set) × (d : ℕ → ℕ) × (k : ℕ → ℕ) × (back : ℕ → ℕ) × Cheapest n to c source reached d k back

  -- before the first turn only the sources are labelled
  begin : Going n to c source none source (λ v. 0) (λ v. 1) (λ v. 0)
  begin = record {
    start = λ x h e. (e, refl, refl);
    held = λ v h e. absurd (both_ways false refl e);
    step = λ v u hv hu e. absurd (both_ways false refl e);
    ahead = λ v u hv hu e. absurd (both_ways false refl e);
    along = λ v h e l. absurd (omega arith);
    begun = λ v h e l. (e, refl, omega arith);
  }

  -- the least of the labels that are not settled is settled
  next : (settled reached : Set) (d k back : ℕ → ℕ) (m : ℕ) → Going n to c source settled reached d k back →
      Least n (λ v. reached v && not (settled v)) d k m →
      Going n to c source (with settled m) (λ u. reached u || bettered to c (with settled m) reached d k m u)
      (λ u. pick (bettered to c (with settled m) reached d k m u) (d m + c m u) (d u))
      (λ u. pick (bettered to c (with settled m) reached d k m u) (k m + 1) (k u))
      (λ u. pick (bettered to c (with settled m) reached d k m u) m (back u))
  next settled reached d k back m going low = turn n to c source settled (with settled m) reached
      (λ u. reached u || bettered to c (with settled m) reached d k m u) d k back
      (λ u. pick (bettered to c (with settled m) reached d k m u) (d m + c m u) (d u))
      (λ u. pick (bettered to c (with settled m) reached d k m u) (k m + 1) (k u))
      (λ u. pick (bettered to c (with settled m) reached d k m u) m (back u)) m going
      low.0 (front (reached m) (settled m) low.1) (rear (reached m) (settled m) low.1)
      (λ v h r f. low.2 v h (joined (reached v) (settled v) r f))
      (λ v h. refl)
      (λ u h. record { marks = refl; costs = refl; steps = refl; backs = refl })
    where
      front : (p q : Bool) → (p && not q) ≡ true → p ≡ true
      front p q h = grind arith

      rear : (p q : Bool) → (p && not q) ≡ true → q ≡ false
      rear p q h = grind arith

      joined : (p q : Bool) → p ≡ true → q ≡ false → (p && not q) ≡ true
      joined p q h l = grind arith

  -- turn after turn until all are settled
  turns : (fuel : ℕ) (settled reached : Set) (d k back : ℕ → ℕ) → n ≤ size n settled + fuel → Going n to c source settled reached d k back → Found
  turns zero settled reached d k back h going =
      let all : Within n (λ v. true) settled = part_as_large n settled (λ v. true) (λ v l e. refl) (omega (arith, size_all n)) in
      (reached, d, k, back, complete n to c source settled reached d k back going (λ v l e. all v l refl))
  turns (suc fuel) settled reached d k back h going = ⊎_elim
      (λ found.
      let low = least_label n (λ v. reached v && not (settled v)) d k found.0 found.1 found.2 in
      turns fuel (with settled low.0) (λ u. reached u || bettered to c (with settled low.0) reached d k low.0 u)
      (λ u. pick (bettered to c (with settled low.0) reached d k low.0 u) (d low.0 + c low.0 u) (d u))
      (λ u. pick (bettered to c (with settled low.0) reached d k low.0 u) (k low.0 + 1) (k u))
      (λ u. pick (bettered to c (with settled low.0) reached d k low.0 u) low.0 (back u))
      (omega (arith, size_with n settled low.0 low.1.0 (rear (reached low.0) (settled low.0) low.1.1)))
      (next settled reached d k back low.0 going low.1))
      (λ never. (reached, d, k, back, complete n to c source settled reached d k back going (λ v l e. all (reached v) (settled v) (never v l) e)))
      (look_up n (λ v. reached v && not (settled v)))
    where
      rear : (p q : Bool) → (p && not q) ≡ true → q ≡ false
      rear p q h = grind arith

      all : (p q : Bool) → (p && not q) ≡ false → p ≡ true → q ≡ true
      all p q h l = grind arith

  -- any graph has cheapest labels
  cheapest : Found
  cheapest = turns n none source (λ v. 0) (λ v. 1) (λ v. 0) (omega arith) begin

-- every state has complete labels
pub labels_exist : LabelsExist
labels_exist n f g w a loss s state =
    let r = cheapest n (arc f g s) (cost s w a) (addable f s) in
    (r.0, r.1, r.2, r.3, labels_of_cheapest n f g w a loss s state r.0 r.1 r.2 r.3 r.4)
