-- The theorems on paths at two small matroids on three elements.
use Rattle.std.proofs.Common.{◌≡◌, ℕ, zero, suc, ◌+◌, ◌-◌, ◌<◌, ◌≤◌, true, false, sym, refl, ap, subst, subst₂, arith}
use mathlib.Core.Path.{fun_ext}
use Rattle.std.proofs.lemmas.Bool.{both_ways, eqb-true}
use Rattle.sets.specs.Matroid.{without, with, none}
use Rattle.matroid.specs.Examples.{left, right, price, middle, outer}
use Rattle.matroid.proofs.SmallMatroids.{small_matroids, small_heaviest}
use Rattle.matroid.proofs.TightExchanges.{many_exchanges_by_keys_and_one}
use Rattle.exchange.specs.Round.{top, State, no_worse, Labels, End, lost, behind}
use Rattle.exchange.specs.Paths.{Route, Augmenting, BestPath, Leading}
use Rattle.exchange.specs.Predecessors.{twice, comes, goes, Predecessors}
use Rattle.exchange.specs.Examples.{costs, steps, earlier, SmallLabelled, coming, going, SmallPath, SmallDual}
use Rattle.exchange.proofs.BestPaths.{best_augments, best_among_all}
use Rattle.exchange.proofs.DualSets.{dual_by_closed, leading_closed}
use Rattle.exchange.proofs.LabelPaths.{labels_best}

-- what holds at 0, 1 and 2 holds below 3
pub below_three : (P : ℕ → Type 0) → P 0 → P 1 → P 2 → (x : ℕ) → x < 3 → P x
below_three P a b c zero h = a
below_three P a b c (suc zero) h = b
below_three P a b c (suc (suc zero)) h = c
below_three P a b c (suc (suc (suc x))) h = absurd (omega arith)

-- what is in the middle is 1
pub is_one : (P : ℕ → Type 0) → P 1 → (y : ℕ) → middle y ≡ true → P y
is_one P p y h = subst P (sym (eqb-true y 1 h)) p

-- the weights are small
pub light : (x : ℕ) → x < 3 → price x ≤ top
light x h = below_three (λ v. price v ≤ top) (omega arith) (omega arith) (omega arith) x h

-- a state of the set of 1
small_state : State 3 left right price (λ x. 0) 999995 middle
small_state = record {
  first = refl;
  second = refl;
  first_best = λ y x hy hx held out arc. omega arith;
  second_best = λ y x hy hx held out arc. is_one (λ v. price x + 0 ≤ price v + 0)
      (below_three (λ v. price v + 0 ≤ 5 + 0) (omega arith) (omega arith) (omega arith) x hx) y held;
  sources = λ x h out source. refl;
  sinks = λ x h out sink. below_three (λ v. price v + 999995 ≤ top + 0) (omega arith) (omega arith) (omega arith) x h;
  small = λ x h. omega arith;
}

-- its labels
small_labels : Labels 3 left right price (λ x. 0) middle (λ x. true) costs steps earlier
small_labels = record {
  start = λ x h. below_three (λ v. middle v ≡ false → left (with middle v) ≡ true → (true ≡ true) × (costs v ≡ 0) × (steps v ≡ 1))
      (λ out source. absurd (both_ways false refl source)) (λ out source. absurd (both_ways true out refl)) (λ out source. (refl, refl, refl)) x h;
  out = λ x y hx hy out held r arc. is_one (λ v. (true ≡ true) × (no_worse (costs v + (price x + 0)) (steps v) (costs x + (price v + 0)) (steps x + 1) ≡ true))
      (below_three (λ u. middle u ≡ false → (true ≡ true) × (no_worse (1 + (price u + 0)) 2 (costs u + 5) (steps u + 1) ≡ true))
      (λ o. (refl, refl)) (λ o. absurd (both_ways true o refl)) (λ o. (refl, refl)) x hx out) y held;
  into = λ y x hy hx held out r arc. is_one (λ v. (true ≡ true) × (no_worse (costs x + 0) (steps x) (costs v + 0) (steps v + 1) ≡ true))
      (below_three (λ u. middle u ≡ false → (true ≡ true) × (no_worse (costs u + 0) (steps u) 1 3 ≡ true))
      (λ o. (refl, refl)) (λ o. absurd (both_ways true o refl)) (λ o. (refl, refl)) x hx out) y held;
  from_second = λ y h held r. is_one (λ v. (earlier v < 3) × (middle (earlier v) ≡ false) × (true ≡ true) × (right (with (without middle v) (earlier v)) ≡ true) ×
      (costs v + (price (earlier v) + 0) ≡ costs (earlier v) + (price v + 0)) × (steps v ≡ steps (earlier v) + 1))
      (omega arith, refl, refl, refl, refl, refl) y held;
  from_first = λ x h. below_three (λ v. middle v ≡ false → true ≡ true → 1 < steps v →
      (earlier v < 3) × (middle (earlier v) ≡ true) × (true ≡ true) × (left (with (without middle (earlier v)) v) ≡ true) ×
      (costs v + 0 ≡ costs (earlier v) + 0) × (steps v ≡ steps (earlier v) + 1))
      (λ o r m. (omega arith, refl, refl, refl, refl, refl)) (λ o. absurd (both_ways true o refl)) (λ o r m. absurd (omega arith)) x h;
  from_start = λ x h. below_three (λ v. middle v ≡ false → true ≡ true → steps v ≤ 1 → (left (with middle v) ≡ true) × (costs v ≡ 0))
      (λ o r m. absurd (omega arith)) (λ o. absurd (both_ways true o refl)) (λ o r m. (refl, refl)) x h;
}

-- the end that they choose
small_end : End 3 right price (λ x. 0) middle (λ x. true) costs steps 0
small_end = record {
  below = omega arith;
  fresh = refl;
  found = refl;
  fits = refl;
  least = λ x h. below_three (λ v. middle v ≡ false → true ≡ true → right (with middle v) ≡ true →
      no_worse (lost price (λ x. 0) costs 0) 3 (lost price (λ x. 0) costs v) (steps v) ≡ true)
      (λ o r s. refl) (λ o. absurd (both_ways true o refl)) (λ o r s. absurd (both_ways false refl s)) x h;
}

-- the labels give a path of one pair
small_chain : (m : ℕ) → Predecessors 3 left right price (λ x. 0) middle costs steps earlier 0 m → m ≡ 1
small_chain zero p = absurd (omega (arith, p.steps))
small_chain (suc zero) p = refl
small_chain (suc (suc m)) p = absurd (omega (arith, p.steps))

-- the path that they give
small_predecessors : Predecessors 3 left right price (λ x. 0) middle costs steps earlier 0 1
small_predecessors =
    let r = labels_best 3 left right price (λ x. 0) 999995 middle (λ x. true) costs steps earlier 0 light small_state small_labels small_end in
    subst (λ m. Predecessors 3 left right price (λ x. 0) middle costs steps earlier 0 m) (small_chain r.0 r.1) r.1

-- all of it
pub small_labelled : SmallLabelled
small_labelled = (small_state, small_labels, small_end, small_predecessors)

-- its elements, as they come and go
gone : (i : ℕ) → 1 - suc i ≡ 0
gone i = omega arith

-- what comes
small_coming : (i : ℕ) → comes earlier 0 1 i ≡ coming i
small_coming zero = refl
small_coming (suc i) = ap (λ j. behind earlier 0 (twice j)) (gone i)

-- what goes
small_going : (i : ℕ) → goes earlier 0 1 i ≡ going i
small_going i = ap (λ j. earlier (behind earlier 0 (twice j))) (gone i)

-- the path is a best one
small_best : BestPath 3 left right price middle 1 coming going
small_best = subst₂ (λ x y. BestPath 3 left right price middle 1 x y) (fun_ext small_coming) (fun_ext small_going) small_predecessors.best

-- and leads to a set that both allow
pub small_path : SmallPath
small_path = (
  small_best,
  best_augments many_exchanges_by_keys_and_one 3 left right price price (λ x. 0) middle 1 coming going small_matroids.0 small_matroids.1
      small_heaviest.0 small_best,
  (λ l u v path. (best_among_all 3 left right price price (λ x. 0) middle 1 coming going small_heaviest.0 small_best l u v path).0),
)

-- where 0 and 2 are chosen nothing can be added by the first matroid, nor by the second
small_no_path : (k : ℕ) (x y : ℕ → ℕ) → Augmenting 3 left right outer k x y → ⊥
small_no_path k x y path = never (x 0) (path.route.x_below 0 (omega arith)) (path.route.x_fresh 0 (omega arith)) path.source
  where
    never : (v : ℕ) → v < 3 → outer v ≡ false → left (with outer v) ≡ true → ⊥
    never v h = below_three (λ v. outer v ≡ false → left (with outer v) ≡ true → ⊥)
        (λ o. absurd (both_ways true o refl)) (λ o s. both_ways false refl s) (λ o. absurd (both_ways true o refl)) v h

-- nothing can be added by the second
small_no_sink : (v : ℕ) → v < 3 → outer v ≡ false → right (with outer v) ≡ true → ⊥
small_no_sink v h = below_three (λ v. outer v ≡ false → right (with outer v) ≡ true → ⊥)
    (λ o. absurd (both_ways true o refl)) (λ o s. both_ways false refl s) (λ o. absurd (both_ways true o refl)) v h

-- so nothing leads to a sink
small_leading : Leading 3 left right outer none
small_leading = record {
  outside_leads = λ z h out e. absurd (both_ways false refl e);
  inside_leads = λ z h held e. absurd (both_ways false refl e);
  all_outside = λ z h out way. absurd (stuck way.0 way.1 way.2 way.3);
  all_inside = λ z h held way. absurd (stuck way.0 way.1 way.2 way.3);
}
  where
    stuck : (k : ℕ) (x y : ℕ → ℕ) → Route 3 left right outer k x y → ⊥
    stuck k x y route = small_no_sink (x k) (route.x_below k (omega arith)) (route.x_fresh k (omega arith)) route.sink

-- and the empty set is a dual set
pub small_dual : SmallDual
small_dual =
    let closed = leading_closed 3 left right outer none small_no_path small_leading in
    (small_no_path, small_leading, closed, dual_by_closed 3 left right outer none small_matroids.0 small_matroids.1 refl refl closed)
