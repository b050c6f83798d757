-- Both hypotheses on best paths are needed: examples on three elements.
use Rattle.std.proofs.Common.{◌≡◌, ℕ, zero, suc, ◌<◌, ◌≤◌, true, false, not, ◌&&◌, sym, refl, ap, ◌∙◌, ⊎_elim, arith}
use Rattle.std.proofs.lemmas.Bool.{both_ways, eqb-true}
use Rattle.sets.specs.Matroid.{Set, size, without, with, Matroid}
use Rattle.sets.proofs.FiniteSets.{look_up}
use Rattle.sets.proofs.MatroidLaws.{matroid}
use Rattle.matroid.specs.Examples.{left, middle}
use Rattle.matroid.proofs.SmallMatroids.{small_matroids}
use Rattle.exchange.specs.Paths.{total, Augmenting, Distinct, NoMore, AsMuch}
use Rattle.exchange.specs.Examples.{going, ends, rising, FewestNeeded, falling, SplittingNeeded}
use Rattle.exchange.proofs.SmallPaths.{below_three}

-- the third test is a matroid
ends_matroid : Matroid 3 ends
ends_matroid =
    matroid 3 ends refl
    (λ s t h e. let a : s 0 ≡ true → t 0 ≡ true = h 0 (omega arith) in let b : s 2 ≡ true → t 2 ≡ true = h 2 (omega arith) in grind arith)
    (λ s t d e h. ⊎_elim
    (λ f. (f.0, f.1, grind arith, grind arith, grind arith))
    (λ all. absurd (never s t d e h (all 0 (omega arith)) (all 1 (omega arith)) (all 2 (omega arith))))
    (look_up 3 (λ x. t x && not (s x) && ends (with s x))))
  where
    never : (s t : Set) → ends s ≡ true → ends t ≡ true → size 3 s < size 3 t → (t 0 && not (s 0) && ends (with s 0)) ≡ false →
        (t 1 && not (s 1) && ends (with s 1)) ≡ false → (t 2 && not (s 2) && ends (with s 2)) ≡ false → ⊥
    never s t d e h a b c = grind arith

-- the path, by places below 2 and below 1
by_two : (P : ℕ → Type 0) → P 0 → P 1 → (i : ℕ) → i ≤ 1 → P i
by_two P a b zero h = a
by_two P a b (suc zero) h = b
by_two P a b (suc (suc i)) h = absurd (omega arith)

-- .. and below 1
by_one : (P : ℕ → Type 0) → P 0 → (i : ℕ) → i < 1 → P i
by_one P a zero h = a
by_one P a (suc i) h = absurd (omega arith)

-- a path
small_rising : Augmenting 3 ends left middle 1 rising going
small_rising = record {
  source = refl;
  route = record {
    x_below = by_two (λ i. rising i < 3) (omega arith) (omega arith);
    x_fresh = by_two (λ i. middle (rising i) ≡ false) refl refl;
    y_below = λ i h. omega arith;
    y_held = λ i h. refl;
    by_second = by_one (λ i. left (with (without middle (going i)) (rising i)) ≡ true) refl;
    by_first = by_one (λ i. ends (with (without middle (going i)) (rising (suc i))) ≡ true) refl;
    sink = refl;
  };
}

-- .. of different elements
small_different : Distinct 1 rising going
small_different = record {
  comes_once = once;
  goes_once = λ i j h l e. omega arith;
}
  where
    once : (i j : ℕ) → i ≤ 1 → j ≤ 1 → rising i ≡ rising j → i ≡ j
    once zero zero h l e = refl
    once zero (suc j) h l e = absurd (omega arith)
    once (suc i) zero h l e = absurd (omega arith)
    once (suc i) (suc j) h l e = omega arith

-- without weights every path weighs the same
weightless : (x : ℕ → ℕ) (k : ℕ) → total (λ v. 0) x k ≡ 0
weightless x zero = refl
weightless x (suc k) = let r : total (λ v. 0) x k ≡ 0 = weightless x k in omega arith

-- so this one is of most weight, and leads to 0 and 2
pub fewest_needed : FewestNeeded
fewest_needed = (
  ends_matroid,
  small_matroids.0,
  record {
    first = refl;
    second = refl;
    lift = 0;
    parts = λ x h. refl;
    best_first = λ y x hy hx held out arc. omega arith;
    best_second = λ y x hy hx held out arc. omega arith;
  },
  small_rising,
  small_different,
  (λ l u v path once. omega (arith, weightless u (suc l), weightless going 1, weightless rising 2, weightless v l)),
  refl,
)

-- any path ends in 2, and there is only one element to go
ends_in_two : (l : ℕ) (u v : ℕ → ℕ) → Augmenting 3 ends left middle l u v → u l ≡ 2
ends_in_two l u v path = two (u l) (path.route.x_below l (omega arith)) (path.route.x_fresh l (omega arith)) path.route.sink
  where
    two : (z : ℕ) → z < 3 → middle z ≡ false → left (with middle z) ≡ true → z ≡ 2
    two z h = below_three (λ z. middle z ≡ false → left (with middle z) ≡ true → z ≡ 2)
        (λ o s. absurd (both_ways false refl s)) (λ o. absurd (both_ways true o refl)) (λ o s. refl) z h

-- .. and that is 1
goes_one : (l : ℕ) (u v : ℕ → ℕ) → Augmenting 3 ends left middle l u v → (i : ℕ) → i < l → v i ≡ 1
goes_one l u v path i h = eqb-true (v i) 1 (path.route.y_held i h)

-- no weight is above 2
light_two : (z : ℕ) → z < 3 → falling z ≤ 2
light_two z h = below_three (λ z. falling z ≤ 2) (omega arith) (omega arith) (omega arith) z h

-- so the path is a best one
small_best : (l : ℕ) (u v : ℕ → ℕ) → Augmenting 3 ends left middle l u v → Distinct l u v →
    NoMore falling l u v 1 rising going × (AsMuch falling l u v 1 rising going → 1 ≤ l)
small_best zero u v path once =
    let e : falling (u 0) ≡ 0 = ap falling (ends_in_two 0 u v path) in
    (omega arith, λ same. absurd (omega arith))
small_best (suc zero) u v path once =
    let e : falling (u 1) ≡ 0 = ap falling (ends_in_two 1 u v path) in
    let o : falling (v 0) ≡ 1 = ap falling (goes_one 1 u v path 0 (omega arith)) in
    let l : falling (u 0) ≤ 2 = light_two (u 0) (path.route.x_below 0 (omega arith)) in
    (omega arith, λ same. omega arith)
small_best (suc (suc l)) u v path once =
    absurd (omega (
      arith,
      once.goes_once 0 1 (omega arith) (omega arith)
          (goes_one (suc (suc l)) u v path 0 (omega arith) ∙ sym (goes_one (suc (suc l)) u v path 1 (omega arith))),
    ))

-- .. and leads to 0 and 2
pub splitting_needed : SplittingNeeded
splitting_needed = (
  ends_matroid,
  small_matroids.0,
  record { path = small_rising; most = λ l u v path once. (small_best l u v path once).0; fewest = λ l u v path once. (small_best l u v path once).1 },
  refl,
)
