-- The theorems at two small matroids on three elements.
use Rattle.std.proofs.Common.{◌≡◌, ℕ, zero, suc, ◌<◌, ◌≤◌, true, false, not, ◌&&◌, eqb, pos, ◌+ℤ◌, ◌≤ℤ◌, sym, refl, subst, ⊎_elim, arith}
use Rattle.std.proofs.lemmas.Int.{ints}
use Rattle.sets.specs.Matroid.{Set, size, without, with, none, Matroid}
use Rattle.sets.specs.Closure.{Closure}
use Rattle.sets.proofs.FiniteSets.{look_up}
use Rattle.sets.proofs.MatroidLaws.{matroid}
use Rattle.sets.proofs.ClosureTheorem.{closure_matroid}
use Rattle.matroid.specs.Optimal.{Dual, Split, SignedSplit}
use Rattle.matroid.specs.Exchanges.{Tight}
use Rattle.matroid.specs.Examples.{left, right, price, middle, outer, lower, SmallMatroids, SmallLargest, SmallHeaviest, plus, minus, SmallSigned, level, SmallExchange, SmallGains, any, SmallClosure}
use Rattle.matroid.proofs.Optimality.{largest, heaviest, heaviest_signed, exchanges_suffice}
use Rattle.matroid.proofs.TightExchanges.{tight_exchanges_and_one}
use Rattle.matroid.proofs.Gains.{gains_never_rise}

-- what holds at 0, 1 and 2 holds below 3
pub below_three : (P : ℕ → Type 0) → P 0 → P 1 → P 2 → (x : ℕ) → x < 3 → P x
below_three P a b c zero h = a
below_three P a b c (suc zero) h = b
below_three P a b c (suc (suc zero)) h = c
below_three P a b c (suc (suc (suc x))) h = absurd (omega arith)

-- the two tests have the laws of a matroid
pub left_matroid : Matroid 3 left
left_matroid =
    matroid 3 left refl
    (λ s t h e. let a : s 0 ≡ true → t 0 ≡ true = h 0 (omega arith) in let b : s 1 ≡ true → t 1 ≡ true = h 1 (omega arith) in grind arith)
    (λ s t d e h. ⊎_elim
    (λ f. (f.0, f.1, grind arith, grind arith, grind arith))
    (λ all. absurd (never s t d e h (all 0 (omega arith)) (all 1 (omega arith)) (all 2 (omega arith))))
    (look_up 3 (λ x. t x && not (s x) && left (with s x))))
  where
    never : (s t : Set) → left s ≡ true → left t ≡ true → size 3 s < size 3 t → (t 0 && not (s 0) && left (with s 0)) ≡ false →
        (t 1 && not (s 1) && left (with s 1)) ≡ false → (t 2 && not (s 2) && left (with s 2)) ≡ false → ⊥
    never s t d e h a b c = grind arith

right_matroid : Matroid 3 right
right_matroid =
    matroid 3 right refl
    (λ s t h e. let a : s 1 ≡ true → t 1 ≡ true = h 1 (omega arith) in let b : s 2 ≡ true → t 2 ≡ true = h 2 (omega arith) in grind arith)
    (λ s t d e h. ⊎_elim
    (λ f. (f.0, f.1, grind arith, grind arith, grind arith))
    (λ all. absurd (never s t d e h (all 0 (omega arith)) (all 1 (omega arith)) (all 2 (omega arith))))
    (look_up 3 (λ x. t x && not (s x) && right (with s x))))
  where
    never : (s t : Set) → right s ≡ true → right t ≡ true → size 3 s < size 3 t → (t 0 && not (s 0) && right (with s 0)) ≡ false →
        (t 1 && not (s 1) && right (with s 1)) ≡ false → (t 2 && not (s 2) && right (with s 2)) ≡ false → ⊥
    never s t d e h a b c = grind arith

pub small_matroids : SmallMatroids
small_matroids = (left_matroid, right_matroid)

-- the dual set, and what it shows
small_dual : Dual 3 left right outer lower
small_dual =
    record {
      first = refl;
      second = refl;
      full_in = λ x h. below_three (λ v. lower v ≡ true → outer v ≡ false → left (with (λ u. outer u && lower u) v) ≡ false) (grind arith) (λ a b. refl) (grind arith) x h;
      full_out = λ x h. below_three (λ v. lower v ≡ false → outer v ≡ false → right (with (λ u. outer u && not (lower u)) v) ≡ false) (grind arith) (grind arith) (grind arith) x h;
    }

pub small_largest : SmallLargest
small_largest = (small_dual, λ t e d. largest 3 left right outer lower t left_matroid right_matroid small_dual e d)

-- the splitting, and what it shows
small_split : Split 3 left right price price (λ x. 0) middle
small_split =
    record {
      first = refl;
      second = refl;
      lift = 0;
      parts = λ x h. omega arith;
      best_first = λ y x p q e d o. heavy y e x q;
      best_second = λ y x p q e d o. omega arith;
    }
  where
    heavy : (y : ℕ) → eqb y 1 ≡ true → (x : ℕ) → x < 3 → price x ≤ price y
    heavy y e x h = let k : 1 ≡ y = grind arith in subst (λ v. price x ≤ price v) k (below_three (λ v. price v ≤ 5) (omega arith) (omega arith) (omega arith) x h)

pub small_heaviest : SmallHeaviest
small_heaviest = (small_split, λ t e d h. heaviest 3 left right price price (λ x. 0) middle t left_matroid right_matroid small_split e d h)

pub small_gains : SmallGains
small_gains t e d h = gains_never_rise 3 left right price price (λ x. 0) none middle t left_matroid right_matroid small_split refl refl e d h refl

-- two numbers that are looked at below 3
below_three_two : (P : ℕ → ℕ → Type 0) → ((x : ℕ) → x < 3 → P 0 x) → ((x : ℕ) → x < 3 → P 1 x) → ((x : ℕ) → x < 3 → P 2 x) →
    (y x : ℕ) → y < 3 → x < 3 → P y x
below_three_two P a b c y x p q = below_three (λ v. P v x) (a x q) (b x q) (c x q) y p

-- the numbers of either sign, and what they show
small_signed_split : SignedSplit 3 left right price plus minus outer
small_signed_split =
    exchanges_suffice 3 left right price plus minus outer left_matroid right_matroid refl refl
    (below_three (λ x. plus x +ℤ minus x ≡ pos (price x)) refl refl refl)
    (below_three_two
    (λ y x. outer y ≡ true → outer x ≡ false → left (with (without outer y) x) ≡ true → plus x ≤ℤ plus y)
    (below_three _ (grind arith) (λ e d o. omega (arith, ints)) (grind arith))
    (below_three _ (grind arith) (grind arith) (grind arith))
    (below_three _ (grind arith) (grind arith) (grind arith)))
    (below_three_two
    (λ y x. outer y ≡ true → outer x ≡ false → right (with (without outer y) x) ≡ true → minus x ≤ℤ minus y)
    (below_three _ (grind arith) (grind arith) (grind arith))
    (below_three _ (grind arith) (grind arith) (grind arith))
    (below_three _ (grind arith) (λ e d o. omega (arith, ints)) (grind arith)))

pub small_signed : SmallSigned
small_signed = (small_signed_split, λ t e d h. heaviest_signed 3 left right price plus minus outer t left_matroid right_matroid small_signed_split e d h)

-- the tight exchange, and what it makes
pub small_tight : Tight 3 left level middle (λ i. 1) (λ i. 0) 1 (λ i. i)
small_tight =
    record {
      pairs = record { allowed = refl; full = λ i p. refl; single = λ i p. refl };
      best = λ y x p q e d o. let k : y ≡ 1 = grind arith in subst (λ v. level x ≤ level v) (sym k) (below_three (λ v. level v ≤ 3) (omega arith) (omega arith) (omega arith) x q);
      equal = λ i p. refl;
      ties = λ i j p q k e o. absurd (k (omega arith));
    }

pub small_exchange : SmallExchange
small_exchange = (
  small_tight,
  tight_exchanges_and_one 3 left level middle 2 (λ i. 1) (λ i. 0) 1 (λ i. i) left_matroid small_tight (omega arith) refl refl
      (below_three (λ v. middle v ≡ false → left (with middle v) ≡ true → level v ≤ 0) (grind arith) (grind arith) (λ e d. omega arith)),
)

-- the closure, and its matroid
small_any : Closure 3 any
small_any =
    record {
      extends = λ s. below_three (λ x. s x ≡ true → any s x ≡ true) (λ e. grind arith) (λ e. grind arith) (λ e. grind arith);
      transitive = λ s t h y p e.
          let a : t 0 ≡ true → any s 0 ≡ true = h 0 (omega arith) in
          let b : t 1 ≡ true → any s 1 ≡ true = h 1 (omega arith) in
          let c : t 2 ≡ true → any s 2 ≡ true = h 2 (omega arith) in
          grind arith;
      exchange = λ s x y p q d e. below_three (λ v. any (with s v) x ≡ true) (grind arith) (grind arith) (grind arith) y q;
    }

pub small_closure : SmallClosure
small_closure = (small_any, closure_matroid 3 any small_any, refl, refl)
