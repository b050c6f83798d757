-- The theorems on exchanges at small matroids on three and four elements.
use Rattle.std.proofs.Common.{◌≡◌, ℕ, zero, suc, ◌<◌, ◌≤◌, Bool, true, false, not, ◌&&◌, eqb, ltb, leb, refl, ⊎_elim, arith}
use Rattle.std.proofs.lemmas.Bool.{and_parts, lt-ltb}
use Rattle.sets.specs.Matroid.{Set, size, without, with, Matroid}
use Rattle.sets.proofs.FiniteSets.{look_up, size_within}
use Rattle.sets.proofs.MatroidLaws.{matroid}
use Rattle.matroid.specs.Optimal.{Best}
use Rattle.matroid.specs.Exchanges.{Pairs}
use Rattle.matroid.specs.Examples.{left, middle, outer, lower, upper, level, SmallSteps, twins, goes, comes, SmallPairs}
use Rattle.matroid.proofs.OneMatroid.{extension, exchange, heaviest_by_one, as_good_as_best, best_of_one_more, carry}
use Rattle.matroid.proofs.TightExchanges.{many_exchanges}
use Rattle.matroid.proofs.SmallMatroids.{below_three, left_matroid, small_tight}

-- 1 and 2 are a best set by the levels: 1 is one, and 2 is all that can be added to it
upper_best : Best 3 left level upper
upper_best =
    best_of_one_more 3 left level middle 2 left_matroid small_tight.best
    (below_three (λ v. middle v ≡ false → left (with middle v) ≡ true → level v ≤ 0) (grind arith) (grind arith) (λ e d. omega arith))

-- each theorem once
pub small_steps : SmallSteps
small_steps = (
  (let r = extension 3 left middle outer left_matroid refl refl (omega arith) in (r.0, r.1, r.2, r.4)),
  exchange 3 left outer (λ x. eqb x 2) 1 left_matroid refl (λ x p e. grind arith) (omega arith) refl refl,
  (λ t e d. heaviest_by_one 3 left level upper t left_matroid refl e d upper_best),
  as_good_as_best 3 left level upper outer left_matroid refl refl refl refl upper_best,
  carry 3 left middle 0 1 2 left_matroid refl refl refl refl,
)

-- of two sets, one in the other, the smaller has the law if the larger has
twins_less : (a b c d : Bool) (k l : ℕ) → (a ≡ true → c ≡ true) → (b ≡ true → d ≡ true) → k ≤ l → (not (c && d) && leb l 2) ≡ true →
    (not (a && b) && leb k 2) ≡ true
twins_less a b c d k l h i j e = grind arith

-- a test that holds at both truth values holds at each
every : (Bool → Bool) → Bool
every p = p true && p false

every_at : (p : Bool → Bool) → every p ≡ true → (b : Bool) → p b ≡ true
unfolding every
every_at p h true = grind arith
every_at p h false = grind arith

-- the set of four elements with these truth values
abbrev table : Bool → Bool → Bool → Bool → Set
table a b c d zero = a
table a b c d (suc zero) = b
table a b c d (suc (suc zero)) = c
table a b c d (suc (suc (suc x))) = d

-- the smaller set takes no element from the larger one: this is never so
stuck : Set → Set → Bool
stuck s t =
    twins s && (twins t && (ltb (size 4 s) (size 4 t) && (takes 0 && (takes 1 && (takes 2 && takes 3)))))
  where
    takes : ℕ → Bool
    takes x = not (t x && not (s x) && twins (with s x))

never_stuck :
    every (λ a. every (λ b. every (λ c. every (λ d. every (λ e. every (λ f. every (λ g. every (λ h.
    not (stuck (table a b c d) (table e f g h))))))))))
    ≡ true
unfolding every stuck
never_stuck = refl

-- the same for any two sets, of which only the first four truth values count
never : (s t : Set) → twins s ≡ true → twins t ≡ true → size 4 s < size 4 t → (t 0 && not (s 0) && twins (with s 0)) ≡ false →
    (t 1 && not (s 1) && twins (with s 1)) ≡ false → (t 2 && not (s 2) && twins (with s 2)) ≡ false →
    (t 3 && not (s 3) && twins (with s 3)) ≡ false → ⊥
unfolding stuck
never s t d e h a b c k =
    let law =
    every_at _ (every_at _ (every_at _ (every_at _ (every_at _ (every_at _ (every_at _ (every_at _ never_stuck (s 0)) (s 1)) (s 2)) (s 3)) (t 0)) (t 1)) (t 2)) (t 3) in
    all_true (twins s) (twins t) (ltb (size 4 s) (size 4 t)) (t 0 && not (s 0) && twins (with s 0)) (t 1 && not (s 1) && twins (with s 1))
    (t 2 && not (s 2) && twins (with s 2)) (t 3 && not (s 3) && twins (with s 3)) law d e (lt-ltb (size 4 s) (size 4 t) h) a b c k
  where
    all_true : (a b c d e f g : Bool) → not (a && (b && (c && (not d && (not e && (not f && not g)))))) ≡ true → a ≡ true → b ≡ true → c ≡ true →
        d ≡ false → e ≡ false → f ≡ false → g ≡ false → ⊥
    all_true a b c d e f g h i j k l m o q = grind arith

-- the test on four elements is a matroid
twins_matroid : Matroid 4 twins
twins_matroid =
    matroid 4 twins refl
    (λ s t h e. twins_less (s 0) (s 2) (t 0) (t 2) (size 4 s) (size 4 t) (h 0 (omega arith)) (h 2 (omega arith)) (size_within 4 s t h) e)
    (λ s t d e h. ⊎_elim
    (λ f. let e = and_parts (t f.0 && not (s f.0)) (twins (with s f.0)) f.2 in (f.0, f.1, grind arith, grind arith, e.1))
    (λ all. absurd (never s t d e h (all 0 (omega arith)) (all 1 (omega arith)) (all 2 (omega arith)) (all 3 (omega arith))))
    (look_up 4 (λ x. t x && not (s x) && twins (with s x))))

-- the two pairs
two_pairs : Pairs 4 twins lower goes comes 2
two_pairs =
    record {
      allowed = refl;
      full = below_two (λ i. twins (with lower (comes i)) ≡ false) refl refl;
      single = below_two (λ i. twins (with (without lower (goes i)) (comes i)) ≡ true) refl refl;
    }
  where
    below_two : (P : ℕ → Type 0) → P 0 → P 1 → (i : ℕ) → i < 2 → P i
    below_two P a b zero h = a
    below_two P a b (suc zero) h = b
    below_two P a b (suc (suc i)) h = absurd (omega arith)

pub small_pairs : SmallPairs
small_pairs =
    let made = many_exchanges 4 twins lower goes comes 2 twins_matroid two_pairs later in
    (twins_matroid, two_pairs, refl, made.0, made.1)
  where
    later : (i j : ℕ) → i < j → j < 2 → twins (with (without lower (goes i)) (comes j)) ≡ false
    later zero zero h k = absurd (omega arith)
    later zero (suc j) h k = refl
    later (suc i) j h k = absurd (omega arith)
