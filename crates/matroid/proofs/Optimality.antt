-- Two matroids: a dual set shows a largest set, a weight splitting shows a heaviest set of its size.
use Rattle.std.proofs.Common.{◌≡◌, ℕ, ◌+◌, ◌-◌, ◌*◌, ◌<◌, ◌≤◌, max, Bool, true, false, not, ◌&&◌, ℤ, pos, ◌+ℤ◌, ◌≤ℤ◌, sym, refl, ap, ◌∙◌, ⊎_elim, arith}
use borrow.Author.Differences.{up, down}
use Rattle.std.proofs.lemmas.Int.{ints}
use Rattle.std.proofs.lemmas.Bool.{cases_lt, both_ways}
use Rattle.sets.specs.Matroid.{Set, size, weight, both, outside, without, with, Matroid}
use Rattle.sets.proofs.FiniteSets.{size_parts}
use Rattle.sets.proofs.Weights.{weight_same, weight_sum, weight_constant, highest}
use Rattle.sets.proofs.MatroidLaws.{allowed_within, augment}
use Rattle.matroid.specs.Optimal.{Largest, Split, Heaviest, SignedSplit, HeaviestSigned, ExchangesSuffice}
use Rattle.matroid.proofs.OneMatroid.{heaviest_by_one}

-- a part of an allowed set to which no element of a test can be added is no smaller than another set's part by that test
full_part : (n : ℕ) (f : Set → Bool) (s t u : Set) → Matroid n f → f s ≡ true → f t ≡ true →
    ((x : ℕ) → x < n → u x ≡ true → s x ≡ false → f (with (both s u) x) ≡ false) → size n (both t u) ≤ size n (both s u)
full_part n f s t u m e d full = ⊎_elim (λ p. absurd (never p)) (λ p. p) (cases_lt (size n (both s u)) (size n (both t u)))
  where
    never : size n (both s u) < size n (both t u) → ⊥
    never p =
        let x =
        augment m (both s u) (both t u) (allowed_within m (both s u) s (λ v q i. grind arith) e)
        (allowed_within m (both t u) t (λ v q i. grind arith) d) p in
        both_ways (f (with (both s u) x.0)) (full x.0 x.1 (grind arith) (new (s x.0) (t x.0) (u x.0) x.2 x.3)) x.4
      where
        new : (a b c : Bool) → (b && c) ≡ true → (a && c) ≡ false → a ≡ false
        new a b c i j = grind arith

-- a set with a dual set is a largest one that both allow
pub largest : Largest
largest n f g s u t m k d e h =
    let p : size n (both t u) ≤ size n (both s u) = full_part n f s t u m d.first e d.full_in in
    let q : size n (outside t u) ≤ size n (outside s u) =
    full_part n g s t (λ v. not (u v)) k d.second h (λ x o i j. d.full_out x o (grind arith) j) in
    omega (arith, size_parts n s u, size_parts n t u)

-- by numbers that split the weights over a lift, the weights of a set add up to its weight and the lift for each element
pub split_sum : (n : ℕ) (w a b : ℕ → ℕ) (lift : ℕ) (s : Set) → ((x : ℕ) → x < n → a x + b x ≡ w x + lift) →
    weight n a s + weight n b s ≡ weight n w s + lift * size n s
split_sum n w a b lift s h =
    sym (weight_sum n a b s) ∙
    (weight_same n (λ x. a x + b x) (λ x. w x + lift) s s h (λ x p. refl) ∙
    (weight_sum n w (λ x. lift) s ∙ (let c : weight n (λ x. lift) s ≡ lift * size n s = weight_constant n lift s in omega arith)))

-- a set with a weight splitting is a heaviest one of its size
pub heaviest : Heaviest
heaviest n f g w a b s t m k d e h same =
    let p : weight n a t ≤ weight n a s = heaviest_by_one n f a s t m d.first e same d.best_first in
    let q : weight n b t ≤ weight n b s = heaviest_by_one n g b s t k d.second h same d.best_second in
    let lifted : d.lift * size n t ≡ d.lift * size n s = ap (λ k. d.lift * k) same in
    omega (arith, split_sum n w a b d.lift s d.parts, split_sum n w a b d.lift t d.parts)

-- what is not above stays not above when it is lifted
lifted_le : (l : ℕ) (p q : ℤ) → down p ≤ l → down q ≤ l → p ≤ℤ q → up p + (l - down p) ≤ up q + (l - down q)
lifted_le l p q i j h = omega (arith, ints)

-- two numbers that add up to a weight add up to it and both lifts
lifted_parts : (l w : ℕ) (p q : ℤ) → down p ≤ l → down q ≤ l → p +ℤ q ≡ pos w → (up p + (l - down p)) + (up q + (l - down q)) ≡ w + (l + l)
lifted_parts l w p q h k e = omega (arith, ints)

-- a signed splitting is a splitting over a lift
pub signed_is_split : (n : ℕ) (f g : Set → Bool) (w : ℕ → ℕ) (p q : ℕ → ℤ) (s : Set) → SignedSplit n f g w p q s →
    (l : ℕ) × Split n f g w (λ x. up (p x) + (l - down (p x))) (λ x. up (q x) + (l - down (q x))) s
signed_is_split n f g w p q s d =
    let h = highest n (λ x. down (p x)) in
    let k = highest n (λ x. down (q x)) in
    let l = max h.0 k.0 in
    let under_p : (x : ℕ) → x < n → down (p x) ≤ l = λ x b. let i : down (p x) ≤ h.0 = h.1 x b in omega arith in
    let under_q : (x : ℕ) → x < n → down (q x) ≤ l = λ x b. let i : down (q x) ≤ k.0 = k.1 x b in omega arith in (
      l,
      record {
        first = d.first;
        second = d.second;
        lift = l + l;
        parts = λ x b. lifted_parts l (w x) (p x) (q x) (under_p x b) (under_q x b) (d.parts x b);
        best_first = λ y x b c i j o. lifted_le l (p x) (p y) (under_p x c) (under_p y b) (d.exchange_first y x b c i j o);
        best_second = λ y x b c i j o. lifted_le l (q x) (q y) (under_q x c) (under_q y b) (d.exchange_second y x b c i j o);
      },
    )

-- a set with numbers of either sign that add up to the weights is a heaviest one of its size
pub heaviest_signed : HeaviestSigned
heaviest_signed n f g w p q s t m k d e h same =
    let r = signed_is_split n f g w p q s d in
    heaviest n f g w (λ x. up (p x) + (r.0 - down (p x))) (λ x. up (q x) + (r.0 - down (q x))) s t m k r.1 e h same

-- what can be added can also come for any chosen one
pub exchanges_suffice : ExchangesSuffice
exchanges_suffice n f g w p q s m k e d parts best_first best_second =
    record {
      first = e;
      second = d;
      parts = parts;
      add_first = λ y x b c i j o. best_first y x b c i j (allowed_within m (with (without s y) x) (with s x) (λ v l u. grind arith) o);
      exchange_first = best_first;
      add_second = λ y x b c i j o. best_second y x b c i j (allowed_within k (with (without s y) x) (with s x) (λ v l u. grind arith) o);
      exchange_second = best_second;
    }
