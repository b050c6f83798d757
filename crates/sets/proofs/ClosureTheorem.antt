-- The closure theorem: the sets in which no element depends on the others are a matroid.
use Rattle.std.proofs.Common.{◌≡◌, ℕ, zero, suc, ◌<◌, ◌≤◌, Bool, true, false, not, ◌&&◌, eqb, sym, refl, subst, ⊎_elim, arith}
use Rattle.std.proofs.lemmas.Bool.{cases_Bool, cases_lt, cases_eq, both_ways}
use Rattle.sets.specs.Matroid.{Set, size, outside, without, with, none, Within}
use Rattle.sets.specs.Closure.{Closure, free, ClosureMatroid}
use Rattle.sets.proofs.FiniteSets.{size_within, size_without, size_exchange, look_up}
use Rattle.sets.proofs.MatroidLaws.{matroid}

-- in a free set no element depends on the others
pub free_each : (n : ℕ) (cl : Set → Set) (s : Set) → free n cl s ≡ true → (x : ℕ) → x < n → s x ≡ true → cl (without s x) x ≡ false
free_each zero cl s h x p e = absurd (omega arith)
free_each (suc n) cl s h x p e =
    ⊎_elim
    (λ q. free_each n cl s (grind arith) x q e)
    (λ q. let k : n ≡ x = omega arith in
    let last : s n ≡ true → cl (without s n) n ≡ false = grind arith in
    subst (λ v. s v ≡ true → cl (without s v) v ≡ false) k last e)
    (cases_lt x n)

-- a set in which no element depends on the others is free
pub free_all : (n : ℕ) (cl : Set → Set) (s : Set) → ((x : ℕ) → x < n → s x ≡ true → cl (without s x) x ≡ false) → free n cl s ≡ true
free_all zero cl s h = refl
free_all (suc n) cl s h =
    let r : free n cl s ≡ true = free_all n cl s (λ x p. h x (omega arith)) in
    let e : s n ≡ true → cl (without s n) n ≡ false = h n (omega arith) in
    grind arith

-- a larger set has a larger closure
pub closure_within : {n : ℕ} {cl : Set → Set} → Closure n cl → (s t : Set) → Within n s t → (x : ℕ) → x < n → cl s x ≡ true → cl t x ≡ true
closure_within c s t h x p e = c.transitive t s (λ v q d. c.extends t v q (h v q d)) x p e

-- what lies in a free set is free
pub free_within : (n : ℕ) (cl : Set → Set) → Closure n cl → (s t : Set) → Within n s t → free n cl t ≡ true → free n cl s ≡ true
free_within n cl c s t h e =
    free_all n cl s (λ x p d.
    ⊎_elim
    (λ r. absurd
    (both_ways
    (cl (without t x) x)
    (free_each n cl t e x p (h x p d))
    (closure_within c (without s x) (without t x) (λ v q k. let i : s v ≡ true → t v ≡ true = h v q in grind arith) x p r)))
    (λ r. r)
    (cases_Bool (cl (without s x) x)))

-- a set that lies in the closure of a part of its own, and is free, is that part
free_part : (n : ℕ) (cl : Set → Set) → Closure n cl → (s t : Set) → free n cl t ≡ true → Within n t (cl s) → Within n s t → Within n t s
free_part n cl c s t e h k x p d =
    ⊎_elim
    (λ r. r)
    (λ r. absurd
    (both_ways
    (cl (without t x) x)
    (free_each n cl t e x p d)
    (closure_within c s (without t x) (λ v q i. let j : t v ≡ true = k v q i in grind arith) x p (h x p d))))
    (cases_Bool (s x))

-- an element z of s that is not needed for x comes into the closure of s with x in its place; then all of s does
swapped_in : (n : ℕ) (cl : Set → Set) → Closure n cl → (s : Set) (z x : ℕ) → z < n → x < n → cl (without s z) x ≡ false → cl s x ≡ true →
    Within n s (cl (with (without s z) x))
swapped_in n cl c s z x p q e d v r i =
    ⊎_elim
    (λ k. subst (λ w. cl (with (without s z) x) w ≡ true) (sym k) back)
    (λ k. c.extends (with (without s z) x) v r (grind arith))
    (cases_eq v z)
  where
    back : cl (with (without s z) x) z ≡ true
    back = c.exchange (without s z) z x p q e (closure_within c s (with (without s z) z) (λ w j l. grind arith) x q d)

-- without z, or with an element of t in its place, a set has less outside of t
less_outside : (n : ℕ) (s t s2 : Set) (z : ℕ) → z < n → outside s t z ≡ true → Within n (outside s2 t) (without (outside s t) z) →
    size n (outside s2 t) < size n (outside s t)
less_outside n s t s2 z p e h =
    let a : size n (outside s2 t) ≤ size n (without (outside s t) z) = size_within n (outside s2 t) (without (outside s t) z) h in
    let b : suc (size n (without (outside s t) z)) ≡ size n (outside s t) = size_without n (outside s t) z p e in
    omega arith

-- one step of the induction below: z lies in s and not in t; either t lies in the closure of s without z,
-- or an element x of t does not, and then x can take the place of z
core_step : (n : ℕ) (cl : Set → Set) → Closure n cl → (s t : Set) → Within n t (cl s) →
    ((r : Set) → size n (outside r t) < size n (outside s t) → Within n t (cl r) → size n t ≤ size n r) →
    (z : ℕ) → z < n → s z ≡ true → t z ≡ false → size n t ≤ size n s
core_step n cl c s t h smaller_case z p e d = ⊎_elim other same (look_up n (λ x. t x && not (cl (without s z) x)))
  where
    same : ((x : ℕ) → x < n → (t x && not (cl (without s z) x)) ≡ false) → size n t ≤ size n s
    same all =
        let a : size n t ≤ size n (without s z) =
        smaller_case
        (without s z)
        (less_outside n s t (without s z) z p (grind arith) (λ v q i. grind arith))
        (λ v q i. let r : (t v && not (cl (without s z) v)) ≡ false = all v q in grind arith) in
        let b : size n (without s z) ≤ size n s = size_within n (without s z) s (λ v q i. grind arith) in
        omega arith

    placed : (x : ℕ) → x < n → t x ≡ true → cl (without s z) x ≡ false → size n t ≤ size n s
    placed x q i j =
        let f : (without s z x ≡ true → cl (without s z) x ≡ true) = c.extends (without s z) x q in
        let u : s x ≡ false = fresh (s x) (eqb x z) (cl (without s z) x) (λ k. grind arith) j f in
        let a : size n t ≤ size n (with (without s z) x) =
        smaller_case
        (with (without s z) x)
        (less_outside n s t (with (without s z) x) z p (grind arith) (λ v r l. grind arith))
        (λ v r l. c.transitive (with (without s z) x) s (swapped_in n cl c s z x p q j (h x q i)) v r (h v r l)) in
        let b : size n (with (without s z) x) ≡ size n s = size_exchange n s z x p q e u in
        omega arith
      where
        fresh : (sx xz cx : Bool) → (xz ≡ true → ⊥) → cx ≡ false → ((sx && not xz) ≡ true → cx ≡ true) → sx ≡ false
        fresh sx xz cx k j f = grind arith

    other : ((x : ℕ) × (x < n) × ((t x && not (cl (without s z) x)) ≡ true)) → size n t ≤ size n s
    other f = placed f.0 f.1 (grind arith) (grind arith)

-- a free set in the closure of another is no larger, by induction on what the other has outside of it
core : (n : ℕ) (cl : Set → Set) → Closure n cl → (t : Set) → free n cl t ≡ true → (k : ℕ) (s : Set) →
    size n (outside s t) < k → Within n t (cl s) → size n t ≤ size n s
core n cl c t e zero s b h = absurd (omega arith)
core n cl c t e (suc k) s b h =
    ⊎_elim
    (λ f. core_step n cl c s t h (λ r i. core n cl c t e k r (omega arith)) f.0 f.1 (grind arith) (grind arith))
    (λ all. size_within n t s (free_part n cl c s t e h (λ x p d. let r : outside s t x ≡ false = all x p in grind arith)))
    (look_up n (outside s t))

-- a free set with an element that does not depend on it is free
pub free_with : (n : ℕ) (cl : Set → Set) → Closure n cl → (s : Set) (x : ℕ) → x < n → free n cl s ≡ true → cl s x ≡ false → free n cl (with s x) ≡ true
free_with n cl c s x p e d =
    free_all n cl (with s x) (λ v q i. ⊎_elim (λ k. absurd (never v q i k)) (λ k. k) (cases_Bool (cl (without (with s x) v) v)))
  where
    in_s : (t : Set) → Within n t s → cl t x ≡ true → ⊥
    in_s t h k = both_ways (cl s x) d (closure_within c t s h x p k)

    never : (v : ℕ) → v < n → with s x v ≡ true → cl (without (with s x) v) v ≡ true → ⊥
    never v q i k =
        ⊎_elim
        (λ j. in_s (without (with s x) v) (λ w l m. grind arith) (subst (λ w. cl (without (with s x) v) w ≡ true) j k))
        (λ j. in_s
        (with (without s v) v)
        (λ w l m. grind arith)
        (c.exchange
        (without s v)
        x
        v
        p
        q
        (free_each n cl s e v q (grind arith))
        (closure_within c (without (with s x) v) (with (without s v) x) (λ w l m. grind arith) v q k)))
        (cases_eq v x)

-- a free set with a new element is free just where the element does not depend on it
pub free_adds : (n : ℕ) (cl : Set → Set) → Closure n cl → (s : Set) (x : ℕ) → x < n → s x ≡ false → free n cl s ≡ true →
    free n cl (with s x) ≡ not (cl s x)
free_adds n cl c s x p e d =
    ⊎_elim
    (λ k. let i : cl (without (with s x) x) x ≡ true = closure_within c s (without (with s x) x) (λ v q j. grind arith) x p k in
    bound (free n cl (with s x)) (cl s x) (cl (without (with s x) x) x) k i (λ j. free_each n cl (with s x) j x p (grind arith)))
    (λ k. let i : free n cl (with s x) ≡ true = free_with n cl c s x p d k in grind arith)
    (cases_Bool (cl s x))
  where
    bound : (u v w : Bool) → v ≡ true → w ≡ true → (u ≡ true → w ≡ false) → u ≡ not v
    bound u v w k i j = grind arith

-- a free set with an element in another's place is free just where it does not depend on the rest
pub free_exchanges : (n : ℕ) (cl : Set → Set) → Closure n cl → (s : Set) (y x : ℕ) → x < n → s x ≡ false → free n cl s ≡ true →
    free n cl (with (without s y) x) ≡ not (cl (without s y) x)
free_exchanges n cl c s y x p e d =
    free_adds n cl c (without s y) x p (grind arith) (free_within n cl c (without s y) s (λ v q j. grind arith) d)

-- the closure theorem
pub closure_matroid : ClosureMatroid
closure_matroid n cl c =
    matroid
    n
    (free n cl)
    (free_all n cl none (λ x p e. grind arith))
    (free_within n cl c)
    (λ s t e d h.
    ⊎_elim
    (λ f. taken s t e f.0 f.1 (grind arith) (grind arith))
    (λ all. absurd
    (let k : size n t ≤ size n s =
    core
    n
    cl
    c
    t
    d
    (suc (size n (outside s t)))
    s
    (omega arith)
    (λ x p i. let r : (t x && not (cl s x)) ≡ false = all x p in grind arith) in
    omega arith))
    (look_up n (λ x. t x && not (cl s x))))
  where
    taken : (s t : Set) → free n cl s ≡ true → (x : ℕ) → x < n → t x ≡ true → cl s x ≡ false →
        (v : ℕ) × (v < n) × (t v ≡ true) × (s v ≡ false) × (free n cl (with s v) ≡ true)
    taken s t e x p i k =
        let f : s x ≡ true → cl s x ≡ true = c.extends s x p in
        (x, p, i, grind arith, free_with n cl c s x p e k)
