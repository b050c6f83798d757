-- Tests that look through a set, and what they say of two groups.
use Rattle.std.proofs.Common.{◌≡◌, ℕ, zero, suc, ◌<◌, Bool, true, false, not, ◌&&◌, refl, inl, inr, ⊎_elim, arith}
use Rattle.std.proofs.lemmas.Bool.{cases_Bool, cases_eq, both_ways, and_parts, and_cases, or_parts, or_cases}
use Rattle.sets.specs.Matroid.{Set, both, outside}
use Rattle.laminar.specs.Limits.{Nested}
use Rattle.laminar.specs.Reading.{Overlapping, some, overlaps}

-- an element that the test has found
pub some_found : (n : ℕ) (s : Set) → some n s ≡ true → (x : ℕ) × (x < n) × (s x ≡ true)
some_found zero s e = absurd (both_ways false refl e)
some_found (suc n) s e =
    ⊎_elim
    (λ (c : s n ≡ true). (n, omega arith, c))
    (λ (c : some n s ≡ true). let r = some_found n s c in (r.0, omega (arith, r.1), r.2))
    (or_cases (s n) (some n s) e)

-- where it has found none there is none
pub some_none : (n : ℕ) (s : Set) → some n s ≡ false → (x : ℕ) → x < n → s x ≡ false
some_none zero s e x l = absurd (omega arith)
some_none (suc n) s e x l =
    let p = or_parts (s n) (some n s) e in
    ⊎_elim
    (λ (q : x ≡ n). rw q p.0)
    (λ (q : x ≡ n → ⊥). some_none n s p.1 x (omega arith))
    (cases_eq x n)

-- where there is none it finds none
pub none_some : (n : ℕ) (s : Set) → ((x : ℕ) → x < n → s x ≡ false) → some n s ≡ false
none_some zero s h = refl
none_some (suc n) s h =
    let a = h n (omega arith) in
    let b = none_some n s (λ x l. h x (omega arith)) in
    rw (a, b) refl

-- where there is one it finds one
pub found_some : (n : ℕ) (s : Set) (x : ℕ) → x < n → s x ≡ true → some n s ≡ true
found_some n s x l e =
    ⊎_elim (λ (c : some n s ≡ true). c) (λ (c : some n s ≡ false). absurd (both_ways (s x) (some_none n s c x l) e)) (cases_Bool (some n s))

-- groups that the test says overlap do so
pub overlaps_true : (n : ℕ) (a b : Set) → overlaps n a b ≡ true → Overlapping n a b
overlaps_true n a b e =
    let p = and_parts (some n (both a b)) (some n (outside a b) && some n (outside b a)) e in
    let q = and_parts (some n (outside a b)) (some n (outside b a)) p.1 in
    let x = some_found n (both a b) p.0 in
    let y = some_found n (outside a b) q.0 in
    let z = some_found n (outside b a) q.1 in (
      (x.0, x.1, first (a x.0) (b x.0) x.2, second (a x.0) (b x.0) x.2),
      (y.0, y.1, first (a y.0) (not (b y.0)) y.2, not_second (a y.0) (b y.0) y.2),
      (z.0, z.1, not_second (b z.0) (a z.0) z.2, first (b z.0) (not (a z.0)) z.2),
    )
  where
    first : (a b : Bool) → (a && b) ≡ true → a ≡ true
    first a b e = grind arith

    second : (a b : Bool) → (a && b) ≡ true → b ≡ true
    second a b e = grind arith

    not_second : (a b : Bool) → (a && not b) ≡ true → b ≡ false
    not_second a b e = grind arith

-- and groups that overlap are found to do so
pub overlapping_true : (n : ℕ) (a b : Set) → Overlapping n a b → overlaps n a b ≡ true
overlapping_true n a b (x, y, z) =
    let p = found_some n (both a b) x.0 x.1 (rw (x.2, x.3) refl) in
    let q = found_some n (outside a b) y.0 y.1 (rw (y.2, y.3) refl) in
    let r = found_some n (outside b a) z.0 z.1 (rw (z.2, z.3) refl) in
    rw (p, q, r) refl

-- groups that do not overlap are nested
pub overlaps_false : (n : ℕ) (a b : Set) → overlaps n a b ≡ false → Nested n a b
overlaps_false n a b e =
    ⊎_elim
    (λ (c : some n (both a b) ≡ false). inl (λ x l k. no_both (a x) (b x) k (some_none n (both a b) c x l)))
    (λ (c : (some n (outside a b) && some n (outside b a)) ≡ false).
    ⊎_elim
    (λ (d : some n (outside a b) ≡ false). inr (inl (λ x l k. inside (a x) (b x) k (some_none n (outside a b) d x l))))
    (λ (d : some n (outside b a) ≡ false). inr (inr (λ x l k. inside (b x) (a x) k (some_none n (outside b a) d x l))))
    (and_cases (some n (outside a b)) (some n (outside b a)) c))
    (and_cases (some n (both a b)) (some n (outside a b) && some n (outside b a)) e)
  where
    no_both : (a b : Bool) → a ≡ true → (a && b) ≡ false → b ≡ false
    no_both a b p q = grind arith

    inside : (a b : Bool) → a ≡ true → (a && not b) ≡ false → b ≡ true
    inside a b p q = grind arith

-- and nested groups do not overlap
pub nested_apart : (n : ℕ) (a b : Set) → Nested n a b → Overlapping n a b → ⊥
nested_apart n a b (inl h) (x, y, z) = both_ways (b x.0) (h x.0 x.1 x.2) x.3
nested_apart n a b (inr (inl h)) (x, y, z) = both_ways (b y.0) y.3 (h y.0 y.1 y.2)
nested_apart n a b (inr (inr h)) (x, y, z) = both_ways (a z.0) z.2 (h z.0 z.1 z.3)

pub nested_false : (n : ℕ) (a b : Set) → Nested n a b → overlaps n a b ≡ false
nested_false n a b h =
    ⊎_elim (λ (c : overlaps n a b ≡ true). absurd (nested_apart n a b h (overlaps_true n a b c))) (λ (c : overlaps n a b ≡ false). c)
    (cases_Bool (overlaps n a b))

-- nesting goes both ways
pub nested_swap : (n : ℕ) (a b : Set) → Nested n a b → Nested n b a
nested_swap n a b (inl h) =
    inl (λ x l k. ⊎_elim (λ (c : a x ≡ true). absurd (both_ways (b x) (h x l c) k)) (λ (c : a x ≡ false). c) (cases_Bool (a x)))
nested_swap n a b (inr (inl h)) = inr (inr h)
nested_swap n a b (inr (inr h)) = inr (inl h)
