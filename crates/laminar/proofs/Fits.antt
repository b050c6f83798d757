-- Sets that stay within the limits of nested groups form a matroid.
use Rattle.std.proofs.Common.{◌≡◌, ℕ, zero, suc, ◌+◌, ◌<◌, ◌≤◌, Bool, true, false, not, ◌&&◌, ◌||◌, eqb, leb, ◌⊎◌, refl, inl, inr, ⊎_elim, arith}
use Rattle.std.proofs.lemmas.Bool.{cases_Bool, both_ways, cases_eq, leb-true, le-leb, eqb-true, and_parts}
use Rattle.sets.specs.Matroid.{Set, size, both, outside, with, none, Within, Hereditary, Augmentable, Matroid}
use Rattle.laminar.specs.Limits.{fits, Nested}
use Rattle.sets.proofs.FiniteSets.{size_same, size_within, size_parts, has_element, look_up}
use Rattle.laminar.proofs.Sizes.{size_empty, part_with}

-- a set that fits has no more of any group than its limit
pub fits_each : (n : ℕ) (group : ℕ → Set) (most : ℕ → ℕ) (m : ℕ) (s : Set) → fits n group most m s ≡ true →
    (g : ℕ) → g < m → size n (both (group g) s) ≤ most g
fits_each n group most zero s e g l = omega arith
fits_each n group most (suc m) s e g l =
    let p = and_parts (leb (size n (both (group m) s)) (most m)) (fits n group most m s) e in
    ⊎_elim
    (λ (q : g ≡ m). rw q (leb-true (size n (both (group m) s)) (most m) p.0))
    (λ (q : g ≡ m → ⊥). fits_each n group most m s p.1 g (omega arith))
    (cases_eq g m)

-- a set that has no more of any group than its limit fits
pub each_fits : (n : ℕ) (group : ℕ → Set) (most : ℕ → ℕ) (m : ℕ) (s : Set) →
    ((g : ℕ) → g < m → size n (both (group g) s) ≤ most g) → fits n group most m s ≡ true
each_fits n group most zero s h = refl
each_fits n group most (suc m) s h =
    let a : leb (size n (both (group m) s)) (most m) ≡ true = le-leb (size n (both (group m) s)) (most m) (h m (omega arith)) in
    let r = each_fits n group most m s (λ g l. h g (omega arith)) in
    grind arith

-- the chosen ones of the first m groups, all together
abbrev union : (ℕ → Set) → (ℕ → Bool) → ℕ → Set
union group f zero x = false
union group f (suc m) x = (f m && group m x) || union group f m x

-- an offer of a chosen group is in the union
union_in : (group : ℕ → Set) (f : ℕ → Bool) (m x g : ℕ) → g < m → f g ≡ true → group g x ≡ true → union group f m x ≡ true
union_in group f zero x g l a b = absurd (omega arith)
union_in group f (suc m) x g l a b =
    ⊎_elim
    (λ (q : g ≡ m). let c : f m ≡ true = rw (← q) a in let d : group m x ≡ true = rw (← q) b in grind arith)
    (λ (q : g ≡ m → ⊥). let r = union_in group f m x g (omega arith) a b in grind arith)
    (cases_eq g m)

-- an offer of the union is in a chosen group
union_out : (group : ℕ → Set) (f : ℕ → Bool) (m x : ℕ) → union group f m x ≡ true →
    (g : ℕ) × (g < m) × (f g ≡ true) × (group g x ≡ true)
union_out group f zero x e = absurd (both_ways false refl e)
union_out group f (suc m) x e =
    ⊎_elim
    (λ (c : (f m && group m x) ≡ true). let p = and_parts (f m) (group m x) c in (m, omega arith, p.0, p.1))
    (λ (c : (f m && group m x) ≡ false).
    let r = union_out group f m x (grind arith) in (r.0, omega (arith, r.1), r.2, r.3))
    (cases_Bool (f m && group m x))

-- what holds of a set's parts in u holds of its parts in a v that is the same below n
over_same : (n : ℕ) (u v s t : Set) → ((x : ℕ) → x < n → u x ≡ v x) → size n (both v t) ≤ size n (both v s) →
    size n (both u t) ≤ size n (both u s)
over_same n u v s t h l =
    let a = size_same n (both u t) (both v t) (λ x m. let e = h x m in grind arith) in
    let b = size_same n (both u s) (both v s) (λ x m. let e = h x m in grind arith) in
    omega arith

-- the part of t in two sets that are apart
apart_sum : (n : ℕ) (a v t : Set) → ((x : ℕ) → x < n → a x ≡ true → v x ≡ false) →
    size n (both (λ x. a x || v x) t) ≡ size n (both a t) + size n (both v t)
apart_sum zero a v t h = refl
apart_sum (suc n) a v t h =
    let e : a n ≡ true → v n ≡ false = h n (omega arith) in
    let r = apart_sum n a v t (λ x l. h x (omega arith)) in
    grind arith

-- sets of which nothing lies outside another lie within it
none_outside : (n : ℕ) (a b : Set) → eqb (size n (outside a b)) 0 ≡ true → Within n a b
none_outside n a b e x l p =
    ⊎_elim (λ (q : b x ≡ true). q)
    (λ (q : b x ≡ false). let w : 0 < size n (outside a b) = has_element n (outside a b) x l (grind arith) in absurd (grind arith))
    (cases_Bool (b x))

-- a group inside a chosen one adds nothing to the union
swallowed : (n : ℕ) (group : ℕ → Set) (f : ℕ → Bool) (m g : ℕ) → g < m → (f g && eqb (size n (outside (group m) (group g))) 0) ≡ true →
    (x : ℕ) → x < n → union group f (suc m) x ≡ union group f m x
swallowed n group f m g l e x k =
    let p = and_parts (f g) (eqb (size n (outside (group m) (group g))) 0) e in
    ⊎_elim
    (λ (c : group m x ≡ true).
    let u = union_in group f m x g l p.0 (none_outside n (group m) (group g) p.1 x k c) in grind arith)
    (λ (c : group m x ≡ false). grind arith)
    (cases_Bool (group m x))

-- the choice of those groups that share nothing with group m
abbrev away : ℕ → (ℕ → Set) → (ℕ → Bool) → ℕ → ℕ → Bool
away n group f m g = f g && eqb (size n (both (group g) (group m))) 0

-- what the union of those groups holds, group m does not hold
away_apart : (n : ℕ) (group : ℕ → Set) (f : ℕ → Bool) (m k x : ℕ) → x < n → group m x ≡ true →
    union group (away n group f m) k x ≡ false
away_apart n group f m k x l e =
    ⊎_elim
    (λ (c : union group (away n group f m) k x ≡ true).
    let r = union_out group (away n group f m) k x c in
    let p = and_parts (f r.0) (eqb (size n (both (group r.0) (group m))) 0) r.2 in
    let y = r.3 in
    let w : 0 < size n (both (group r.0) (group m)) = has_element n (both (group r.0) (group m)) x l (grind arith) in
    let z = p.1 in
    absurd (grind arith))
    (λ (c : union group (away n group f m) k x ≡ false). c)
    (cases_Bool (union group (away n group f m) k x))

-- a chosen group that does not hold group m is away from it or lies in it
side : (n : ℕ) (group : ℕ → Set) (f : ℕ → Bool) (m g x : ℕ) → x < n → f g ≡ true → group g x ≡ true →
    (f g && eqb (size n (outside (group m) (group g))) 0) ≡ false → Nested n (group g) (group m) →
    (away n group f m g ≡ true) ⊎ (group m x ≡ true)
side n group f m g x l c d e (inl h) =
    let w = size_empty n (both (group g) (group m)) (λ y k. let i = h y k in grind arith) in inl (grind arith)
side n group f m g x l c d e (inr (inl h)) = inr (h x l d)
side n group f m g x l c d e (inr (inr h)) =
    let w = size_empty n (outside (group m) (group g)) (λ y k. let i = h y k in grind arith) in absurd (grind arith)

-- where no chosen group holds group m, the union is group m and what is away from it
widened : (n : ℕ) (group : ℕ → Set) (f : ℕ → Bool) (m : ℕ) → f m ≡ true →
    ((g : ℕ) → g < m → (f g && eqb (size n (outside (group m) (group g))) 0) ≡ false) →
    ((g : ℕ) → g < m → Nested n (group g) (group m)) →
    (x : ℕ) → x < n → union group f (suc m) x ≡ (group m x || union group (away n group f m) m x)
widened n group f m e h nest x l =
    ⊎_elim
    (λ (c : group m x ≡ true). grind arith)
    (λ (c : group m x ≡ false).
    let back : union group (away n group f m) m x ≡ true → union group f m x ≡ true = λ u.
    let r = union_out group (away n group f m) m x u in
    let p = and_parts (f r.0) (eqb (size n (both (group r.0) (group m))) 0) r.2 in
    union_in group f m x r.0 r.1 p.0 r.3 in
    let on : union group f m x ≡ true → union group (away n group f m) m x ≡ true = λ u.
    let r = union_out group f m x u in
    ⊎_elim
    (λ (w : away n group f m r.0 ≡ true). union_in group (away n group f m) m x r.0 r.1 w r.3)
    (λ (w : group m x ≡ true). absurd (both_ways (group m x) c w))
    (side n group f m r.0 x l r.2 r.3 (h r.0 r.1) (nest r.0 r.1)) in
    grind arith)
    (cases_Bool (group m x))

-- where t has no more of any chosen group than s, it has no more of their union
counted : (n : ℕ) (s t : Set) (group : ℕ → Set) (m : ℕ) (f : ℕ → Bool) →
    ((g : ℕ) → g < m → f g ≡ true → size n (both (group g) t) ≤ size n (both (group g) s)) →
    ((g h : ℕ) → g < m → h < m → Nested n (group g) (group h)) →
    size n (both (union group f m) t) ≤ size n (both (union group f m) s)
counted n s t group zero f each nest =
    let a = size_empty n (both (union group f zero) t) (λ x l. refl) in omega arith
counted n s t group (suc m) f each nest =
    let nested' : (g h : ℕ) → g < m → h < m → Nested n (group g) (group h) = λ g h i j. nest g h (omega arith) (omega arith) in
    let inner = counted n s t group m f (λ g l. each g (omega arith)) nested' in
    let beside = counted n s t group m (away n group f m)
    (λ g l e. each g (omega arith) (and_parts (f g) (eqb (size n (both (group g) (group m))) 0) e).0) nested' in
    ⊎_elim
    (λ (c : f m ≡ true).
    ⊎_elim
    (λ (w : (k : ℕ) × (k < m) × ((f k && eqb (size n (outside (group m) (group k))) 0) ≡ true)).
    over_same n (union group f (suc m)) (union group f m) s t (swallowed n group f m w.0 w.1 w.2) inner)
    (λ (h : (k : ℕ) → k < m → (f k && eqb (size n (outside (group m) (group k))) 0) ≡ false).
    over_same n (union group f (suc m)) (λ x. group m x || union group (away n group f m) m x) s t
    (widened n group f m c h (λ g l. nest g m (omega arith) (omega arith)))
    (let a = away_apart n group f m m in
    let p = apart_sum n (group m) (union group (away n group f m) m) t a in
    let q = apart_sum n (group m) (union group (away n group f m) m) s a in
    let o = each m (omega arith) c in
    omega arith))
    (look_up m (λ k. f k && eqb (size n (outside (group m) (group k))) 0)))
    (λ (c : f m ≡ false).
    over_same n (union group f (suc m)) (union group f m) s t (λ x l. grind arith) inner)
    (cases_Bool (f m))

-- a set that fits takes an offer that no full group holds
pub takes : (n : ℕ) (group : ℕ → Set) (most : ℕ → ℕ) (m : ℕ) (s : Set) (x : ℕ) → x < n → s x ≡ false → fits n group most m s ≡ true →
    ((g : ℕ) → g < m → group g x ≡ true → size n (both (group g) s) ≡ most g → ⊥) → fits n group most m (with s x) ≡ true
takes n group most m s x l e h no_full =
    each_fits n group most m (with s x)
    (λ g k. let a = part_with n (group g) s x l e in
    let b = fits_each n group most m s h g k in
    let c = no_full g k in
    grind arith)

-- an offer that cannot be taken lies in a full group, and every offer of t does so or lies in s
covered : (n : ℕ) (group : ℕ → Set) (most : ℕ → ℕ) (m : ℕ) (s : Set) (x : ℕ) → x < n → fits n group most m s ≡ true →
    (s x ≡ false → fits n group most m (with s x) ≡ false) →
    union group (λ g. eqb (size n (both (group g) s)) (most g)) m x ≡ false → s x ≡ true
covered n group most m s x l h stop out =
    ⊎_elim (λ (c : s x ≡ true). c)
    (λ (c : s x ≡ false). absurd (both_ways (fits n group most m (with s x)) (stop c)
    (takes n group most m s x l c h
    (λ g k a b. let z : eqb (size n (both (group g) s)) (most g) ≡ true = grind arith in
    both_ways (union group (λ g. eqb (size n (both (group g) s)) (most g)) m x) out
    (union_in group (λ g. eqb (size n (both (group g) s)) (most g)) m x g k z a)))))
    (cases_Bool (s x))

-- a smaller set that fits can take an offer from a larger one
fits_more : (n : ℕ) (group : ℕ → Set) (most : ℕ → ℕ) (m : ℕ) → ((g h : ℕ) → g < m → h < m → Nested n (group g) (group h)) →
    (s t : Set) → fits n group most m s ≡ true → fits n group most m t ≡ true → size n s < size n t →
    (x : ℕ) × (x < n) × (t x ≡ true) × (s x ≡ false) × (fits n group most m (with s x) ≡ true)
fits_more n group most m nest s t hs ht less =
    ⊎_elim
    (λ (w : (x : ℕ) × (x < n) × ((t x && not (s x) && fits n group most m (with s x)) ≡ true)).
    let z = w.2 in
    (w.0, w.1, grind arith, grind arith, grind arith))
    (λ (h : (x : ℕ) → x < n → (t x && not (s x) && fits n group most m (with s x)) ≡ false).
    let f : ℕ → Bool = λ g. eqb (size n (both (group g) s)) (most g) in
    let u : Set = union group f m in
    let in_u = counted n s t group m f
    (λ g l e. let a = fits_each n group most m t ht g l in let b = eqb-true (size n (both (group g) s)) (most g) e in omega arith) nest in
    let out_u = size_within n (outside t u) (outside s u)
    (λ x l e. let i = h x l in
    let c : u x ≡ false = outside_not t u x e in
    let d = covered n group most m s x l hs (λ sx. stuck (t x) (s x) (fits n group most m (with s x)) (outside_in t u x e) sx i) c in
    and_from_not (s x) (u x) d c) in
    let a = size_parts n t u in
    let b = size_parts n s u in
    let c = parts_swap n t u in
    let d = parts_swap n s u in
    absurd (omega arith))
    (look_up n (λ x. t x && not (s x) && fits n group most m (with s x)))
  where
    outside_not : (a b : Set) (x : ℕ) → outside a b x ≡ true → b x ≡ false
    outside_not a b x e = grind arith

    outside_in : (a b : Set) (x : ℕ) → outside a b x ≡ true → a x ≡ true
    outside_in a b x e = grind arith

    and_from_not : (a b : Bool) → a ≡ true → b ≡ false → (a && not b) ≡ true
    and_from_not a b p q = grind arith

    stuck : (a b c : Bool) → a ≡ true → b ≡ false → (a && not b && c) ≡ false → c ≡ false
    stuck a b c p q e = grind arith

    parts_swap : (n : ℕ) (a b : Set) → size n (both a b) ≡ size n (both b a)
    parts_swap n a b = size_same n (both a b) (both b a) (λ x l. grind arith)

-- what lies in a set that fits, fits
fits_less : (n : ℕ) (group : ℕ → Set) (most : ℕ → ℕ) (m : ℕ) (s t : Set) → Within n s t → fits n group most m t ≡ true → fits n group most m s ≡ true
fits_less n group most m s t w h =
    each_fits n group most m s
    (λ g l. let a = fits_each n group most m t h g l in
    let b = size_within n (both (group g) s) (both (group g) t) (λ x k. let i = w x k in grind arith) in
    omega arith)

-- limits on nested groups are a matroid
pub fits_matroid : (n : ℕ) (group : ℕ → Set) (most : ℕ → ℕ) (m : ℕ) → ((g h : ℕ) → g < m → h < m → Nested n (group g) (group h)) →
    Matroid n (fits n group most m)
unfolding Hereditary Augmentable
fits_matroid n group most m nest = record {
  empty = each_fits n group most m none
      (λ g l. let a = size_empty n (both (group g) none) (λ x k. grind arith) in omega arith);
  hereditary = fits_less n group most m;
  augmentable = fits_more n group most m nest;
}
