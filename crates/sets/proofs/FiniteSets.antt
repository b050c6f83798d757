-- Lemmas on finite sets: sizes, parts, what a larger set has that a smaller one lacks, and how to look an element up.
use Rattle.std.proofs.Common.{◌≡◌, ℕ, zero, suc, ◌+◌, ◌<◌, ◌≤◌, Bool, true, false, not, ◌&&◌, ◌||◌, ltb, ◌⊎◌, refl, ap, ◌∙◌, inl, inr, ⊎_elim, arith}
use Rattle.std.proofs.lemmas.Bool.{cases_Bool, cases_lt}
use Rattle.sets.specs.Matroid.{Set, size, both, outside, without, with, none, Within}

-- a set that lies in another is no larger
pub size_within : (n : ℕ) (s t : Set) → Within n s t → size n s ≤ size n t
size_within zero s t h = omega arith
size_within (suc n) s t h =
    let r : size n s ≤ size n t = size_within n s t (λ x p. h x (omega arith)) in
    let e : s n ≡ true → t n ≡ true = h n (omega arith) in
    grind arith

-- sets that agree below n have the same size
pub size_same : (n : ℕ) (s t : Set) → ((x : ℕ) → x < n → s x ≡ t x) → size n s ≡ size n t
size_same zero s t h = refl
size_same (suc n) s t h =
    let r : size n s ≡ size n t = size_same n s t (λ x p. h x (omega arith)) in
    let e : s n ≡ t n = h n (omega arith) in
    grind arith

-- the empty set has no element
pub size_none : (n : ℕ) → size n none ≡ 0
size_none zero = refl
size_none (suc n) = let r : size n none ≡ 0 = size_none n in grind arith

-- no set below n has more than n elements
pub size_bound : (n : ℕ) (s : Set) → size n s ≤ n
size_bound zero s = omega arith
size_bound (suc n) s = let r : size n s ≤ n = size_bound n s in grind arith

-- an element from n on changes no size below n
pub size_with_beyond : (n : ℕ) (s : Set) (x : ℕ) → n ≤ x → size n (with s x) ≡ size n s
size_with_beyond n s x h = size_same n (with s x) s (λ v p. grind arith)

pub size_without_beyond : (n : ℕ) (s : Set) (x : ℕ) → n ≤ x → size n (without s x) ≡ size n s
size_without_beyond n s x h = size_same n (without s x) s (λ v p. grind arith)

-- a new element makes a set larger by one
pub size_with : (n : ℕ) (s : Set) (x : ℕ) → x < n → s x ≡ false → size n (with s x) ≡ suc (size n s)
size_with zero s x h e = absurd (omega arith)
size_with (suc n) s x h e =
    ⊎_elim
    (λ p. let r : size n (with s x) ≡ suc (size n s) = size_with n s x p e in grind arith)
    (λ p. let r : size n (with s x) ≡ size n s = size_with_beyond n s x p in
    let q : x ≡ n = omega arith in
    grind arith)
    (cases_lt x n)

-- a set without one of its elements is smaller by one
pub size_without : (n : ℕ) (s : Set) (x : ℕ) → x < n → s x ≡ true → suc (size n (without s x)) ≡ size n s
size_without zero s x h e = absurd (omega arith)
size_without (suc n) s x h e =
    ⊎_elim
    (λ p. let r : suc (size n (without s x)) ≡ size n s = size_without n s x p e in grind arith)
    (λ p. let r : size n (without s x) ≡ size n s = size_without_beyond n s x p in
    let q : x ≡ n = omega arith in
    grind arith)
    (cases_lt x n)

-- one element for another leaves the size
pub size_exchange : (n : ℕ) (s : Set) (y x : ℕ) → y < n → x < n → s y ≡ true → s x ≡ false →
    size n (with (without s y) x) ≡ size n s
size_exchange n s y x p q e d =
    let r : suc (size n (without s y)) ≡ size n s = size_without n s y p e in
    let k : size n (with (without s y) x) ≡ suc (size n (without s y)) = size_with n (without s y) x q (grind arith) in
    omega arith

-- a set is as large as its parts in and outside of another
pub size_parts : (n : ℕ) (s u : Set) → size n (both s u) + size n (outside s u) ≡ size n s
size_parts zero s u = refl
size_parts (suc n) s u = let r : size n (both s u) + size n (outside s u) ≡ size n s = size_parts n s u in grind arith

-- what holds below n and at n holds below n + 1
pub below_suc : (n : ℕ) (p : ℕ → Bool) (b : Bool) → ((x : ℕ) → x < n → p x ≡ b) → p n ≡ b → (x : ℕ) → x < suc n → p x ≡ b
below_suc n p b below here x h =
    ⊎_elim (below x) (λ q. let k : x ≡ n = omega arith in ap p k ∙ here) (cases_lt x n)

-- an element that passes a test, or the proof that none does
pub look_up : (n : ℕ) (p : ℕ → Bool) → ((x : ℕ) × (x < n) × (p x ≡ true)) ⊎ ((x : ℕ) → x < n → p x ≡ false)
look_up zero p = inr (λ x h. absurd (omega arith))
look_up (suc n) p =
    ⊎_elim
    (λ f. inl (f.0, omega arith, f.2))
    (λ rest. ⊎_elim (λ e. inl (n, omega arith, e)) (λ e. inr (below_suc n p false rest e)) (cases_Bool (p n)))
    (look_up n p)

-- a pair that passes a test, or the proof that none does
pub look_up_pair : (n m : ℕ) (p : ℕ → ℕ → Bool) →
    ((x : ℕ) × (y : ℕ) × (x < n) × (y < m) × (p x y ≡ true)) ⊎ ((x y : ℕ) → x < n → y < m → p x y ≡ false)
look_up_pair zero m p = inr (λ x y h k. absurd (omega arith))
look_up_pair (suc n) m p =
    ⊎_elim
    (λ f. inl (f.0, f.1, omega arith, f.3, f.4))
    (λ rest. ⊎_elim
    (λ f. inl (n, f.0, omega arith, f.1, f.2))
    (λ last. inr (λ x y h k. below_suc n (λ v. p v y) false (λ v q. rest v y q k) (last y k) x h))
    (look_up m (p n)))
    (look_up_pair n m p)

-- a larger set has an element that a smaller one lacks
pub larger_has_more : (n : ℕ) (s t : Set) → size n s < size n t → (x : ℕ) × (x < n) × (t x ≡ true) × (s x ≡ false)
larger_has_more n s t h =
    ⊎_elim
    (λ f. (f.0, f.1, grind arith, grind arith))
    (λ rest. absurd (let k : size n t ≤ size n s = size_within n t s (λ x p e. let r : (t x && not (s x)) ≡ false = rest x p in grind arith) in omega arith))
    (look_up n (λ x. t x && not (s x)))

-- a part that is as large as the whole is the whole
pub part_as_large : (n : ℕ) (s t : Set) → Within n s t → size n t ≤ size n s → Within n t s
part_as_large n s t h k x p e =
    ⊎_elim
    (λ y. y)
    (λ d. absurd
    (let c : size n s ≤ size n (without t x) = size_within n s (without t x) (λ v q r. let f : t v ≡ true = h v q r in grind arith) in
    let r : suc (size n (without t x)) ≡ size n t = size_without n t x p e in
    omega arith))
    (cases_Bool (s x))

-- a set with an element is not empty, and a set of some size has one
pub has_element : (n : ℕ) (s : Set) (x : ℕ) → x < n → s x ≡ true → 0 < size n s
has_element n s x p e = let r : suc (size n (without s x)) ≡ size n s = size_without n s x p e in omega arith

pub some_element : (n : ℕ) (s : Set) → 0 < size n s → (x : ℕ) × (x < n) × (s x ≡ true)
some_element n s h =
    let r : (x : ℕ) × (x < n) × (s x ≡ true) × (none x ≡ false) = larger_has_more n none s (let z : size n none ≡ 0 = size_none n in omega arith) in
    (r.0, r.1, r.2)

-- a set and another together: the larger by what it lacks
pub size_union : (n : ℕ) (s t : Set) → size n (λ x. s x || t x) ≡ size n s + size n (outside t s)
size_union zero s t = refl
size_union (suc n) s t =
    let r : size n (λ x. s x || t x) ≡ size n s + size n (outside t s) = size_union n s t in grind arith

-- the elements of a set for which a number is least: looked up among the elements that pass a test
pub least : (n : ℕ) (p : ℕ → Bool) (key : ℕ → ℕ) (x : ℕ) → x < n → p x ≡ true →
    (v : ℕ) × (v < n) × (p v ≡ true) × ((y : ℕ) → y < n → p y ≡ true → key v ≤ key y)
least n p key x h e = go (key x) x h e (omega arith)
  where
    go : (fuel : ℕ) (x : ℕ) → x < n → p x ≡ true → key x ≤ fuel →
        (v : ℕ) × (v < n) × (p v ≡ true) × ((y : ℕ) → y < n → p y ≡ true → key v ≤ key y)
    go zero x h e k = (x, h, e, λ y q r. omega arith)
    go (suc fuel) x h e k =
        ⊎_elim
        (λ f. go fuel f.0 f.1 (grind arith) (grind arith))
        (λ rest. (x, h, e, λ y q r. let d : (p y && ltb (key y) (key x)) ≡ false = rest y q in grind arith))
        (look_up n (λ y. p y && ltb (key y) (key x)))
