-- How many elements are below n in a set, and in a set with one more.
use Rattle.std.proofs.Common.{◌≡◌, ℕ, zero, suc, ◌+◌, ◌<◌, ◌≤◌, Bool, true, false, ◌||◌, eqb, sym, refl, ap, ◌∙◌, ⊎_elim, arith}
use Rattle.std.proofs.lemmas.Bool.{cases_lt}
use Rattle.sets.specs.Matroid.{pick, Set, size}

-- an element counts at most once
pick_le : (b : Bool) → pick b 1 0 ≤ 1
pick_le true = omega arith
pick_le false = omega arith

-- no more than n
pub size_le : (n : ℕ) (s : Set) → size n s ≤ n
size_le zero s = omega arith
size_le (suc n) s = let h = size_le n s in let p = pick_le (s n) in omega arith

-- sets that agree below n are of one size
pub size_same : (n : ℕ) (s t : Set) → ((v : ℕ) → v < n → t v ≡ s v) → size n t ≡ size n s
size_same zero s t h = refl
size_same (suc n) s t h =
    let e = size_same n s t (λ v p. h v (omega arith)) in
    let b = ap {B = ℕ} (λ (x : Bool). pick x 1 0) (h n (omega arith)) in
    omega (arith, e, b)

-- one element more
pub size_more : (n : ℕ) (s t : Set) (m : ℕ) → m < n → s m ≡ false → ((v : ℕ) → v < n → t v ≡ (s v || eqb v m)) → size n t ≡ size n s + 1
size_more zero s t m p q h = absurd (omega arith)
size_more (suc n) s t m p q h =
    ⊎_elim
    (λ (l : m < n).
    let e = size_more n s t m l q (λ v i. h v (omega arith)) in
    let b : t n ≡ s n = let x = h n (omega arith) in grind arith in
    let f = ap {B = ℕ} (λ (x : Bool). pick x 1 0) b in
    omega (arith, e, f))
    (λ (l : n ≤ m).
    let same : m ≡ n = omega arith in
    let e = size_same n s t (λ v i. below v i l) in
    let b : s n ≡ false = ap s (sym same) ∙ q in
    let c : t n ≡ true = let x = h n (omega arith) in grind arith in
    let f = ap {B = ℕ} (λ (x : Bool). pick x 1 0) b in
    let g = ap {B = ℕ} (λ (x : Bool). pick x 1 0) c in
    omega (arith, e, f, g))
    (cases_lt m n)
  where
    below : (v : ℕ) → v < n → n ≤ m → t v ≡ s v
    below v i l = let x = h v (omega arith) in let j : v ≡ m → ⊥ = λ r. omega arith in grind arith

-- a larger set is no smaller
pub size_mono : (n : ℕ) (s t : Set) → ((v : ℕ) → v < n → s v ≡ true → t v ≡ true) → size n s ≤ size n t
size_mono zero s t h = omega arith
size_mono (suc n) s t h =
    let e = size_mono n s t (λ v p. h v (omega arith)) in
    let b = one (s n) (t n) (h n (omega arith)) in
    omega (arith, e, b)
  where
    one : (a b : Bool) → (a ≡ true → b ≡ true) → pick a 1 0 ≤ pick b 1 0
    one true b h = let e : ◌≡◌ {A = ℕ} (pick b 1 0) 1 = ap {B = ℕ} (λ (x : Bool). pick x 1 0) (h refl) in omega (arith, e)
    one false b h = omega arith
