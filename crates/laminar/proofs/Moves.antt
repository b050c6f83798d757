-- When one more offer fits, and when one offer may come for another.
use Rattle.std.proofs.Common.{◌≡◌, ℕ, suc, ◌+◌, ◌<◌, ◌≤◌, true, false, sym, refl, subst, ⊎_elim, add-one, arith}
use Rattle.std.proofs.lemmas.Bool.{cases_Bool, le-leb}
use Rattle.sets.specs.Matroid.{Set, pick, size, both, with, without}
use Rattle.laminar.specs.Limits.{fits}
use Rattle.laminar.proofs.Sizes.{part_with, part_without}
use Rattle.laminar.proofs.Fits.{fits_each, each_fits}

-- a set that fits the first g groups and has no more of the next than its limit fits that one too
pub fits_on : (n : ℕ) (group : ℕ → Set) (most : ℕ → ℕ) (g : ℕ) (s : Set) → size n (both (group g) s) ≤ most g →
    fits n group most g s ≡ true → fits n group most (g + 1) s ≡ true
fits_on n group most g s l e =
    let P : ℕ → Type 0 = λ k. fits n group most k s ≡ true in
    let a : P (suc g) = rw (le-leb (size n (both (group g) s)) (most g) l, e) refl in
    subst P (sym (add-one g)) a

-- what has more of a group than its limit does not fit
pub too_many : (n : ℕ) (group : ℕ → Set) (most : ℕ → ℕ) (m : ℕ) (s : Set) (g : ℕ) → g < m → most g < size n (both (group g) s) →
    fits n group most m s ≡ false
too_many n group most m s g l h =
    ⊎_elim
    (λ (e : fits n group most m s ≡ true). let a = fits_each n group most m s e g l in absurd (omega arith))
    (λ (e : fits n group most m s ≡ false). e)
    (cases_Bool (fits n group most m s))

-- an offer of a full group cannot be added
pub add_stops : (n : ℕ) (group : ℕ → Set) (most : ℕ → ℕ) (m : ℕ) (s : Set) (x g : ℕ) → x < n → s x ≡ false → g < m →
    group g x ≡ true → size n (both (group g) s) ≡ most g → fits n group most m (with s x) ≡ false
add_stops n group most m s x g l e k a b =
    let c = part_with n (group g) s x l e in
    too_many n group most m (with s x) g k (grind arith)

-- how many of a group there are after an exchange
exchanged : (n : ℕ) (a s : Set) (x y : ℕ) → x < n → s x ≡ false → y < n → s y ≡ true →
    size n (both a (with (without s y) x)) + pick (a y) 1 0 ≡ size n (both a s) + pick (a x) 1 0
exchanged n a s x y lx ex ly ey =
    let p = part_without n a s y ly ey in
    let q = part_with n a (without s y) x lx (grind arith) in
    omega arith

-- x may come for y where each full group that holds x holds y
pub exchange_fits : (n : ℕ) (group : ℕ → Set) (most : ℕ → ℕ) (m : ℕ) (s : Set) (x y : ℕ) → x < n → s x ≡ false → y < n → s y ≡ true →
    fits n group most m s ≡ true →
    ((g : ℕ) → g < m → group g x ≡ true → size n (both (group g) s) ≡ most g → group g y ≡ false → ⊥) →
    fits n group most m (with (without s y) x) ≡ true
exchange_fits n group most m s x y lx ex ly ey h free =
    each_fits n group most m (with (without s y) x)
    (λ g k. let a = exchanged n (group g) s x y lx ex ly ey in
    let b = fits_each n group most m s h g k in
    let c = free g k in
    grind arith)

-- x may not come for y where a full group holds x and not y
pub exchange_stops : (n : ℕ) (group : ℕ → Set) (most : ℕ → ℕ) (m : ℕ) (s : Set) (x y g : ℕ) → x < n → s x ≡ false → y < n → s y ≡ true →
    g < m → group g x ≡ true → size n (both (group g) s) ≡ most g → group g y ≡ false → fits n group most m (with (without s y) x) ≡ false
exchange_stops n group most m s x y g lx ex ly ey k a b e =
    let c = exchanged n (group g) s x y lx ex ly ey in
    too_many n group most m (with (without s y) x) g k (grind arith)
