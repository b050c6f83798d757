-- Steps of the loops that read a rule: one more element, one more group.
use Rattle.std.proofs.Common.{◌≡◌, ℕ, zero, suc, ◌+◌, ◌<◌, ◌≤◌, Bool, true, false, cond, ltb, List, length, Ok, Err, Result, sym, refl, ◌∙◌, subst, ⊎_elim, add-one, arith}
use Rattle.std.proofs.lemmas.Nat.{mul-le}
use Rattle.std.proofs.lemmas.Bool.{cases_eq, ltb-false, lt-leb, le-ltb}
use Rattle.sets.specs.declared.refusal.Refusal.{Refusal}
use Rattle.laminar.specs.Limits.{group_bytes, group_at, limit}
use Rattle.laminar.specs.Reading.{overlaps_below, has_stray, then, read_group, read_groups, read, count}

-- an earlier group ends before a later one begins
pub ends_before : (n at h g : ℕ) → h < g → group_at n at h + group_bytes n ≤ group_at n at g
ends_before n at h g l = omega (arith, mul-le (suc h) (group_bytes n) g (group_bytes n) l (omega arith))

-- the place behind a group is where the next one begins
pub next_group : (n at g : ℕ) → group_at n at (suc g) ≡ group_at n at g + group_bytes n
next_group n at g = omega arith

-- a test that was passed, and what came after it
pub passed : {A : Type 0} (b : Bool) (e : Refusal) (r : Result A Refusal) (a : A) → cond b (Err e) r ≡ Ok a → (b ≡ false) × (r ≡ Ok a)
passed true e r a h = let z : ◌≡◌ {A = ℕ} 0 1 = cc in absurd (omega arith)
passed false e r a h = (refl, h)

-- the five tests that a group has passed
pub record Passed (file : List ℕ) (n at g : ℕ) : Type 0 where
  pub has_limit : ltb (length file) (group_at n at g + 2) ≡ false
  pub low : ltb 600 (limit file n at g) ≡ false
  pub has_row : ltb (length file) (group_at n at g + group_bytes n) ≡ false
  pub apart : overlaps_below file n at g g ≡ false
  pub clean : has_stray file n at g ≡ false

pub group_passed : (file : List ℕ) (n at g : ℕ) → read_group file n at g ≡ Ok tt → Passed file n at g
group_passed file n at g h =
    let a = passed (ltb (length file) (group_at n at g + 2)) _ _ tt h in
    let b = passed (ltb 600 (limit file n at g)) _ _ tt a.1 in
    let c = passed (ltb (length file) (group_at n at g + group_bytes n)) _ _ tt b.1 in
    let d = passed (overlaps_below file n at g g) _ _ tt c.1 in
    let e = passed (has_stray file n at g) _ _ tt d.1 in
    record { has_limit = a.0; low = b.0; has_row = c.0; apart = d.0; clean = e.0 }

-- one more group is fine
pub one_more : (file : List ℕ) (n at g : ℕ) → read_groups file n at g ≡ Ok tt → read_group file n at g ≡ Ok tt →
    (read_groups file n at (g + 1) ≡ Ok tt) × (group_at n at (g + 1) ≤ length file)
one_more file n at g p q =
    let P : ℕ → Type 0 = λ k. read_groups file n at k ≡ Ok tt in
    let a : P (suc g) = rw p q in
    let b = ltb-false (length file) (group_at n at g + group_bytes n) (group_passed file n at g q).has_row in
    (subst P (sym (add-one g)) a, omega arith)

-- the refusal of a group is the refusal of all groups up to a later one
pub refused_on : (file : List ℕ) (n at g m : ℕ) (e : Refusal) → read_groups file n at g ≡ Ok tt → read_group file n at g ≡ Err e → g < m →
    read_groups file n at m ≡ Err e
refused_on file n at g zero e p q l = absurd (omega arith)
refused_on file n at g (suc m) e p q l =
    ⊎_elim
    (λ (i : g ≡ m). rw (← i) (rw p q))
    (λ (i : g ≡ m → ⊥). let r = refused_on file n at g m e p q (omega arith) in rw r refl)
    (cases_eq g m)

-- what is read where the header is there and the count is in range
pub read_in_range : (file : List ℕ) (n p : ℕ) → p < length file → count file p ≤ 64 →
    read file n p ≡ then (read_groups file n (p + 1) (count file p)) (Ok (count file p))
read_in_range file n p l few = rw (lt-leb (length file) p l, le-ltb 64 (count file p) few) refl

-- the refusal of a group is the refusal of the rule
pub read_refused : (file : List ℕ) (n p g : ℕ) (e : Refusal) → p < length file → count file p ≤ 64 →
    read_groups file n (p + 1) g ≡ Ok tt → read_group file n (p + 1) g ≡ Err e → g < count file p → read file n p ≡ Err e
read_refused file n p g e l few a b k =
    let r = refused_on file n (p + 1) g (count file p) e a b k in
    read_in_range file n p l few ∙ rw r refl
