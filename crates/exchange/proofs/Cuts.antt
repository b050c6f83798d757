-- Sequences with a part left out: which elements stay, and what they weigh together.
use Rattle.std.proofs.Common.{◌≡◌, ℕ, zero, suc, ◌+◌, ◌<◌, ◌≤◌, ltb, refl, ap, subst, ⊎_elim, add-zero, add-suc, add_comm, arith}
use Rattle.std.proofs.lemmas.Bool.{cases_lt}
use Rattle.sets.specs.Matroid.{pick}
use Rattle.exchange.specs.Paths.{total}

-- the places that stay where d places from place p on are left out
abbrev pub skip : ℕ → ℕ → ℕ → ℕ
skip p d i = pick (ltb i p) i (d + i)

-- a sequence with d elements left out from place p on
abbrev pub cut : (ℕ → ℕ) → ℕ → ℕ → ℕ → ℕ
cut x p d i = x (skip p d i)

-- the sequence from place p on
abbrev pub later : (ℕ → ℕ) → ℕ → ℕ → ℕ
later x p i = x (p + i)

-- no place is met twice
pub skip_once : (p d i j : ℕ) → skip p d i ≡ skip p d j → i ≡ j
skip_once p d i j e = grind arith

-- before place p nothing has changed
pub skip_before : (p d i : ℕ) → i < p → skip p d i ≡ i
skip_before p d i h = grind arith

-- from place p on the places are d further
pub skip_after : (p d i : ℕ) → p ≤ i → skip p d i ≡ d + i
skip_after p d i h = grind arith

-- sequences that agree weigh the same
pub total_same : (w x u : ℕ → ℕ) (k : ℕ) → ((i : ℕ) → i < k → x i ≡ u i) → total w x k ≡ total w u k
total_same w x u zero same = refl
total_same w x u (suc k) same =
    let r : total w x k ≡ total w u k = total_same w x u k (λ i h. same i (omega arith)) in
    let e : w (x k) ≡ w (u k) = ap w (same k (omega arith)) in
    omega arith

-- a sequence weighs what its two parts weigh
pub total_parts : (w x : ℕ → ℕ) (p d : ℕ) → total w x (p + d) ≡ total w x p + total w (later x p) d
total_parts w x p zero = simp add-zero
total_parts w x p (suc d) =
    let r : total w x (p + d) ≡ total w x p + total w (later x p) d = total_parts w x p d in
    rw add-suc (omega arith)

-- .. where nothing stands behind the part that is left out
total_cut_last : (w x : ℕ → ℕ) (p d : ℕ) → total w (cut x p d) p + total w (later x p) d ≡ total w x (d + p)
total_cut_last w x p d =
    let same : total w (cut x p d) p ≡ total w x p = total_same w (cut x p d) x p (λ i h. ap x (skip_before p d i h)) in
    let parts : total w x (p + d) ≡ total w x p + total w (later x p) d = total_parts w x p d in
    rw (add_comm d p) (omega arith)

-- what stays and what is left out weigh together what the sequence weighs
pub total_cut : (w x : ℕ → ℕ) (p d e : ℕ) → p ≤ e → total w (cut x p d) e + total w (later x p) d ≡ total w x (d + e)
total_cut w x p d zero h =
    let z : p ≡ 0 = omega arith in
    subst (λ q. total w (cut x p d) q + total w (later x p) d ≡ total w x (d + q)) z (total_cut_last w x p d)
total_cut w x p d (suc e) h = ⊎_elim
    (λ (b : p < suc e).
    let r : total w (cut x p d) e + total w (later x p) d ≡ total w x (d + e) = total_cut w x p d e (omega arith) in
    let c : w (cut x p d e) ≡ w (x (d + e)) = ap (λ i. w (x i)) (skip_after p d e (omega arith)) in
    rw add-suc (omega arith))
    (λ (b : suc e ≤ p).
    let z : p ≡ suc e = omega arith in
    subst (λ q. total w (cut x p d) q + total w (later x p) d ≡ total w x (d + q)) z (total_cut_last w x p d))
    (cases_lt p (suc e))
