-- Inverses modulo a prime up to 251, from one computed table.
use Rattle.std.proofs.Common.{◌≡◌, ℕ, zero, suc, ◌-◌, ◌*◌, ◌%◌, ◌^◌, ◌<◌, ◌≤◌, Bool, true, false, ◌&&◌, ◌||◌, eqb, ltb, sym, refl, ap, ◌∙◌, ⊎_elim, mod-lt, mod-eq_of_lt, pow-suc, arith}
use Rattle.std.proofs.lemmas.Bool.{cases_eq, eqb-true, le-ltb, and_parts, or_cases, both_ways}
use Rattle.linear.specs.Rows.{Prime}
use Rattle.linear.specs.Reading.{divisible}
use Rattle.linear.proofs.Modulo.{Same, Null, same_trans, same_multiple, same_rest, same_sym, is_same, rest_null}
use Rattle.linear.proofs.Reading.{divisible_never}

-- every number below k passes a test
abbrev all : ℕ → (ℕ → Bool) → Bool
all zero test = true
all (suc k) test = test k && all k test

-- so does each of them
all_at : (k : ℕ) (test : ℕ → Bool) (c : ℕ) → all k test ≡ true → c < k → test c ≡ true
all_at zero test c h l = absurd (omega arith)
all_at (suc k) test c h l =
    let a = and_parts (test k) (all k test) h in
    ⊎_elim (λ e. rw e a.0) (λ ne. all_at k test c a.1 (omega arith)) (cases_eq c k)

-- each c below p but zero has the power p - 1 equal to 1
abbrev fermat : ℕ → Bool
fermat p = all p (λ c. eqb c 0 || eqb (c ^ (p - 1) % p) 1)

-- the table: every p from 2 to 251 has a divisor, or is such
table : all 252 (λ p. ltb p 2 || (divisible p || fermat p)) ≡ true
table = refl

-- in a prime the power p - 1 of what is not zero is 1
pub power_one : (p c : ℕ) → Prime p → p ≤ 251 → c < p → (c ≡ 0 → ⊥) → c ^ (p - 1) % p ≡ 1
power_one p c prime small low ne =
    let a = all_at 252 (λ q. ltb q 2 || (divisible q || fermat q)) p table (omega arith) in
    let b : ltb p 2 ≡ false = le-ltb p 2 (omega (arith, prime.0)) in
    ⊎_elim (λ y. absurd (both_ways (ltb p 2) b y))
    (λ y. ⊎_elim (λ z. absurd (both_ways (divisible p) (divisible_never p prime.1) z)) (λ z. powers (all_at p (λ d. eqb d 0 || eqb (d ^ (p - 1) % p) 1) c z low)) (or_cases (divisible p) (fermat p) y))
    (or_cases (ltb p 2) (divisible p || fermat p) a)
  where
    powers : (eqb c 0 || eqb (c ^ (p - 1) % p) 1) ≡ true → c ^ (p - 1) % p ≡ 1
    powers z =
        ⊎_elim (λ y. absurd (ne (eqb-true c 0 y))) (λ y. eqb-true (c ^ (p - 1) % p) 1 y) (or_cases (eqb c 0) (eqb (c ^ (p - 1) % p) 1) z)

-- so the power p - 2 is an inverse
pub inverse : (p c : ℕ) → Prime p → p ≤ 251 → (Null p c → ⊥) → Same p ((c % p) ^ (p - 2) * c) 1
inverse p c prime small h =
    let pos : 0 < p = omega (arith, prime.0) in
    let e = power_one p (c % p) prime small (mod-lt c pos) (λ z. h (rest_null p c z)) in
    let f : (c % p) ^ (p - 1) ≡ (c % p) ^ (p - 2) * (c % p) = ap (λ k. (c % p) ^ k) (less p prime.0) ∙ pow-suc (c % p) (p - 2) in
    same_trans p ((c % p) ^ (p - 2) * c) ((c % p) ^ (p - 2) * (c % p)) 1 (same_multiple p ((c % p) ^ (p - 2)) c (c % p) (same_sym p (c % p) c (same_rest p c)))
    (is_same p ((c % p) ^ (p - 2) * (c % p)) 1 (ap (λ x. x % p) (sym f) ∙ e ∙ sym (mod-eq_of_lt prime.0)))
  where
    less : (p : ℕ) → 1 < p → p - 1 ≡ suc (p - 2)
    less p h = omega arith
