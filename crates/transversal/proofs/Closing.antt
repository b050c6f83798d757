-- Rows are closed through one offer after another.
use Rattle.std.proofs.Common.{◌≡◌, ℕ, ◌+◌, ◌<◌, ◌≤◌, Bool, true, false, ◌&&◌, ◌||◌, sym, ap, ◌∙◌, ⊎_elim, arith}
use Rattle.std.proofs.lemmas.Bool.{cases_Bool, cases_lt}
use Rattle.transversal.specs.Pairs.{Chain, one, more, through}

-- the rows t, closed through the offers below j
pub record Closing (n : ℕ) (old t : ℕ → ℕ → Bool) (j : ℕ) : Type 0 where
  pub chains : (k x : ℕ) → k ≤ n → x < n → t k x ≡ true → Chain n old k x
  pub base : (k x : ℕ) → k ≤ n → x < n → old k x ≡ true → t k x ≡ true
  pub closed : (k z x : ℕ) → k ≤ n → z < j → x < n → t k z ≡ true → t z x ≡ true → t k x ≡ true

-- nothing is closed at the start
pub closing_start : (n : ℕ) (old : ℕ → ℕ → Bool) → Closing n old old 0
closing_start n old = record { chains = λ k x h l e. one e; base = λ k x h l e. e; closed = λ k z x h l. absurd (omega arith) }

-- two steps through j, or fewer, are one
joined : (kz kj jz zx zj jx kx : Bool) → (kz || (kj && jz)) ≡ true → (zx || (zj && jx)) ≡ true →
    (kz ≡ true → zx ≡ true → kx ≡ true) → (kz ≡ true → zj ≡ true → kj ≡ true) → (jz ≡ true → zx ≡ true → jx ≡ true) → (kx || (kj && jx)) ≡ true
joined kz kj jz zx zj jx kx p q a b c = grind arith

-- closed through j too
pub closing_more : (n : ℕ) (old t s : ℕ → ℕ → Bool) (j : ℕ) → Closing n old t j → j < n →
    ((k x : ℕ) → k ≤ n → x < n → s k x ≡ through t j k x) → Closing n old s (j + 1)
closing_more n old t s j c h same = record {
  chains = λ k x hk hx e. ⊎_elim
      (λ d. c.chains k x hk hx d)
      (λ d. let a : through t j k x ≡ true = sym (same k x hk hx) ∙ e in
      more h (c.chains k j hk h (grind arith)) (c.chains j x (omega arith) hx (grind arith)))
      (cases_Bool (t k x));
  base = λ k x hk hx e. let a : t k x ≡ true = c.base k x hk hx e in same k x hk hx ∙ grind arith;
  closed = λ k z x hk hz hx p q.
      let a : through t j k z ≡ true = sym (same k z hk (omega arith)) ∙ p in
      let b : through t j z x ≡ true = sym (same z x (omega arith) hx) ∙ q in
      same k x hk hx ∙ ⊎_elim
      (λ l. joined (t k z) (t k j) (t j z) (t z x) (t z j) (t j x) (t k x) a b (c.closed k z x hk l hx) (c.closed k z j hk l h) (c.closed j z x (omega arith) l hx))
      (λ l. let i : z ≡ j = omega arith in here k z x i a b)
      (cases_lt z j);
}
  where
    here : (k z x : ℕ) → z ≡ j → through t j k z ≡ true → through t j z x ≡ true → through t j k x ≡ true
    here k z x i a b =
        let a' : through t j k j ≡ true = ap (λ w. through t j k w) (sym i) ∙ a in
        let b' : through t j j x ≡ true = ap (λ w. through t j w x) (sym i) ∙ b in
        grind arith

-- a chain from a row begins in that row
pub chain_begins : (n : ℕ) (t : ℕ → ℕ → Bool) (k x : ℕ) → x < n → Chain n t k x → (z : ℕ) × (z < n) × (t k z ≡ true)
chain_begins n t k x h (one e) = (x, h, e)
chain_begins n t k x h (more {z = z} l a b) = chain_begins n t k z l a

-- an empty row brings nothing
pub closing_skip : (n : ℕ) (old t : ℕ → ℕ → Bool) (j : ℕ) → Closing n old t j → j < n → ((x : ℕ) → x < n → old j x ≡ false) → Closing n old t (j + 1)
closing_skip n old t j c h empty = record {
  chains = c.chains;
  base = c.base;
  closed = λ k z x hk hz hx p q. ⊎_elim (λ l. c.closed k z x hk l hx p q)
      (λ l. let i : z ≡ j = omega arith in
      let r = chain_begins n old j x hx (c.chains j x (omega arith) hx (ap (λ w. t w x) (sym i) ∙ q)) in
      let d : old j r.0 ≡ false = empty r.0 r.1 in
      let e : old j r.0 ≡ true = r.2 in absurd (grind arith))
      (cases_lt z j);
}
