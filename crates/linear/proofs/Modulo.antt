-- Numbers modulo p: which are equal, which are zero.
use Rattle.std.proofs.Common.{◌≡◌, ℕ, zero, suc, ◌+◌, ◌-◌, ◌*◌, ◌/◌, ◌%◌, ◌<◌, sym, refl, ap, ◌∙◌, mod-lt, mod-eq_of_lt, arith}
use native.Mathlib.Nat.{add-mod, mod-mod, add-mul-mod_self_left, div-add-mod, zero-mod}

-- a and b are equal modulo p
unfoldable pub Same : ℕ → ℕ → ℕ → Type 0
Same p a b = a % p ≡ b % p

-- every number is equal to itself
pub same_refl : (p a : ℕ) → Same p a a
unfolding Same
same_refl p a = refl

-- turned round
pub same_sym : (p a b : ℕ) → Same p a b → Same p b a
unfolding Same
same_sym p a b h = sym h

-- one after the other
pub same_trans : (p a b c : ℕ) → Same p a b → Same p b c → Same p a c
unfolding Same
same_trans p a b c g h = g ∙ h

-- equal numbers are equal modulo p
pub same_from : (p a b : ℕ) → a ≡ b → Same p a b
unfolding Same
same_from p a b h = ap (λ x. x % p) h

-- sums of equals
pub same_sum : (p a b c d : ℕ) → Same p a b → Same p c d → Same p (a + c) (b + d)
unfolding Same
same_sum p a b c d g h =
    let e = add-mod a c p in
    let f = add-mod b d p in cc

-- a multiple of p more changes nothing
pub same_more : (p a k : ℕ) → Same p (a + p * k) a
unfolding Same
same_more p a k = add-mul-mod_self_left a p k

-- a number and its rest
pub same_rest : (p a : ℕ) → Same p (a % p) a
unfolding Same
same_rest p a = mod-mod a p

-- a number is its rest and a multiple of p
split : (p a : ℕ) → a ≡ a % p + p * (a / p)
split p a = omega (arith, div-add-mod a p)

-- multiples of equals
pub same_multiple : (p k a b : ℕ) → Same p a b → Same p (k * a) (k * b)
unfolding Same
same_multiple p k a b h =
    let ea = split p a in
    let eb = split p b in
    let fa : k * a ≡ k * (a % p) + p * (k * (a / p)) = ap (λ x. k * x) ea ∙ omega arith in
    let fb : k * b ≡ k * (b % p) + p * (k * (b / p)) = ap (λ x. k * x) eb ∙ omega arith in
    let ga = same_more p (k * (a % p)) (k * (a / p)) in
    let gb = same_more p (k * (b % p)) (k * (b / p)) in
    ap (λ x. x % p) fa ∙ ga ∙ ap (λ x. (k * x) % p) h ∙ sym gb ∙ ap (λ x. x % p) (sym fb)

-- what is left when equals are taken away
pub same_cancel : (p a b c d : ℕ) → 0 < p → Same p (a + c) (b + d) → Same p c d → Same p a b
same_cancel p a b c d pos g h =
    let k = c * (p - 1) in
    let e = same_sum p (a + c) (b + d) (c * (p - 1)) (c * (p - 1)) g (same_refl p k) in
    let f = same_sum p d c (b + c * (p - 1)) (b + c * (p - 1)) (same_sym p c d h) (same_refl p (b + c * (p - 1))) in
    let u : a + c + c * (p - 1) ≡ a + p * c = times p a c pos in
    let v : c + (b + c * (p - 1)) ≡ b + p * c = omega (arith, times p b c pos) in
    let w : b + d + c * (p - 1) ≡ d + (b + c * (p - 1)) = omega arith in
    same_trans p a (a + p * c) b (same_sym p (a + p * c) a (same_more p a c))
    (same_trans p (a + p * c) (b + p * c) b
    (same_trans p (a + p * c) (a + c + c * (p - 1)) (b + p * c) (same_from p (a + p * c) (a + c + c * (p - 1)) (sym u))
    (same_trans p (a + c + c * (p - 1)) (b + d + c * (p - 1)) (b + p * c) e
    (same_trans p (b + d + c * (p - 1)) (d + (b + c * (p - 1))) (b + p * c) (same_from p (b + d + c * (p - 1)) (d + (b + c * (p - 1))) w)
    (same_trans p (d + (b + c * (p - 1))) (c + (b + c * (p - 1))) (b + p * c) f (same_from p (c + (b + c * (p - 1))) (b + p * c) v)))))
    (same_more p b c))
  where
    times : (p a c : ℕ) → 0 < p → a + c + c * (p - 1) ≡ a + p * c
    times zero a c pos = absurd (omega arith)
    times (suc q) a c pos =
        let e : suc q - 1 ≡ q = omega arith in rw e (omega arith)

-- x is zero modulo p
unfoldable pub Null : ℕ → ℕ → Type 0
Null p x = Same p x 0

-- zero is
pub null_zero : (p : ℕ) → Null p 0
unfolding Null
null_zero p = same_refl p 0

-- equal modulo p to what is zero
pub null_same : (p a b : ℕ) → Same p a b → Null p b → Null p a
unfolding Null
null_same p a b h g = same_trans p a b 0 h g

-- a sum
pub null_sum : (p a b : ℕ) → Null p a → Null p b → Null p (a + b)
unfolding Null
null_sum p a b g h = same_sum p a 0 b 0 g h

-- a multiple
pub null_multiple : (p k a : ℕ) → Null p a → Null p (k * a)
unfolding Null
null_multiple p k a h =
    same_trans p (k * a) (k * 0) 0 (same_multiple p k a 0 h) (same_from p (k * 0) 0 (omega arith))

-- a multiple of p
pub null_p : (p x : ℕ) → Null p (p * x)
unfolding Null
null_p p x = same_trans p (p * x) (0 + p * x) 0 (same_from p (p * x) (0 + p * x) (omega arith)) (same_more p 0 x)

-- adding what is zero changes nothing
pub same_null : (p a b : ℕ) → Null p b → Same p (a + b) a
unfolding Null
same_null p a b h =
    same_trans p (a + b) (a + 0) a (same_sum p a a b 0 (same_refl p a) h) (same_from p (a + 0) a (omega arith))

-- what is left of a sum when a part is zero
pub null_cancel : (p a b : ℕ) → Null p (a + b) → Null p b → Null p a
null_cancel p a b g h = null_same p a (a + b) (same_sym p (a + b) a (same_null p a b h)) g

-- a number and what it lacks to a multiple of p
pub null_lack : (p a : ℕ) → 0 < p → Null p (p - a % p + a)
null_lack p a pos =
    let e : p - a % p + a ≡ p * (1 + a / p) = omega (arith, div-add-mod a p, mod-lt a pos) in
    null_same p (p - a % p + a) (p * (1 + a / p)) (same_from p (p - a % p + a) (p * (1 + a / p)) e) (null_p p (1 + a / p))

-- the rest of a number that is zero
pub null_rest : (p x : ℕ) → 0 < p → Null p x → x % p ≡ 0
unfolding Null Same
null_rest p x pos h = h ∙ mod-eq_of_lt pos

-- a number whose rest is zero
pub rest_null : (p x : ℕ) → x % p ≡ 0 → Null p x
unfolding Null Same
rest_null p x h = h ∙ sym (zero-mod p)

-- equal modulo p as an equation, and back
pub same_is : (p a b : ℕ) → Same p a b → a % p ≡ b % p
unfolding Same
same_is p a b h = h

-- an equation of rests makes numbers equal modulo p
pub is_same : (p a b : ℕ) → a % p ≡ b % p → Same p a b
unfolding Same
is_same p a b h = h

-- one is not zero
pub one_not_null : (p a : ℕ) → 1 < p → Same p a 1 → Null p a → ⊥
unfolding Null Same
one_not_null p a h e z =
    let f : 1 % p ≡ 1 = mod-eq_of_lt h in
    let g : 0 % p ≡ 0 = zero-mod p in omega arith

-- two that are zero are equal
pub null_is : (p a : ℕ) → Null p a → Same p a 0
unfolding Null
null_is p a h = h
