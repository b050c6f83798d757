-- The bits of a number, and what or, and, xor, a shift and a mask do to them.
use Rattle.std.proofs.Common.{◌≡◌, ℕ, zero, suc, ◌+◌, ◌-◌, ◌*◌, ◌/◌, ◌%◌, ◌^◌, ◌<◌, ◌≤◌, Bool, true, false, not, ◌&&◌, ◌||◌, eqb, ltb, leb, sym, refl, ap, ◌∙◌, ⊎_elim, mod-lt, mod-eq_of_lt, mul_assoc, one-mul, arith, pow_mono}
use native.Mathlib.Nat.{div-eq_of_lt}
use lib.Bits.{bit_and, bit_or, bit_xor, or_shr, or_mod, and_shr, and_mod, xor_shr, xor_mod, and_mask, xor_add_and, shifted_even}
use lib.Pow.{mod-mod-pow}
use Rattle.std.proofs.lemmas.Nat.{pow_pos, pow-add, shl-shr, shr-shr, one_shl, pow_below, field_of}
use Rattle.std.proofs.lemmas.Bool.{cases_lt, lt-leb, le-leb, lt-ltb, le-ltb, eq-eqb, and_parts}
use Rattle.sets.specs.Bits.{xor}

-- bit k of a number
abbrev pub bit : ℕ → ℕ → Bool
bit v k = eqb (v / 2 ^ k % 2) 1

-- or, and, xor of two numbers below 2 are those of the tests for 1
or_small : (x y : ℕ) → x < 2 → y < 2 → eqb (bit_or x y) 1 ≡ (eqb x 1 || eqb y 1)
or_small zero zero p q = refl
or_small zero (suc zero) p q = refl
or_small (suc zero) zero p q = refl
or_small (suc zero) (suc zero) p q = refl
or_small (suc (suc x)) y p q = absurd (omega arith)
or_small zero (suc (suc y)) p q = absurd (omega arith)
or_small (suc zero) (suc (suc y)) p q = absurd (omega arith)

-- the same of and
and_small : (x y : ℕ) → x < 2 → y < 2 → eqb (bit_and x y) 1 ≡ (eqb x 1 && eqb y 1)
and_small zero zero p q = refl
and_small zero (suc zero) p q = refl
and_small (suc zero) zero p q = refl
and_small (suc zero) (suc zero) p q = refl
and_small (suc (suc x)) y p q = absurd (omega arith)
and_small zero (suc (suc y)) p q = absurd (omega arith)
and_small (suc zero) (suc (suc y)) p q = absurd (omega arith)

-- the same of xor
xor_small : (x y : ℕ) → x < 2 → y < 2 → eqb (bit_xor x y) 1 ≡ xor (eqb x 1) (eqb y 1)
xor_small zero zero p q = refl
xor_small zero (suc zero) p q = refl
xor_small (suc zero) zero p q = refl
xor_small (suc zero) (suc zero) p q = refl
xor_small (suc (suc x)) y p q = absurd (omega arith)
xor_small zero (suc (suc y)) p q = absurd (omega arith)
xor_small (suc zero) (suc (suc y)) p q = absurd (omega arith)

-- xor with true is not
flipped : (b : Bool) → xor b true ≡ not b
flipped true = refl
flipped false = refl

-- a bit of an or, of an and, of a xor
pub bit_or_lem : (a b k : ℕ) → bit (bit_or a b) k ≡ (bit a k || bit b k)
bit_or_lem a b k =
    ap (λ (v : ℕ). eqb (v % 2) 1) (or_shr a b k) ∙ ap (λ (v : ℕ). eqb v 1) (or_mod (a / 2 ^ k) (b / 2 ^ k) 1)
    ∙ or_small (a / 2 ^ k % 2) (b / 2 ^ k % 2) (omega arith) (omega arith)

-- a bit of an and
pub bit_and_lem : (a b k : ℕ) → bit (bit_and a b) k ≡ (bit a k && bit b k)
bit_and_lem a b k =
    ap (λ (v : ℕ). eqb (v % 2) 1) (and_shr a b k) ∙ ap (λ (v : ℕ). eqb v 1) (and_mod (a / 2 ^ k) (b / 2 ^ k) 1)
    ∙ and_small (a / 2 ^ k % 2) (b / 2 ^ k % 2) (omega arith) (omega arith)

-- a bit of a xor
pub bit_xor_lem : (a b k : ℕ) → bit (bit_xor a b) k ≡ xor (bit a k) (bit b k)
bit_xor_lem a b k =
    ap (λ (v : ℕ). eqb (v % 2) 1) (xor_shr a b k) ∙ ap (λ (v : ℕ). eqb v 1) (xor_mod (a / 2 ^ k) (b / 2 ^ k) 1)
    ∙ xor_small (a / 2 ^ k % 2) (b / 2 ^ k % 2) (omega arith) (omega arith)

-- a number below 2 ^ k has no bit from k on
pub bit_above : (v k j : ℕ) → v < 2 ^ k → k ≤ j → bit v j ≡ false
bit_above v k j h l =
    let m = pow_mono l in
    let p : v < 2 ^ j = omega arith in
    ap (λ (x : ℕ). eqb (x % 2) 1) (div-eq_of_lt p)

-- below the shift a shifted number has no bits
shl_under : (v d j s : ℕ) → s ≡ suc d + j → bit (v * 2 ^ s) j ≡ false
shl_under v d j s e =
    ap (λ (x : ℕ). bit (v * 2 ^ x) j) e ∙ ap (λ (x : ℕ). bit (v * x) j) (pow-add 2 (suc d) j)
    ∙ ap (λ (x : ℕ). bit x j) (sym (mul_assoc v (2 ^ suc d) (2 ^ j)))
    ∙ ap (λ (x : ℕ). eqb (x % 2) 1) (shl-shr (v * 2 ^ suc d) j) ∙ ap (λ (x : ℕ). eqb x 1) (shifted_even v d)

-- from the shift on it has those of the number
shl_over : (v d s j : ℕ) → j ≡ s + d → bit (v * 2 ^ s) j ≡ bit v d
shl_over v d s j e =
    ap (λ (x : ℕ). bit (v * 2 ^ s) x) e ∙ ap (λ (x : ℕ). eqb (x % 2) 1) (sym (shr-shr (v * 2 ^ s) s d))
    ∙ ap (λ (x : ℕ). bit x d) (shl-shr v s)

-- zero has no bits
pub bit_zero : (j : ℕ) → bit 0 j ≡ false
bit_zero j = bit_above 0 0 j (omega arith) (omega arith)

-- a bit of a number shifted to the left
pub bit_shl : (v s j : ℕ) → bit (v * 2 ^ s) j ≡ (leb s j && bit v (j - s))
bit_shl v s j =
    ⊎_elim
    (λ (l : j < s). let e = shl_under v (s - j - 1) j s (omega arith) in let f = lt-leb s j l in cc)
    (λ (l : s ≤ j). let e = shl_over v (j - s) s j (omega arith) in let f = le-leb s j l in cc)
    (cases_lt j s)

-- a bit of a number shifted to the right
pub bit_shr : (v s j : ℕ) → bit (v / 2 ^ s) j ≡ bit v (s + j)
bit_shr v s j = ap (λ (x : ℕ). eqb (x % 2) 1) (shr-shr v s j)

-- the low m bits keep a bit below m
low_under : (v d j m : ℕ) → m ≡ d + 1 + j → bit (v % 2 ^ m) j ≡ bit v j
low_under v d j m e =
    ap (λ (x : ℕ). bit (v % 2 ^ x) j) e ∙ ap (λ (x : ℕ). eqb (x % 2) 1) (field_of v (d + 1) j)
    ∙ ap (λ (x : ℕ). eqb x 1) (mod-mod-pow (v / 2 ^ j) d 1)

-- a bit of the low m bits of a number
pub bit_low : (v m j : ℕ) → bit (v % 2 ^ m) j ≡ (ltb j m && bit v j)
bit_low v m j =
    ⊎_elim
    (λ (l : j < m). let e = low_under v (m - j - 1) j m (omega arith) in let f = lt-ltb j m l in cc)
    (λ (l : m ≤ j).
    let e = bit_above (v % 2 ^ m) m j (mod-lt v (pow_pos m)) l in
    let f = le-ltb j m l in
    cc)
    (cases_lt j m)

-- 1 has bit 0 only
bit_of_one : (d : ℕ) → bit 1 d ≡ eqb d 0
bit_of_one zero = refl
bit_of_one (suc d) = let e = bit_above 1 1 (suc d) (omega arith) (omega arith) in grind arith

-- the one bit of a power of two
pub bit_pow : (k j : ℕ) → bit (2 ^ k) j ≡ eqb j k
bit_pow k j =
    let e : bit (2 ^ k) j ≡ (leb k j && bit 1 (j - k)) = rw (one-mul (2 ^ k)) at (bit_shl 1 k j) in
    let o : bit 1 (j - k) ≡ eqb (j - k) 0 = bit_of_one (j - k) in
    let f : (leb k j && eqb (j - k) 0) ≡ eqb j k = grind arith in
    cc

-- the one bit of `1 << k` at a width
pub bit_one : (w k j : ℕ) → k < w → bit ((1 * 2 ^ k) % 2 ^ w) j ≡ eqb j k
bit_one w k j h = ap (λ (x : ℕ). bit x j) (one_shl k w h) ∙ bit_pow k j

-- 2 ^ w - 1 has all bits below w
bit_mask : (w j : ℕ) → j < w → bit (2 ^ w - 1) j ≡ true
bit_mask w j h =
    let m = and_mask (2 ^ j) w in
    let p = pow_below j w h in
    let q : 2 ^ j % 2 ^ w ≡ 2 ^ j = mod-eq_of_lt p in
    let a = bit_and_lem (2 ^ j) (2 ^ w - 1) j in
    let b : bit (2 ^ j) j ≡ true = bit_pow j j ∙ eq-eqb j j refl in
    let c : bit (bit_and (2 ^ j) (2 ^ w - 1)) j ≡ true = ap (λ (x : ℕ). bit x j) (m ∙ q) ∙ b in
    let d : (bit (2 ^ j) j && bit (2 ^ w - 1) j) ≡ true = sym a ∙ c in
    (and_parts (bit (2 ^ j) j) (bit (2 ^ w - 1) j) d).1

-- a bit of the complement at a width
pub bit_not : (w v j : ℕ) → v < 2 ^ w → j < w → bit (2 ^ w - 1 - v) j ≡ not (bit v j)
bit_not w v j h l =
    let s = xor_add_and v (2 ^ w - 1) in
    let a : bit_and v (2 ^ w - 1) ≡ v = and_mask v w ∙ mod-eq_of_lt h in
    let x : 2 ^ w - 1 - v ≡ bit_xor v (2 ^ w - 1) = omega arith in
    let t = bit_mask w j l in
    let e : xor (bit v j) true ≡ not (bit v j) = flipped (bit v j) in
    ap (λ (y : ℕ). bit y j) x ∙ bit_xor_lem v (2 ^ w - 1) j ∙ ap (λ (b : Bool). xor (bit v j) b) t ∙ e

-- bit i set in a number of w bits
pub bit_set : (w v i j : ℕ) → i < w → bit (bit_or v ((1 * 2 ^ i) % 2 ^ w)) j ≡ (bit v j || eqb j i)
bit_set w v i j h = bit_or_lem v ((1 * 2 ^ i) % 2 ^ w) j ∙ ap (λ (b : Bool). bit v j || b) (bit_one w i j h)

-- bit i taken out of it
pub bit_unset : (w v i j : ℕ) → i < w → j < w → bit (bit_and v (2 ^ w - 1 - (1 * 2 ^ i) % 2 ^ w)) j ≡ (bit v j && not (eqb j i))
bit_unset w v i j h l =
    let m = (1 * 2 ^ i) % 2 ^ w in
    bit_and_lem v (2 ^ w - 1 - m) j
    ∙ ap (λ (b : Bool). bit v j && b) (bit_not w m j (mod-lt _ (pow_pos w)) l)
    ∙ ap (λ (b : Bool). bit v j && not b) (bit_one w i j h)
