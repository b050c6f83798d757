-- Numbers in bytes, the low byte first: one byte more at either end, and what a write of a byte does.
use Rattle.std.proofs.Common.{◌≡◌, ℕ, zero, suc, ◌+◌, ◌-◌, ◌*◌, ◌/◌, ◌%◌, ◌^◌, ◌<◌, ◌≤◌, List, length, get_or, set, sym, refl, ap, ◌∙◌, arith, add-one}
use Rattle.std.proofs.Math.Nat.{pow-succ', mul_comm, div-div-eq-div-mul, pow-le-pow_right, one-le-pow}
use Rattle.std.proofs.Math.Arith.{mod-mul}
use Rattle.std.proofs.lemmas.List.{get_or-set_same, get_or-set_other}
use Rattle.sets.specs.Bits.{le, le2, le4, le8}

-- bytes that stay leave the number
pub le_same : (n : ℕ) (xs ys : List ℕ) (at : ℕ) → ((p : ℕ) → at ≤ p → p < at + n → get_or ys p 0 ≡ get_or xs p 0) → le n ys at ≡ le n xs at
le_same zero xs ys at h = refl
le_same (suc n) xs ys at h =
    let first = h at (omega arith) (omega arith) in
    let others = le_same n xs ys (at + 1) (λ p l k. h p (omega arith) (omega arith)) in
    omega arith

-- a read goes on by a lower byte: the number, and its range
pub le_lower : (n k v : ℕ) (xs : List ℕ) (at : ℕ) → k ≤ n → 0 < k → get_or xs (at + (k - 1)) 0 < 256 → (v ≡ le (n - k) xs (at + k)) × (v < 256 ^ (n - k)) →
    (256 * v + get_or xs (at + (k - 1)) 0 ≡ le (n - (k - 1)) xs (at + (k - 1))) × (256 * v + get_or xs (at + (k - 1)) 0 < 256 ^ (n - (k - 1)))
le_lower n k v xs at l p b (e, r) =
    let more : n - (k - 1) ≡ suc (n - k) = omega arith in
    let next : at + k ≡ at + (k - 1) + 1 = omega arith in
    let f : v ≡ le (n - k) xs (at + (k - 1) + 1) = e ∙ ap (le (n - k) xs) next in
    let t = pow-succ' 256 (n - k) in
    rw more (omega arith, omega arith)

-- fewer than eight bytes leave room for one more
pub le_room : (n k v b : ℕ) → n ≤ 8 → 0 < k → k ≤ n → b < 256 → v < 256 ^ (n - k) → 256 * v + b < 2 ^ 64
le_room n k v b w p l h r =
    let t = pow-succ' 256 (n - k) in
    let d : suc (n - k) ≤ 8 = omega arith in
    let m : 256 ^ suc (n - k) ≤ 256 ^ 8 = pow-le-pow_right {n = 256} (omega arith) d in
    omega arith

-- the number by its highest byte
le_top : (n : ℕ) (xs : List ℕ) (at : ℕ) → le (suc n) xs at ≡ le n xs at + 256 ^ n * get_or xs (at + n) 0
le_top zero xs at = grind arith
le_top (suc n) xs at =
    step (get_or xs at 0) (le n xs (at + 1)) (256 ^ n) (256 ^ suc n) (get_or xs (at + 1 + n) 0) (get_or xs (at + suc n) 0) (le (suc n) xs (at + 1))
    (le_top n xs (at + 1)) (ap (λ (q : ℕ). get_or xs q 0) (omega arith)) (pow-succ' 256 n)
  where
    step : (a l t u x y m : ℕ) → m ≡ l + t * x → x ≡ y → u ≡ 256 * t → a + 256 * m ≡ a + 256 * l + u * y
    step a l t u x y m e f g = rw (e, f, g) (grind arith)

-- a write goes on by a higher byte
pub le_higher : (k left value : ℕ) (xs : List ℕ) (at : ℕ) → at + k < length xs → left ≡ value / 256 ^ k → le k xs at ≡ value % 256 ^ k →
    (left / 256 ≡ value / 256 ^ (k + 1)) × (le (k + 1) (set xs (at + k) (left % 256)) at ≡ value % 256 ^ (k + 1))
le_higher k left value xs at h e f =
    let t : 256 ^ (k + 1) ≡ 256 * 256 ^ k = rw add-one (pow-succ' 256 k) in
    let ys = set xs (at + k) (left % 256) in
    let low = le_same k xs ys at (λ p l m. get_or-set_other xs (at + k) p (left % 256) 0 (λ q. omega arith)) in
    let high = get_or-set_same xs (at + k) (left % 256) 0 h in
    let top : le (k + 1) ys at ≡ le k ys at + 256 ^ k * get_or ys (at + k) 0 = rw add-one (le_top k ys at) in
    let digits : value % (256 * 256 ^ k) ≡ (value / 256 ^ k % 256) * 256 ^ k + value % 256 ^ k = mod-mul value {m = 256} (omega arith) (one-le-pow k 256 (omega arith)) in
    let digit = ap (λ (q : ℕ). q % 256) e in (
      ap (λ (q : ℕ). q / 256) e ∙ div-div-eq-div-mul value (256 ^ k) 256 ∙ ap (λ (q : ℕ). value / q) (mul_comm (256 ^ k) 256 ∙ sym t),
      top ∙ ap (λ (q : ℕ). q + 256 ^ k * get_or ys (at + k) 0) (low ∙ f)
          ∙ ap (λ (q : ℕ). value % 256 ^ k + 256 ^ k * q) (high ∙ digit)
          ∙ order (value % 256 ^ k) (256 ^ k) (value / 256 ^ k % 256)
          ∙ sym digits
          ∙ ap (λ (q : ℕ). value % q) (sym t),
    )
  where
    order : (a t b : ℕ) → a + t * b ≡ b * t + a
    order a t b = grind arith

-- what two, four and eight bytes come to
pub le_two : (xs : List ℕ) (at : ℕ) → le2 xs at ≡ get_or xs at 0 + 256 * get_or xs (at + 1) 0
le_two xs at = omega arith

pub le_four : (xs : List ℕ) (at : ℕ) → le4 xs at ≡ le2 xs at + 65536 * le2 xs (at + 2)
le_four xs at = grind arith

pub le_eight : (xs : List ℕ) (at : ℕ) → le8 xs at ≡ le4 xs at + 4294967296 * le4 xs (at + 4)
le_eight xs at = grind arith
