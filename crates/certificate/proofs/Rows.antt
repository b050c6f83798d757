-- Where the rows of a certificate stand, one behind the other.
use Rattle.std.proofs.Common.{◌≡◌, ℕ, ◌+◌, ◌-◌, ◌*◌, ◌/◌, ◌<◌, ◌≤◌, mul-le-mul, mul-le-mul_right, add-mul, arith}
use Rattle.sets.specs.Bits.{row_bytes}
use Rattle.certificate.specs.Layout.{row_at}

-- a certificate is not long
pub row_at_small : (n i : ℕ) → n ≤ 600 → i ≤ 602 → row_at n i ≤ 6000000
row_at_small n i h l =
    let a : i * row_bytes n ≤ 602 * 75 = mul-le-mul l (let b : row_bytes n ≤ 75 = omega arith in b) in
    let p : i - 2 ≤ 600 = omega arith in
    let q : 16 * n ≤ 9600 = omega arith in
    let b : (i - 2) * (16 * n) ≤ 600 * 9600 = mul-le-mul p q in
    omega arith

-- a later row begins behind an earlier one
pub row_apart : (n i j : ℕ) → i < j → row_at n i + row_bytes n ≤ row_at n j
row_apart n i j h =
    let a : (i + 1) * row_bytes n ≤ j * row_bytes n = mul-le-mul_right (row_bytes n) (let l : i + 1 ≤ j = omega arith in l) in
    let b : (i - 2) * (16 * n) ≤ (j - 2) * (16 * n) = mul-le-mul_right (16 * n) (let l : i - 2 ≤ j - 2 = omega arith in l) in
    let e : (i + 1) * row_bytes n ≡ i * row_bytes n + 1 * row_bytes n = add-mul i 1 (row_bytes n) in
    omega arith

-- a bit from n on is in the last byte of its row
pub last_byte : (n j : ℕ) → 1 ≤ n → n ≤ j → j < 8 * row_bytes n → j / 8 + 1 ≡ row_bytes n
last_byte n j o h l = omega arith
