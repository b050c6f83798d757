-- Rows of groups taken byte by byte: what a test of bytes says of sets.
use Rattle.std.proofs.Common.{◌≡◌, ℕ, ◌+◌, ◌-◌, ◌*◌, ◌/◌, ◌%◌, ◌^◌, ◌<◌, ◌≤◌, Bool, true, false, not, ◌&&◌, eqb, ltb, List, get_or, refl, sym, ap, ap₂, ◌∙◌, ⊎_elim, mod-lt, mod-eq_of_lt, min, pow_mono, arith}
use lib.Bits.{bit_and}
use Rattle.std.proofs.Math.Nat.{min-eq_left, min-eq_right, min-le_left, min-le_right}
use Rattle.std.proofs.lemmas.Nat.{and_le_l, one_shl, pow_pos}
use Rattle.std.proofs.lemmas.Bool.{cases_Bool, cases_lt, both_ways, ne_eqb, lt-ltb, le-ltb, ltb-true, and_parts}
use Rattle.sets.specs.Matroid.{Set, both, outside}
use Rattle.sets.specs.Bits.{row}
use Rattle.sets.proofs.Masks.{bit, bit_and_lem, bit_low, bit_not, bit_zero}
use Rattle.sets.proofs.Stretches.{row_is}
use Rattle.sets.proofs.FiniteSets.{look_up}
use Rattle.laminar.specs.Reading.{some}
use Rattle.laminar.proofs.Kept.{no_bits}
use Rattle.laminar.proofs.Nested.{some_found, some_none, none_some, found_some}

-- a byte that is not 0 has a bit
has_bit : (v : ℕ) → v < 256 → not (eqb v 0) ≡ true → (j : ℕ) × (j < 8) × (bit v j ≡ true)
has_bit v l e =
    ⊎_elim
    (λ (w : (j : ℕ) × (j < 8) × (bit v j ≡ true)). w)
    (λ (h : (j : ℕ) → j < 8 → bit v j ≡ false). absurd (shown v (no_bits 8 v l h) e))
    (look_up 8 (bit v))
  where
    shown : (v : ℕ) → v ≡ 0 → not (eqb v 0) ≡ true → ⊥
    shown v z e = grind arith

-- a number that has a bit is not 0
bit_shows : (v j : ℕ) → bit v j ≡ true → not (eqb v 0) ≡ true
bit_shows v j e = ap not (ne_eqb v 0 (λ z. both_ways (bit v j) (rw z (bit_zero j)) e))

-- numbers, the eight bits of each of which are eight elements of a set below n: one of them is not 0 just where the set has one
some_bytes : (n m : ℕ) (v : ℕ → ℕ) (s : Set) → n ≤ 8 * m → ((k : ℕ) → v k < 256) →
    ((k j : ℕ) → j < 8 → bit (v k) j ≡ (ltb (8 * k + j) n && s (8 * k + j))) → some m (λ k. not (eqb (v k) 0)) ≡ some n s
some_bytes n m v s l small bits =
    ⊎_elim
    (λ (e : some m t ≡ true).
    let x = some_found m t e in
    let y = has_bit (v x.0) (small x.0) x.2 in
    let p = and_parts (ltb (8 * x.0 + y.0) n) (s (8 * x.0 + y.0)) (sym (bits x.0 y.0 y.1) ∙ y.2) in
    e ∙ sym (found_some n s (8 * x.0 + y.0) (ltb-true (8 * x.0 + y.0) n p.0) p.1))
    (λ (e : some m t ≡ false).
    e ∙ sym (none_some n s (λ i h. ⊎_elim
    (λ (c : s i ≡ true).
    let z : 8 * (i / 8) + i % 8 ≡ i = omega arith in
    let b = rw z at (bits (i / 8) (i % 8) (omega arith)) in
    let d : bit (v (i / 8)) (i % 8) ≡ true = b ∙ ap₂ ◌&&◌ (lt-ltb i n h) c in
    absurd (both_ways (t (i / 8)) (some_none m t e (i / 8) (omega arith)) (bit_shows (v (i / 8)) (i % 8) d)))
    (λ (c : s i ≡ false). c)
    (cases_Bool (s i)))))
    (cases_Bool (some m t))
  where
    t : Set
    t k = not (eqb (v k) 0)

-- a number below two others is below the lesser
lt_min : (a b j : ℕ) → j < a → j < b → j < min a b
lt_min a b j p q =
    ⊎_elim (λ (h : a < b). let m : min a b ≡ a = min-eq_left (omega arith) in rw m p) (λ (h : b ≤ a). let m : min a b ≡ b = min-eq_right h in rw m q) (cases_lt a b)

-- byte k of the row from byte p on, without the bits from n on
abbrev pub byte : List ℕ → ℕ → ℕ → ℕ → ℕ
byte file n p k = get_or file (p + k) 0 % 2 ^ min 8 (n - 8 * k)

-- it is a byte
byte_low : (file : List ℕ) (n p k : ℕ) → byte file n p k < 256
byte_low file n p k =
    let m : 2 ^ min 8 (n - 8 * k) ≤ 2 ^ 8 = pow_mono (min-le_left 8 (n - 8 * k)) in
    let r = mod-lt (get_or file (p + k) 0) (pow_pos (min 8 (n - 8 * k))) in
    omega arith

-- its bits are the elements of the row below n
byte_bit : (file : List ℕ) (n p k j : ℕ) → j < 8 → bit (byte file n p k) j ≡ (ltb (8 * k + j) n && row file p (8 * k + j))
byte_bit file n p k j l =
    let q : (8 * k + j) / 8 ≡ k = omega arith in
    let r : (8 * k + j) % 8 ≡ j = omega arith in
    bit_low (get_or file (p + k) 0) (min 8 (n - 8 * k)) j ∙ ap₂ ◌&&◌ below (sym (rw (q, r) at (row_is file p (8 * k + j))))
  where
    below : ltb j (min 8 (n - 8 * k)) ≡ ltb (8 * k + j) n
    below =
        ⊎_elim
        (λ (h : 8 * k + j < n). lt-ltb j (min 8 (n - 8 * k)) (lt_min 8 (n - 8 * k) j l (omega arith)) ∙ sym (lt-ltb (8 * k + j) n h))
        (λ (h : n ≤ 8 * k + j). let m = min-le_right 8 (n - 8 * k) in le-ltb j (min 8 (n - 8 * k)) (omega arith) ∙ sym (le-ltb (8 * k + j) n h))
        (cases_lt (8 * k + j) n)

-- two rows share an element below n just where two of their bytes share a bit
pub some_shared : (file : List ℕ) (n p q : ℕ) →
    some ((n + 7) / 8) (λ k. not (eqb (bit_and (byte file n p k) (byte file n q k)) 0)) ≡ some n (both (row file p) (row file q))
some_shared file n p q =
    some_bytes n ((n + 7) / 8) (λ k. bit_and (byte file n p k) (byte file n q k)) (both (row file p) (row file q)) (omega arith)
    (λ k. let a = and_le_l (byte file n p k) (byte file n q k) in let b = byte_low file n p k in omega arith)
    (λ k j l. bit_and_lem (byte file n p k) (byte file n q k) j ∙ ap₂ ◌&&◌ (byte_bit file n p k j l) (byte_bit file n q k j l) ∙
    joined (ltb (8 * k + j) n) (row file p (8 * k + j)) (row file q (8 * k + j)))
  where
    joined : (c a b : Bool) → ((c && a) && (c && b)) ≡ (c && (a && b))
    joined c a b = grind arith

-- a row has an element below n that another lacks just where one of its bytes has such a bit
pub some_lacking : (file : List ℕ) (n p q : ℕ) →
    some ((n + 7) / 8) (λ k. not (eqb (bit_and (byte file n p k) (255 - byte file n q k)) 0)) ≡ some n (outside (row file p) (row file q))
some_lacking file n p q =
    some_bytes n ((n + 7) / 8) (λ k. bit_and (byte file n p k) (255 - byte file n q k)) (outside (row file p) (row file q)) (omega arith)
    (λ k. let a = and_le_l (byte file n p k) (255 - byte file n q k) in let b = byte_low file n p k in omega arith)
    (λ k j l.
    let e = bit_not 8 (byte file n q k) j (byte_low file n q k) l in
    bit_and_lem (byte file n p k) (255 - byte file n q k) j ∙ ap₂ ◌&&◌ (byte_bit file n p k j l) (e ∙ ap not (byte_bit file n q k j l)) ∙
    parted (ltb (8 * k + j) n) (row file p (8 * k + j)) (row file q (8 * k + j)))
  where
    parted : (c a b : Bool) → ((c && a) && not (c && b)) ≡ (c && (a && not b))
    parted c a b = grind arith

-- fewer than eight bits of a number
pub few_bits : (v m : ℕ) → m < 8 → v % ((1 * 2 ^ m) % 256) ≡ v % 2 ^ min 8 m
few_bits v m l = let p : (1 * 2 ^ m) % 256 ≡ 2 ^ m = one_shl m 8 l in let q : min 8 m ≡ m = min-eq_right (omega arith) in rw (p, q) refl

-- all eight bits of a byte
pub all_bits : (v m : ℕ) → v < 256 → 8 ≤ m → v ≡ v % 2 ^ min 8 m
all_bits v m b l = let q : min 8 m ≡ 8 = min-eq_left l in rw q (sym (mod-eq_of_lt b))
