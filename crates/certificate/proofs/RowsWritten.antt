-- The bytes of a certificate, written row by row.
use Rattle.std.proofs.Common.{◌≡◌, ℕ, ◌+◌, ◌-◌, ◌*◌, ◌/◌, ◌%◌, ◌<◌, ◌≤◌, ◌&&◌, ltb, List, length, get_or, take, drop, length-take, length-drop, sym, ap, ◌∙◌, subst, inl, inr, ⊎_elim, mul-le-mul_right, add-mul, arith}
use Rattle.std.proofs.lemmas.Bool.{cases_lt}
use Rattle.std.proofs.lemmas.List.{get_or-take, get_or-drop}
use Rattle.sets.specs.Bits.{row, row_bytes, le2, le4, le8, SameBut}
use Rattle.sets.proofs.Masks.{bit}
use Rattle.sets.proofs.Stretches.{row_is}
use Rattle.certificate.specs.Layout.{row_at}
use Rattle.certificate.specs.Writing.{RowWritten, NumbersWritten, Written, OnlyRow}
use Rattle.certificate.proofs.Rows.{row_apart}

-- two lists have the same numbers below m
abbrev pub Agree : ℕ → List ℕ → List ℕ → Type 0
Agree m old new = (p : ℕ) → p < m → get_or new p 0 ≡ get_or old p 0

-- a row below m has the same bits
pub row_along : (m : ℕ) (old new : List ℕ) (at j : ℕ) → Agree m old new → at + j / 8 < m → row new at j ≡ row old at j
row_along m old new at j h l = row_is new at j ∙ ap (λ (v : ℕ). bit v (j % 8)) (h (at + j / 8) l) ∙ sym (row_is old at j)

-- the number in two bytes below m
le2_along : (m : ℕ) (old new : List ℕ) (at : ℕ) → Agree m old new → at + 2 ≤ m → le2 new at ≡ le2 old at
le2_along m old new at h l =
    let a : get_or new at 0 ≡ get_or old at 0 = h at (omega arith) in
    let b : get_or new (at + 1) 0 ≡ get_or old (at + 1) 0 = h (at + 1) (omega arith) in
    cc

-- the number in four bytes below m
le4_along : (m : ℕ) (old new : List ℕ) (at : ℕ) → Agree m old new → at + 4 ≤ m → le4 new at ≡ le4 old at
le4_along m old new at h l =
    let a : le2 new at ≡ le2 old at = le2_along m old new at h (omega arith) in
    let b : le2 new (at + 2) ≡ le2 old (at + 2) = le2_along m old new (at + 2) h (omega arith) in
    omega arith

-- the number in eight bytes below m
pub le8_along : (m : ℕ) (old new : List ℕ) (at : ℕ) → Agree m old new → at + 8 ≤ m → le8 new at ≡ le8 old at
le8_along m old new at h l =
    let a : le4 new at ≡ le4 old at = le4_along m old new at h (omega arith) in
    let b : le4 new (at + 4) ≡ le4 old (at + 4) = le4_along m old new (at + 4) h (omega arith) in
    omega arith

-- one more of a product
one_more : (i c : ℕ) → (i + 1) * c ≡ i * c + c
one_more i c = let r : (i + 1) * c ≡ i * c + 1 * c = add-mul i 1 c in omega arith

-- from the third row on the numbers fill the place up to the next row
pub next_row : (n i : ℕ) → 2 ≤ i → row_at n i + row_bytes n + 16 * n ≡ row_at n (i + 1)
next_row n i h =
    let a : (i + 1) * row_bytes n ≡ i * row_bytes n + row_bytes n = one_more i (row_bytes n) in
    let b : (i - 2 + 1) * (16 * n) ≡ (i - 2) * (16 * n) + 16 * n = one_more (i - 2) (16 * n) in
    let e : i - 2 + 1 ≡ i + 1 - 2 = omega arith in
    let d : (i - 2 + 1) * (16 * n) ≡ (i + 1 - 2) * (16 * n) = ap (λ (v : ℕ). v * (16 * n)) e in
    omega arith

-- rows stand in their order
pub rows_ordered : (n i j : ℕ) → i ≤ j → row_at n i ≤ row_at n j
rows_ordered n i j h =
    let a : i * row_bytes n ≤ j * row_bytes n = mul-le-mul_right (row_bytes n) h in
    let b : (i - 2) * (16 * n) ≤ (j - 2) * (16 * n) = mul-le-mul_right (16 * n) (let l : i - 2 ≤ j - 2 = omega arith in l) in
    omega arith

-- a row that is written stays so where the bytes below m do
row_stays : (n m : ℕ) (sets old new : List ℕ) (i : ℕ) → row_at n i + row_bytes n ≤ m → Agree m old new → RowWritten n sets old i →
    RowWritten n sets new i
row_stays n m sets old new i l h w j b = row_along m old new (row_at n i) j h (omega arith) ∙ w j b

-- and so do the numbers behind it
numbers_stay : (n m : ℕ) (numbers old new : List ℕ) (i : ℕ) → row_at n i + row_bytes n + 16 * n ≤ m → Agree m old new →
    NumbersWritten n numbers old i → NumbersWritten n numbers new i
numbers_stay n m numbers old new i l h w x b = le8_along m old new (row_at n i + row_bytes n + 8 * x) h (omega arith) ∙ w x b

-- what is written stays so where the bytes below the next row do
pub written_along : (n : ℕ) (sets numbers old new : List ℕ) (rows : ℕ) → Agree (row_at n rows) old new → Written n sets numbers old rows →
    Written n sets numbers new rows
written_along n sets numbers old new rows h w =
    record {
      bits = λ i l. row_stays n (row_at n rows) sets old new i (row_apart n i rows l) h (w.bits i l);
      parts = λ i t l. numbers_stay n (row_at n rows) numbers old new i (ends i t l) h (w.parts i t l);
    }
  where
    ends : (i : ℕ) → 2 ≤ i → i < rows → row_at n i + row_bytes n + 16 * n ≤ row_at n rows
    ends i t l = let a = next_row n i t in let b = rows_ordered n (i + 1) rows (omega arith) in omega arith

-- one row more is written
pub written_more : (n : ℕ) (sets numbers old new : List ℕ) (i : ℕ) → Written n sets numbers old i → RowWritten n sets new i →
    (2 ≤ i → NumbersWritten n numbers new i) → OnlyRow n i old new → Written n sets numbers new (i + 1)
written_more n sets numbers old new i w a b o =
    record {
      bits = λ k l. ⊎_elim (λ (s : k < i). v.bits k s) (λ (s : i ≤ k). subst (RowWritten n sets new) (let e : i ≡ k = omega arith in e) a) (cases_lt k i);
      parts = λ k t l.
          ⊎_elim (λ (s : k < i). v.parts k t s)
          (λ (s : i ≤ k). subst (NumbersWritten n numbers new) (let e : i ≡ k = omega arith in e) (b (omega arith))) (cases_lt k i);
    }
  where
    v : Written n sets numbers new i
    v = written_along n sets numbers old new i (λ p l. (o p).0 l) w

-- behind one row more all is as it was
pub behind_more : (n : ℕ) (first old new : List ℕ) (i : ℕ) → ((p : ℕ) → row_at n i ≤ p → get_or old p 0 ≡ get_or first p 0) → OnlyRow n i old new →
    (p : ℕ) → row_at n (i + 1) ≤ p → get_or new p 0 ≡ get_or first p 0
behind_more n first old new i h o p l = let a = rows_ordered n i (i + 1) (omega arith) in (o p).1 l ∙ h p (omega arith)

-- a row and the numbers behind it
pub row_and_numbers : (n i : ℕ) (old mid new : List ℕ) → 2 ≤ i → SameBut (row_at n i) (row_bytes n) old mid →
    SameBut (row_at n i + row_bytes n) (8 * (2 * n)) mid new → OnlyRow n i old new
row_and_numbers n i old mid new t h k p =
    let a = next_row n i t in (
      λ l. k p (inl (omega arith)) ∙ h p (inl l),
      λ l. k p (inr (omega arith)) ∙ h p (inr (omega arith)),
    )

-- the row is not touched by the numbers behind it
pub row_left : (n i : ℕ) (sets mid new : List ℕ) → RowWritten n sets mid i → SameBut (row_at n i + row_bytes n) (8 * (2 * n)) mid new →
    RowWritten n sets new i
row_left n i sets mid new w k =
    row_stays n (row_at n i + row_bytes n) sets mid new i (omega arith) (λ p l. k p (inl l)) w

-- the numbers of row i end where those of the next begin
pub numbers_within : (n i m : ℕ) → 2 ≤ i → 2 * ((i - 1) * n) ≤ m → 2 * ((i - 2) * n) + 2 * n ≤ m
numbers_within n i m t h =
    let a : (i - 2 + 1) * n ≡ (i - 2) * n + n = one_more (i - 2) n in
    let e : i - 2 + 1 ≡ i - 1 = omega arith in
    let d : (i - 2 + 1) * n ≡ (i - 1) * n = ap (λ (v : ℕ). v * n) e in
    omega arith

-- the numbers of row i among all
abbrev pub numbers_of : ℕ → ℕ → List ℕ → List ℕ
numbers_of n i numbers = take (2 * ((i - 2) * n) + 2 * n - 2 * ((i - 2) * n)) (drop (2 * ((i - 2) * n)) numbers)

-- how many they are
how_many : (n i : ℕ) (numbers : List ℕ) → 2 * ((i - 2) * n) + 2 * n ≤ length numbers → length (numbers_of n i numbers) ≡ 2 * n
how_many n i numbers h = simp (length-take, length-drop) (omega arith)

-- each of them
each_of : (n i : ℕ) (numbers : List ℕ) (x : ℕ) → x < 2 * n → get_or (numbers_of n i numbers) x 0 ≡ get_or numbers (2 * ((i - 2) * n) + x) 0
each_of n i numbers x l =
    get_or-take (2 * ((i - 2) * n) + 2 * n - 2 * ((i - 2) * n)) (drop (2 * ((i - 2) * n)) numbers) x 0 (omega arith)
    ∙ get_or-drop (2 * ((i - 2) * n)) numbers x 0

-- a row at its place with the numbers behind it: the row, the numbers, and all else
pub block_written : (n i at len : ℕ) (sets numbers old mid new : List ℕ) → at ≡ row_at n i → len ≡ row_bytes n → 2 ≤ i →
    2 * ((i - 2) * n) + 2 * n ≤ length numbers →
    ((j : ℕ) → j < 8 * row_bytes n → row mid at j ≡ (ltb j n && row sets (i * len) j)) → SameBut at (row_bytes n) old mid →
    ((x : ℕ) → x < length (numbers_of n i numbers) → le8 new (at + len + 8 * x) ≡ get_or (numbers_of n i numbers) x 0) →
    SameBut (at + len) (8 * length (numbers_of n i numbers)) mid new →
    RowWritten n sets new i × NumbersWritten n numbers new i × OnlyRow n i old new
block_written n i at len sets numbers old mid new e k t u a b c d =
    let a' : RowWritten n sets mid i =
    subst (λ (z : ℕ). (j : ℕ) → j < 8 * row_bytes n → row mid z j ≡ (ltb j n && row sets (i * row_bytes n) j)) e
    (subst (λ (z : ℕ). (j : ℕ) → j < 8 * row_bytes n → row mid at j ≡ (ltb j n && row sets (i * z) j)) k a) in
    let b' : SameBut (row_at n i) (row_bytes n) old mid = subst (λ (z : ℕ). SameBut z (row_bytes n) old mid) e b in
    let m : at + len ≡ row_at n i + row_bytes n = omega arith in
    let c' : NumbersWritten n numbers new i =
    subst (λ (z : ℕ). (x : ℕ) → x < 2 * n → le8 new (z + 8 * x) ≡ get_or numbers (2 * ((i - 2) * n) + x) 0) m
    (λ x l. c x (omega (arith, how_many n i numbers u)) ∙ each_of n i numbers x l) in
    let d' : SameBut (row_at n i + row_bytes n) (8 * (2 * n)) mid new =
    subst (λ (z : ℕ). SameBut z (8 * (2 * n)) mid new) m (subst (λ (z : ℕ). SameBut (at + len) (8 * z) mid new) (how_many n i numbers u) d) in
    (row_left n i sets mid new a' d', c', row_and_numbers n i old mid new t b' d')
