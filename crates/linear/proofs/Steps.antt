-- Steps of loops: one number more.
use Rattle.std.proofs.Common.{◌≡◌, ℕ, zero, suc, ◌+◌, ◌-◌, ◌*◌, ◌%◌, ◌^◌, ◌<◌, ◌≤◌, Bool, true, false, eqb, List, length, get_or, set, replicate, map, sum, refl, sym, ap, ◌∙◌, ⊎_elim, add-zero, mod-eq_of_lt, pow-suc, zero-add, add-one, arith}
use Rattle.std.proofs.lemmas.List.{get_or-set_same, get_or-set_other, get_or-replicate, length-replicate}
use Rattle.std.proofs.lemmas.Bool.{cases_eq, eq-eqb, ne_eqb}
use Rattle.std.proofs.lemmas.Nat.{mul-add-lt, mul-le}
use Rattle.std.specs.List.{fold, range_with_len}
use Rattle.std.proofs.lemmas.List.FromFn.{sum_by-map-range_with_len_more}
use Rattle.sets.specs.Matroid.{Set, pick, weight}
use Rattle.linear.specs.Rows.{number, Well}
use Rattle.linear.specs.Kept.{dot, rest, fresh, functional}
use Rattle.linear.proofs.Modulo.{Same, same_refl, same_sum, same_trans, same_from, same_multiple, same_rest, same_is}

-- a functional's value is the sum of its products with the row
pub dot_listed : (l : ℕ) (f t : ℕ → ℕ) → sum (map (λ j. f j * t j) (range_with_len 0 l)) ≡ dot l f t
dot_listed zero f t = refl
dot_listed (suc l) f t =
    let e = rw add-one at (sum_by-map-range_with_len_more (λ x. x) (λ j. f j * t j) 0 l l (zero-add l)) in
    omega (arith, e, dot_listed l f t)

-- and is at most as many times the largest product as there are numbers
pub dot_low : (l most : ℕ) (f t : ℕ → ℕ) → ((j : ℕ) → j < l → f j * t j ≤ most) → dot l f t ≤ l * most
dot_low zero most f t h = omega arith
dot_low (suc l) most f t h = omega (arith, h l (omega arith), dot_low l most f t (λ j k. h j (omega arith)))

-- a sum over a set by one element more
pub weight_in : (m : ℕ) (w : ℕ → ℕ) (s : Set) → s m ≡ true → weight (m + 1) w s ≡ w m + weight m w s
weight_in m w s h = rw (add-one, h)

-- or by none, where the element is outside
pub weight_out : (m : ℕ) (w : ℕ → ℕ) (s : Set) → s m ≡ false → weight (m + 1) w s ≡ weight m w s
weight_out m w s h = rw (add-one, h) (omega arith)

-- a product of a word and a byte
pub product_low : (a b : ℕ) → a < 2 ^ 32 → b < 2 ^ 8 → a * b ≤ 2 ^ 40
product_low a b h k = mul-le a b (2 ^ 32) (2 ^ 8) (omega arith) (omega arith)

-- one power more
pub power_more : (p c k v : ℕ) → v ≡ c ^ k % p → v * c % p ≡ c ^ (k + 1) % p
power_more p c k v e =
    let f : c ^ (k + 1) ≡ c ^ k * c = rw add-one (pow-suc c k) in
    let a : Same p (c * (c ^ k % p)) (c * c ^ k) = same_multiple p c (c ^ k % p) (c ^ k) (same_rest p (c ^ k)) in
    ap (λ x. x % p) (ap (λ x. x * c) e ∙ omega arith) ∙ same_is p (c * (c ^ k % p)) (c * c ^ k) a ∙ ap (λ x. x % p) (omega arith)

-- a power more for each number of a list
pub powers_listed : (p c n k a v : ℕ) → v ≡ c ^ k % p → fold (λ x i. x * c % p) v (range_with_len a n) ≡ c ^ (k + n) % p
powers_listed p c zero k a v e = e ∙ ap (λ m. c ^ m % p) (sym (add-zero k))
powers_listed p c (suc n) k a v e = powers_listed p c n (k + 1) (a + 1) (v * c % p) (power_more p c k v e) ∙ ap (λ m. c ^ m % p) (omega arith)

-- a row of zeros with one number written
pub unit_row : (q v j : ℕ) → j < 64 → get_or (set (replicate 64 0) q v) j 0 ≡ pick (eqb j q) v 0
unit_row q v j h =
    let low : j < length {A = ℕ} (replicate 64 0) = rw length-replicate h in
    ⊎_elim (λ (e : j ≡ q). rw (eq-eqb j q e) (rw (← e) (get_or-set_same (replicate 64 0) j v 0 low)))
    (λ (ne : j ≡ q → ⊥). rw (ne_eqb j q ne) (get_or-set_other (replicate 64 0) q j v 0 ne ∙ get_or-replicate 64 j 0 0 h)) (cases_eq j q)

-- a sum over a set, kept modulo p, with one element more
pub grown_in : (p t m : ℕ) (w : ℕ → ℕ) (s : Set) (u : ℕ) → s m ≡ true → u ≡ (t + weight m w s) % p → (u + w m) % p ≡ (t + weight (m + 1) w s) % p
grown_in p t m w s u h e =
    let a : Same p u (t + weight m w s) = same_trans p u ((t + weight m w s) % p) (t + weight m w s) (same_from p u ((t + weight m w s) % p) e) (same_rest p (t + weight m w s)) in
    let b = same_sum p u (t + weight m w s) (w m) (w m) a (same_refl p (w m)) in
    let f = weight_in m w s h in
    same_is p (u + w m) (t + weight m w s + w m) b ∙ ap (λ x. x % p) (omega arith)

-- the same where the element is outside
pub grown_out : (p t m : ℕ) (w : ℕ → ℕ) (s : Set) (u : ℕ) → s m ≡ false → u ≡ (t + weight m w s) % p → u ≡ (t + weight (m + 1) w s) % p
grown_out p t m w s u h e = e ∙ ap (λ x. (t + x) % p) (sym (weight_out m w s h))

-- and with none yet
pub grown_none : (p t : ℕ) (w : ℕ → ℕ) (s : Set) → t < p → t ≡ (t + weight 0 w s) % p
grown_none p t w s h = sym (ap (λ x. x % p) (add-zero t) ∙ mod-eq_of_lt h)

-- a number of a row is below the prime
pub number_low : (file : List ℕ) (n prime long at : ℕ) → Well file n prime long at → (i j : ℕ) → i < n → j < long → number file long at i j < prime
number_low file n prime long at well i j a b =
    let e : at + i * long + j ≡ at + (i * long + j) = omega arith in
    rw e (well.below (i * long + j) (omega (arith, mul-add-lt i long j n a b)))

-- the rest of a row, by one row of the set more
pub rest_in :
    (p l : ℕ) (rows fs : ℕ → ℕ → ℕ) (m : ℕ) (s : Set) (t : ℕ → ℕ) (xs ys zs : List ℕ) (b : Bool) (v : ℕ) →
    b ≡ s m → b ≡ true → v ≡ dot l (fs m) t % p → ((j : ℕ) → j < l → get_or xs j 0 ≡ rest p l rows fs m s t j % p) →
    ((j : ℕ) → j < l → get_or ys j 0 ≡ (get_or xs j 0 + (p - v) * rows m j) % p) → zs ≡ ys →
    (j : ℕ) → j < l → get_or zs j 0 ≡ rest p l rows fs (m + 1) s t j % p
rest_in p l rows fs m s t xs ys zs b v in_s is value old new same j h =
    ap (λ (x : List ℕ). get_or x j 0) same ∙ new j h ∙ ap (λ x. (get_or xs j 0 + (p - x) * rows m j) % p) value
    ∙ grown_in p (t j) m (λ y. (p - dot l (fs y) t % p) * rows y j) s (get_or xs j 0) (sym in_s ∙ is) (old j h)

-- the same where the offer is outside the set
pub rest_out :
    (p l : ℕ) (rows fs : ℕ → ℕ → ℕ) (m : ℕ) (s : Set) (t : ℕ → ℕ) (xs zs : List ℕ) (b : Bool) →
    b ≡ s m → b ≡ false → ((j : ℕ) → j < l → get_or xs j 0 ≡ rest p l rows fs m s t j % p) → zs ≡ xs →
    (j : ℕ) → j < l → get_or zs j 0 ≡ rest p l rows fs (m + 1) s t j % p
rest_out p l rows fs m s t xs zs b in_s is old same j h =
    ap (λ (x : List ℕ). get_or x j 0) same
    ∙ grown_out p (t j) m (λ y. (p - dot l (fs y) t % p) * rows y j) s (get_or xs j 0) (sym in_s ∙ is) (old j h)

-- the new functional, corrected at one row of the set more
pub fresh_in :
    (p l : ℕ) (rows : ℕ → ℕ → ℕ) (state : List ℕ) (m : ℕ) (s : Set) (q scale : ℕ) (xs ys zs : List ℕ) (b : Bool) (v : ℕ) →
    b ≡ s m → b ≡ true → v ≡ rows m q → ((j : ℕ) → j < l → get_or xs j 0 ≡ fresh p rows (functional state) m s q scale j % p) →
    ((j : ℕ) → j < l → get_or ys j 0 ≡ (get_or xs j 0 + (p - scale * v % p) * get_or state (65 * m + j) 0) % p) → zs ≡ ys →
    (j : ℕ) → j < l → get_or zs j 0 ≡ fresh p rows (functional state) (m + 1) s q scale j % p
fresh_in p l rows state m s q scale xs ys zs b v in_s is value old new same j h =
    ap (λ (x : List ℕ). get_or x j 0) same ∙ new j h ∙ ap (λ x. (get_or xs j 0 + (p - scale * x % p) * get_or state (65 * m + j) 0) % p) value
    ∙ grown_in p (pick (eqb j q) scale 0) m (λ z. (p - scale * rows z q % p) * functional state z j) s (get_or xs j 0) (sym in_s ∙ is) (old j h)

-- the same where the offer is outside the set
pub fresh_out :
    (p l : ℕ) (rows : ℕ → ℕ → ℕ) (state : List ℕ) (m : ℕ) (s : Set) (q scale : ℕ) (xs zs : List ℕ) (b : Bool) →
    b ≡ s m → b ≡ false → ((j : ℕ) → j < l → get_or xs j 0 ≡ fresh p rows (functional state) m s q scale j % p) → zs ≡ xs →
    (j : ℕ) → j < l → get_or zs j 0 ≡ fresh p rows (functional state) (m + 1) s q scale j % p
fresh_out p l rows state m s q scale xs zs b in_s is old same j h =
    ap (λ (x : List ℕ). get_or x j 0) same
    ∙ grown_out p (pick (eqb j q) scale 0) m (λ z. (p - scale * rows z q % p) * functional state z j) s (get_or xs j 0) (sym in_s ∙ is) (old j h)

-- one number of a row or zero is below p
pub pick_low : (b : Bool) (v p : ℕ) → v < p → pick b v 0 < p
pick_low true v p h = h
pick_low false v p h = omega arith
