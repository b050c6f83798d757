-- One row taken into the dual basis, over the lists that the program holds.
use Rattle.std.proofs.Common.{◌≡◌, ℕ, ◌+◌, ◌-◌, ◌*◌, ◌%◌, ◌^◌, ◌<◌, ◌≤◌, Bool, true, false, List, get_or, sym, ap, ◌∙◌, inl, inr, ⊎_elim, add-one, arith}
use Rattle.std.proofs.lemmas.Bool.{cases_eq, cases_Bool}
use Rattle.sets.specs.Matroid.{Set}
use Rattle.sets.specs.Bits.{SameBut}
use Rattle.linear.specs.Rows.{spanned, Prime}
use Rattle.linear.specs.Kept.{dot, rest, fresh, functional, Dual}
use Rattle.linear.proofs.Modulo.{Same, same_trans, same_from, same_multiple, same_rest, rest_null, null_rest}
use Rattle.linear.proofs.Sums.{dot_equal, dot_turned}
use Rattle.linear.proofs.Span.{spanned_gives, spanned_from}
use Rattle.linear.proofs.Inverse.{inverse}
use Rattle.linear.proofs.DualBasis.{rest_spans, spans_rest}
use Rattle.linear.proofs.Growth.{dual_more}

-- functionals with the same numbers have the same value
pub dot_first : (l : ℕ) (f g t : ℕ → ℕ) → ((j : ℕ) → j < l → f j ≡ g j) → dot l f t ≡ dot l g t
dot_first l f g t h = dot_turned l f t ∙ dot_equal l t f g h ∙ dot_turned l t g

-- functional y of the old list, corrected at the row t by g
abbrev pub corrected : ℕ → ℕ → (ℕ → ℕ) → List ℕ → List ℕ → ℕ → ℕ → ℕ
corrected p l t old g y j = (functional old y j + (p - dot l (functional old y) t % p) * get_or g j 0) % p

-- the functionals of s below z are corrected, and from z on nothing has changed
abbrev pub Corrected : ℕ → ℕ → (ℕ → ℕ) → Set → List ℕ → List ℕ → ℕ → List ℕ → Type 0
Corrected p l t s old g z xs =
    ((y j : ℕ) → y < z → s y ≡ true → j < l → functional xs y j ≡ corrected p l t old g y j)
    × ((k : ℕ) → 65 * z ≤ k → get_or xs k 0 ≡ get_or old k 0)

-- one functional more is corrected
pub corrected_in :
    (p l : ℕ) (t : ℕ → ℕ) (s : Set) (old g : List ℕ) (z : ℕ) (xs ys zs : List ℕ) (v : ℕ) → l ≤ 64 → v ≡ dot l (functional xs z) t % p →
    Corrected p l t s old g z xs → ((j : ℕ) → j < l → get_or ys (65 * z + j) 0 ≡ (get_or xs (65 * z + j) 0 + (p - v) * get_or g j 0) % p) →
    SameBut (65 * z) l xs ys → zs ≡ ys → Corrected p l t s old g (z + 1) zs
corrected_in p l t s old g z xs ys zs v small value inv new rest same = rw same (front, back)
  where
    here : (j : ℕ) → j < l → functional ys z j ≡ corrected p l t old g z j
    here j h =
        let e = new j h in
        let f : get_or xs (65 * z + j) 0 ≡ get_or old (65 * z + j) 0 = inv.1 (65 * z + j) (omega arith) in
        let d : v ≡ dot l (functional old z) t % p =
        value ∙ ap (λ x. x % p) (dot_first l (functional xs z) (functional old z) t (λ i k. inv.1 (65 * z + i) (omega arith))) in
        cc

    front : (y j : ℕ) → y < z + 1 → s y ≡ true → j < l → functional ys y j ≡ corrected p l t old g y j
    front y j a b h =
        ⊎_elim (λ (e : y ≡ z). rw e (here j h))
        (λ (ne : y ≡ z → ⊥). rest (65 * y + j) (inl (omega arith)) ∙ inv.0 y j (omega arith) b h) (cases_eq y z)

    back : (k : ℕ) → 65 * (z + 1) ≤ k → get_or ys k 0 ≡ get_or old k 0
    back k h = rest k (inr (omega arith)) ∙ inv.1 k (omega arith)

-- an offer outside the set needs no correction
pub corrected_out :
    (p l : ℕ) (t : ℕ → ℕ) (s : Set) (old g : List ℕ) (z : ℕ) (xs zs : List ℕ) (b : Bool) → b ≡ s z → b ≡ false →
    Corrected p l t s old g z xs → zs ≡ xs → Corrected p l t s old g (z + 1) zs
corrected_out p l t s old g z xs zs b in_s is inv same = rw same (front, λ k h. inv.1 k (omega arith))
  where
    clash : (y : ℕ) → y ≡ z → s y ≡ true → ⊥
    clash y e h =
        let f : s z ≡ true = rw e at h in grind arith

    front : (y j : ℕ) → y < z + 1 → s y ≡ true → j < l → functional xs y j ≡ corrected p l t old g y j
    front y j a h k = ⊎_elim (λ (e : y ≡ z). absurd (clash y e h)) (λ (ne : y ≡ z → ⊥). inv.0 y j (omega arith) h k) (cases_eq y z)

module _
    (p l : ℕ) (rows : ℕ → ℕ → ℕ) (state : List ℕ) (r : ℕ) (s : Set) (prime : Prime p) (small : p ≤ 251)
    (dual : Dual p l rows (functional state) r s) (sum : List ℕ)
    (is_rest : (j : ℕ) → j < l → get_or sum j 0 ≡ rest p l rows (functional state) r s (rows r) j % p)
  where
    pos : 0 < p
    pos = omega (arith, prime.0)

    -- a row whose rest has no column that is not zero is spanned
    pub no_column : ((j : ℕ) → j < l → get_or sum j 0 ≡ 0) → spanned p l rows s r (rows r) ≡ true
    no_column zeros =
        spanned_from p l rows s r (rows r) pos
        (rest_spans p l rows (functional state) r s prime.0 dual (rows r)
        (λ j h. rest_null p (rest p l rows (functional state) r s (rows r) j) (sym (is_rest j h) ∙ zeros j h)))

    -- a row with a column that is not zero is not
    pub a_column : (q : ℕ) → q < l → (get_or sum q 0 ≡ 0 → ⊥) → spanned p l rows s r (rows r) ≡ false
    a_column q low found =
        ⊎_elim
        (λ y. absurd (found (is_rest q low ∙ null_rest p (rest p l rows (functional state) r s (rows r) q) pos
        (spans_rest p l rows (functional state) r s prime.0 dual (rows r) (spanned_gives p l rows s r (rows r) y) q low))))
        (λ y. y) (cases_Bool (spanned p l rows s r (rows r)))

    -- the new basis
    pub basis_more :
        (q scale : ℕ) (g middle new : List ℕ) → q < l → (get_or sum q 0 ≡ 0 → ⊥) → scale ≡ get_or sum q 0 ^ (p - 2) % p → l ≤ 64 →
        ((j : ℕ) → j < l → get_or g j 0 ≡ fresh p rows (functional state) r s q scale j % p) →
        ((y j : ℕ) → y < r → s y ≡ true → j < l → functional middle y j ≡ corrected p l (rows r) state g y j) →
        ((j : ℕ) → j < l → get_or new (65 * r + j) 0 ≡ get_or g j 0) → SameBut (65 * r) l middle new →
        Dual p l rows (functional new) (r + 1) s
    basis_more q scale g middle new low found is_scale few made old copied same =
        rw add-one
        (dual_more p l rows (functional state) r s prime.0 dual q scale (λ j. get_or g j 0) low unit
        (λ j h. modulo (get_or g j 0) (fresh p rows (functional state) r s q scale j) (made j h)) (functional new)
        (λ z j a b h. modulo (functional new z j) (functional state z j + (p - dot l (functional state z) (rows r) % p) * get_or g j 0) (same (65 * z + j) (inl (omega arith)) ∙ old z j a b h))
        (λ j h. same_from p (functional new r j) (get_or g j 0) (copied j h)))
      where
        modulo : (a b : ℕ) → a ≡ b % p → Same p a b
        modulo a b e = same_trans p a (b % p) b (same_from p a (b % p) e) (same_rest p b)

        u : ℕ
        u = rest p l rows (functional state) r s (rows r) q

        unit : Same p (scale * u) 1
        unit =
            let e : get_or sum q 0 ≡ u % p = is_rest q low in
            let f : Same p ((u % p) ^ (p - 2) * u) 1 = inverse p u prime small (λ z. found (e ∙ null_rest p u pos z)) in
            let g : Same p scale ((u % p) ^ (p - 2)) = modulo scale ((u % p) ^ (p - 2)) (is_scale ∙ ap (λ x. x ^ (p - 2) % p) e) in
            same_trans p (scale * u) (u * scale) 1 (same_from p (scale * u) (u * scale) (omega arith))
            (same_trans p (u * scale) (u * (u % p) ^ (p - 2)) 1 (same_multiple p u scale ((u % p) ^ (p - 2)) g)
            (same_trans p (u * (u % p) ^ (p - 2)) ((u % p) ^ (p - 2) * u) 1 (same_from p (u * (u % p) ^ (p - 2)) ((u % p) ^ (p - 2) * u) (omega arith)) f))
