-- What is written of a round's state: a set and numbers that agree below n with those of the state show the same.
use Rattle.std.proofs.Common.{◌≡◌, ℕ, ◌+◌, ◌*◌, ◌<◌, ◌≤◌, Bool, true, ◌&&◌, ltb, List, ℤ, ◌+ℤ◌, ◌≤ℤ◌, sym, ap, ◌∙◌, inl, inr, ⊎_elim, arith, lt-ltb}
use Rattle.sets.specs.Matroid.{Set, Matroid}
use Rattle.sets.specs.Bits.{marked, row, word_row, row_bytes, SameBut}
use Rattle.sets.proofs.MatroidLaws.{allowed_same}
use Rattle.sets.proofs.Stretches.{members_outside}
use Rattle.matroid.specs.Optimal.{SignedSplit}
use Rattle.matroid.proofs.Along.{with_alike, swap_alike}

-- equal numbers compare alike
le_alike : (a b a' b' : ℤ) → a' ≡ a → b' ≡ b → a ≤ℤ b → a' ≤ℤ b'
le_alike a b a' b' p q h = rw (p, q) h

-- a set and numbers that agree with those of a splitting are a splitting
pub signed_along : {n : ℕ} {f g : Set → Bool} → Matroid n f → Matroid n g → (w : ℕ → ℕ) (p q p' q' : ℕ → ℤ) (s t : Set) →
    ((x : ℕ) → x < n → t x ≡ s x) → ((x : ℕ) → x < n → p' x ≡ p x) → ((x : ℕ) → x < n → q' x ≡ q x) →
    SignedSplit n f g w p q s → SignedSplit n f g w p' q' t
signed_along {n} {f} {g} mf mg w p q p' q' s t e ep eq h =
    record {
      first = allowed_same mf t s e ∙ h.first;
      second = allowed_same mg t s e ∙ h.second;
      parts = λ x l. ap (λ (z : ℤ). z +ℤ q' x) (ep x l) ∙ ap (λ (z : ℤ). p x +ℤ z) (eq x l) ∙ h.parts x l;
      add_first = λ y x yl xl iy ix ok.
          le_alike (p x) (p y) (p' x) (p' y) (ep x xl) (ep y yl)
          (h.add_first y x yl xl (sym (e y yl) ∙ iy) (sym (e x xl) ∙ ix) (sym (with_alike mf s t x e) ∙ ok));
      exchange_first = λ y x yl xl iy ix ok.
          le_alike (p x) (p y) (p' x) (p' y) (ep x xl) (ep y yl)
          (h.exchange_first y x yl xl (sym (e y yl) ∙ iy) (sym (e x xl) ∙ ix) (sym (swap_alike mf s t y x e) ∙ ok));
      add_second = λ y x yl xl iy ix ok.
          le_alike (q x) (q y) (q' x) (q' y) (eq x xl) (eq y yl)
          (h.add_second y x yl xl (sym (e y yl) ∙ iy) (sym (e x xl) ∙ ix) (sym (with_alike mg s t x e) ∙ ok));
      exchange_second = λ y x yl xl iy ix ok.
          le_alike (q x) (q y) (q' x) (q' y) (eq x xl) (eq y yl)
          (h.exchange_second y x yl xl (sym (e y yl) ∙ iy) (sym (e x xl) ∙ ix) (sym (swap_alike mg s t y x e) ∙ ok));
    }

-- the first row of sets after the second one was written
pub first_row_left : (n : ℕ) (xs ys : List ℕ) → SameBut (row_bytes n) (row_bytes n) xs ys → (x : ℕ) → x < n → row ys 0 x ≡ row xs 0 x
first_row_left n xs ys h x l = members_outside (row_bytes n) (row_bytes n) xs ys h (8 * 0 + x) (inl (omega arith))

-- a row of n bits that was stored
pub stored_row : (n at : ℕ) (words ys : List ℕ) →
    ((j : ℕ) → j < 8 * row_bytes n → row ys at j ≡ (ltb j n && word_row words 0 j)) → (x : ℕ) → x < n → row ys at x ≡ marked words x
stored_row n at words ys h x l =
    let b : x < 8 * row_bytes n = omega arith in
    let t : ltb x n ≡ true = lt-ltb x n l in
    let z : 32 * 0 + x ≡ x = omega arith in
    h x b ∙ ap (λ (v : Bool). v && word_row words 0 x) t ∙ ap (marked words) z

-- places behind both rows are as they were after one and then the other was written
pub behind_both : (b : ℕ) (xs ys zs : List ℕ) → SameBut 0 b xs ys → SameBut b b ys zs → SameBut 0 (2 * b) xs zs
behind_both b xs ys zs h k p o =
    let l : 2 * b ≤ p = ⊎_elim (λ (z : p < 0). absurd (omega arith)) (λ (z : 0 + 2 * b ≤ p). omega arith) o in
    k p (inr (omega arith)) ∙ h p (inr (omega arith))
