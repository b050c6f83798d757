-- A stretch of a list rewritten number by number, and what that does to the bits.
use Rattle.std.proofs.Common.{◌≡◌, ℕ, ◌+◌, ◌*◌, ◌/◌, ◌%◌, ◌<◌, ◌≤◌, ◌⊎◌, Bool, List, length, get_or, set, sym, refl, ap, ◌∙◌, inl, inr, ⊎_elim, arith}
use Rattle.std.proofs.lemmas.List.{get_or-set_same, get_or-set_other}
use Rattle.std.proofs.lemmas.Bool.{cases_eq, cases_lt}
use Rattle.sets.specs.Bits.{member, marked, row, word_row, SameBut}
use Rattle.sets.proofs.Masks.{bit}

-- ys is xs with f p written at place at + p, for each p below k
pub record Rewritten (f : ℕ → ℕ) (at k : ℕ) (xs ys : List ℕ) : Type 0 where
  pub new : (p : ℕ) → p < k → get_or ys (at + p) 0 ≡ f p
  pub rest : SameBut at k xs ys

-- nothing is written yet
pub rewritten_none : (f : ℕ → ℕ) (at : ℕ) (xs : List ℕ) → Rewritten f at 0 xs xs
rewritten_none f at xs = record { new = λ p h. absurd (omega arith); rest = λ p h. refl }

-- a place outside of k + 1 places is not the last of them
apart : (at k p : ℕ) → (p < at) ⊎ (at + (k + 1) ≤ p) → p ≡ at + k → ⊥
apart at k p o e = ⊎_elim (λ (l : p < at). omega arith) (λ (l : at + (k + 1) ≤ p). omega arith) o

-- and is outside of the first k
wider : (at k p : ℕ) → (p < at) ⊎ (at + (k + 1) ≤ p) → (p < at) ⊎ (at + k ≤ p)
wider at k p o = ⊎_elim (λ (l : p < at). inl l) (λ (l : at + (k + 1) ≤ p). inr (omega arith)) o

-- one more place is written
pub same_but_next : (at k : ℕ) (xs ys : List ℕ) (v : ℕ) → SameBut at k xs ys → SameBut at (k + 1) xs (set ys (at + k) v)
same_but_next at k xs ys v s p o = get_or-set_other ys (at + k) p v 0 (apart at k p o) ∙ s p (wider at k p o)

-- one more number is written
pub rewritten_more : (f : ℕ → ℕ) (at k : ℕ) (xs ys : List ℕ) (v : ℕ) → at + k < length ys → v ≡ f k → Rewritten f at k xs ys →
    Rewritten f at (k + 1) xs (set ys (at + k) v)
rewritten_more f at k xs ys v h e r =
    record {
      new = λ p l.
          ⊎_elim
          (λ (q : p ≡ k). ap (λ (x : ℕ). get_or (set ys (at + k) v) (at + x) 0) q ∙ get_or-set_same ys (at + k) v 0 h ∙ e ∙ ap f (sym q))
          (λ (q : p ≡ k → ⊥).
          let b : p < k = ⊎_elim (λ (z : p < k). z) (λ (z : k ≤ p). absurd (q (omega arith))) (cases_lt p k) in
          get_or-set_other ys (at + k) (at + p) v 0 (λ z. q (omega arith)) ∙ r.new p b)
          (cases_eq p k);
      rest = same_but_next at k xs ys v r.rest;
    }

-- one more write inside the stretch
pub same_but_more : (at m : ℕ) (xs ys : List ℕ) (p v : ℕ) → at ≤ p → p < at + m → SameBut at m xs ys → SameBut at m xs (set ys p v)
same_but_more at m xs ys p v l h s q o =
    get_or-set_other ys p q v 0 (λ e. ⊎_elim (λ (k : q < at). omega arith) (λ (k : at + m ≤ q). omega arith) o) ∙ s q o

-- the loop is at its end
pub rewritten_all : (f : ℕ → ℕ) (at k m : ℕ) (xs ys : List ℕ) → k ≡ m → Rewritten f at k xs ys → Rewritten f at m xs ys
rewritten_all f at k m xs ys e r = rw e at r

-- a stretch from which nothing was taken away is as it was
pub rewritten_kept : (f : ℕ → ℕ) (at k : ℕ) (xs ys : List ℕ) (from len : ℕ) → Rewritten f at k xs ys → (from + len ≤ at) ⊎ (at + len ≤ from) → k < len →
    get_or ys (from + k) 0 ≡ get_or xs (from + k) 0
rewritten_kept f at k xs ys from len r o h =
    r.rest (from + k) (⊎_elim (λ (l : from + len ≤ at). inl (omega arith)) (λ (l : at + len ≤ from). inr (omega arith)) o)

-- the place that is written next is as it was
pub rewritten_next : (f : ℕ → ℕ) (at k : ℕ) (xs ys : List ℕ) → Rewritten f at k xs ys → get_or ys (at + k) 0 ≡ get_or xs (at + k) 0
rewritten_next f at k xs ys r = r.rest (at + k) (inr (omega arith))

-- a bit of a rewritten stretch of words
pub rewritten_marks : (f : ℕ → ℕ) (at k : ℕ) (xs ys : List ℕ) → Rewritten f at k xs ys → (j : ℕ) → j < 32 * k →
    word_row ys at j ≡ bit (f (j / 32)) (j % 32)
unfolding marked
rewritten_marks f at k xs ys r j h =
    let p : (32 * at + j) / 32 ≡ at + j / 32 = omega arith in
    let q : (32 * at + j) % 32 ≡ j % 32 = omega arith in
    let e = r.new (j / 32) (omega arith) in
    cc

-- a bit of a rewritten stretch of bytes
pub rewritten_members : (f : ℕ → ℕ) (at k : ℕ) (xs ys : List ℕ) → Rewritten f at k xs ys → (j : ℕ) → j < 8 * k →
    row ys at j ≡ bit (f (j / 8)) (j % 8)
unfolding member
rewritten_members f at k xs ys r j h =
    let p : (8 * at + j) / 8 ≡ at + j / 8 = omega arith in
    let q : (8 * at + j) % 8 ≡ j % 8 = omega arith in
    let e = r.new (j / 8) (omega arith) in
    cc

-- bit j of the row of words, and of the row of bytes, that begins at `at`
pub word_row_is : (xs : List ℕ) (at j : ℕ) → word_row xs at j ≡ bit (get_or xs (at + j / 32) 0) (j % 32)
unfolding marked
word_row_is xs at j =
    let p : (32 * at + j) / 32 ≡ at + j / 32 = omega arith in
    let q : (32 * at + j) % 32 ≡ j % 32 = omega arith in
    cc

-- the same of bytes
pub row_is : (xs : List ℕ) (at j : ℕ) → row xs at j ≡ bit (get_or xs (at + j / 8) 0) (j % 8)
unfolding member
row_is xs at j =
    let p : (8 * at + j) / 8 ≡ at + j / 8 = omega arith in
    let q : (8 * at + j) % 8 ≡ j % 8 = omega arith in
    cc

-- the first k words of row `to` are each made of itself and of the word of row `from`
abbrev pub Merged : (ℕ → ℕ → ℕ) → ℕ → ℕ → ℕ → List ℕ → List ℕ → Type 0
Merged op from to k xs ys = Rewritten (λ p. op (get_or xs (to + p) 0) (get_or xs (from + p) 0)) to k xs ys

-- one more word
pub merged_more : (op : ℕ → ℕ → ℕ) (from to k len : ℕ) (xs ys : List ℕ) → to + k < length ys → (from + len ≤ to) ⊎ (to + len ≤ from) → k < len →
    Merged op from to k xs ys → Merged op from to (k + 1) xs (set ys (to + k) (op (get_or ys (to + k) 0) (get_or ys (from + k) 0)))
merged_more op from to k len xs ys h o l inv =
    let e = rewritten_kept _ to k xs ys from len inv o l in
    let f = rewritten_next _ to k xs ys inv in
    rewritten_more _ to k xs ys _ h (cc) inv

-- at the end a bit of the row is made of the bits of both
pub merged_marks : (op : ℕ → ℕ → ℕ) (on : Bool → Bool → Bool) → ((a b k : ℕ) → bit (op a b) k ≡ on (bit a k) (bit b k)) → (from to k len : ℕ) (xs ys : List ℕ) →
    k ≡ len → Merged op from to k xs ys → (j : ℕ) → j < 32 * len → word_row ys to j ≡ on (word_row xs to j) (word_row xs from j)
merged_marks op on each from to k len xs ys e inv j h =
    let a = rewritten_marks _ to len xs ys (rewritten_all _ to k len xs ys e inv) j h in
    let b = each (get_or xs (to + j / 32) 0) (get_or xs (from + j / 32) 0) (j % 32) in
    let t = word_row_is xs to j in
    let f = word_row_is xs from j in
    cc

-- words and bytes outside of what was rewritten keep their bits
pub marks_outside : (at k : ℕ) (xs ys : List ℕ) → SameBut at k xs ys → (j : ℕ) → (j < 32 * at) ⊎ (32 * (at + k) ≤ j) → marked ys j ≡ marked xs j
unfolding marked
marks_outside at k xs ys s j o =
    let w : (j / 32 < at) ⊎ (at + k ≤ j / 32) = ⊎_elim (λ (l : j < 32 * at). inl (omega arith)) (λ (l : 32 * (at + k) ≤ j). inr (omega arith)) o in
    let e = s (j / 32) w in
    cc

-- the same of bytes
pub members_outside : (at k : ℕ) (xs ys : List ℕ) → SameBut at k xs ys → (j : ℕ) → (j < 8 * at) ⊎ (8 * (at + k) ≤ j) → member ys j ≡ member xs j
unfolding member
members_outside at k xs ys s j o =
    let w : (j / 8 < at) ⊎ (at + k ≤ j / 8) = ⊎_elim (λ (l : j < 8 * at). inl (omega arith)) (λ (l : 8 * (at + k) ≤ j). inr (omega arith)) o in
    let e = s (j / 8) w in
    cc
