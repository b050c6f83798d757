-- Rows and labels of the kept state that a write leaves as they were.
use Rattle.std.proofs.Common.{◌≡◌, ℕ, suc, ◌+◌, ◌*◌, ◌/◌, ◌<◌, ◌≤◌, Bool, false, ◌||◌, eqb, ◌⊎◌, List, length, set, sym, ap, ◌∙◌, inl, inr, ⊎_elim, arith, get_or-set_other, get_or-set_same}
use Rattle.std.proofs.lemmas.Nat.{mul-le}
use Rattle.std.proofs.lemmas.Bool.{cases_lt}
use Rattle.sets.proofs.Marks.{set_same_but}
use Rattle.sets.proofs.Stretches.{marks_outside}
use Rattle.sets.specs.Bits.{xor, marked, row_words, word_row, SameBut}
use Rattle.graphic.specs.Links.{in_row, label, kept_length}

-- the rows of two towns share no word
pub rows_apart : (w t u : ℕ) → (t ≡ u → ⊥) → (w * suc t + w ≤ w * suc u) ⊎ (w * suc u + w ≤ w * suc t)
rows_apart w t u h =
    ⊎_elim (λ l. inl (omega (arith, mul-le w (t + 2) w (u + 1) (omega arith) (omega arith))))
    (λ l. inr (omega (arith, mul-le w (u + 2) w (t + 1) (omega arith) (omega arith)))) (cases_lt t u)

-- a write elsewhere leaves a row as it was
pub row_kept : (n at len place : ℕ) (xs ys : List ℕ) → SameBut at len xs ys →
    (place + row_words n ≤ at) ⊎ (at + len ≤ place) → (z : ℕ) → z < n → word_row ys place z ≡ word_row xs place z
row_kept n at len place xs ys same apart z l =
    marks_outside at len xs ys same (32 * place + z) (⊎_elim (λ h. inl (omega arith)) (λ h. inr (omega arith)) apart)

module _ (n town new : ℕ) (xs ys : List ℕ) (at : ℕ) (low : town < 600) (long : kept_length n ≤ length ys)
    (place : at ≡ 600 + row_words n * suc town) (rest : SameBut at (row_words n) xs ys) where
  -- after the row of one town was written, and then its label: the label is the new one
  pub label_new : label (set ys town new) town ≡ new
  label_new = get_or-set_same ys town new 0 (omega arith)

  -- the labels of other towns are as they were
  pub label_kept : (t : ℕ) → t < 600 → (t ≡ town → ⊥) → label (set ys town new) t ≡ label xs t
  label_kept t l h = get_or-set_other ys town t new 0 h ∙ rest t (inl (omega arith))

  -- so is the working row
  pub work_kept : (z : ℕ) → z < n → word_row (set ys town new) 600 z ≡ word_row xs 600 z
  work_kept z l =
      row_kept n town 1 600 ys (set ys town new) (set_same_but ys town new) (inr (omega arith)) z l
      ∙ row_kept n at (row_words n) 600 xs ys rest (inl (omega (arith, mul-le (row_words n) 1 (row_words n) (suc town) (omega arith) (omega arith)))) z l

  -- the town's row is as it was written
  pub town_row_new : (z : ℕ) → z < n → in_row (set ys town new) n town z ≡ word_row ys at z
  town_row_new z l =
      row_kept n town 1 (600 + row_words n * suc town) ys (set ys town new) (set_same_but ys town new) (inr (omega arith)) z l
      ∙ ap (λ p. word_row ys p z) (sym place)

  -- the rows of other towns are as they were
  pub other_row_kept : (t z : ℕ) → t < 600 → (t ≡ town → ⊥) → z < n → in_row (set ys town new) n t z ≡ in_row xs n t z
  other_row_kept t z m h l =
      row_kept n town 1 (600 + row_words n * suc t) ys (set ys town new) (set_same_but ys town new) (inr (omega arith)) z l
      ∙ row_kept n at (row_words n) (600 + row_words n * suc t) xs ys rest
      (⊎_elim (λ q. inl (omega arith)) (λ q. inr (omega arith)) (rows_apart (row_words n) t town h)) z l

-- a write within a stretch leaves all outside of the stretch
pub wider : (at len p : ℕ) (xs ys : List ℕ) → at ≤ p → p + 1 ≤ at + len → SameBut p 1 xs ys → SameBut at len xs ys
wider at len p xs ys l m h k o = h k (⊎_elim (λ q. inl (omega arith)) (λ q. inr (omega arith)) o)

-- one write after another to the same stretch
pub twice : (at len : ℕ) (xs ys zs : List ℕ) → SameBut at len xs ys → SameBut at len ys zs → SameBut at len xs zs
twice at len xs ys zs h k p o = k p o ∙ h p o

-- a write to the working row leaves the labels of the towns
pub labels_beside : (len : ℕ) (xs ys : List ℕ) → SameBut 600 len xs ys → (t : ℕ) → t < 600 → label ys t ≡ label xs t
labels_beside len xs ys h t l = h t (inl l)

-- a write to the working row leaves the rows of the towns
pub rows_beside : (n len : ℕ) (xs ys : List ℕ) → len ≡ row_words n → SameBut 600 len xs ys → (t z : ℕ) → z < n →
    in_row ys n t z ≡ in_row xs n t z
rows_beside n len xs ys is h t z l =
    row_kept n 600 len (600 + row_words n * suc t) xs ys h
    (inr (omega (arith, mul-le (row_words n) 1 (row_words n) (suc t) (omega arith) (omega arith)))) z l

-- the working row after it was cleared, took the link x, and two rows were added to it
pub summed : (n len x u v : ℕ) (xs a b d e : List ℕ) → len ≡ row_words n → x < n →
    ((j : ℕ) → j < 32 * len → word_row a 600 j ≡ false) → SameBut 600 len xs a →
    ((j : ℕ) → marked b j ≡ (marked a j || eqb j (32 * 600 + x))) → SameBut (600 + x / 32) 1 a b →
    ((j : ℕ) → j < 32 * len → word_row d 600 j ≡ xor (word_row b 600 j) (in_row b n u j)) → SameBut 600 len b d →
    ((j : ℕ) → j < 32 * len → word_row e 600 j ≡ xor (word_row d 600 j) (in_row d n v j)) → SameBut 600 len d e →
    ((z : ℕ) → z < n → word_row e 600 z ≡ xor (xor (eqb z x) (in_row xs n u z)) (in_row xs n v z)) × SameBut 600 len xs e
summed n len x u v xs a b d e is l clear ra put rb one rd two re =
    ((λ z m. joined z m), twice 600 len xs d e below re)
  where
    first : SameBut 600 len xs b
    first = twice 600 len xs a b ra (wider 600 len (600 + x / 32) a b (omega arith) (omega arith) rb)

    below : SameBut 600 len xs d
    below = twice 600 len xs b d first rd

    bits : (z i : ℕ) → (p q : Bool) → p ≡ (q || eqb (32 * 600 + z) (32 * 600 + i)) → q ≡ false → p ≡ eqb z i
    bits z i p q h k = grind arith

    sums : (w1 w2 w3 ru rv su sv it : Bool) → w1 ≡ it → w2 ≡ xor w1 ru → w3 ≡ xor w2 rv → ru ≡ su → rv ≡ sv → w3 ≡ xor (xor it su) sv
    sums w1 w2 w3 ru rv su sv it h i j k m = grind arith

    joined : (z : ℕ) → z < n → word_row e 600 z ≡ xor (xor (eqb z x) (in_row xs n u z)) (in_row xs n v z)
    joined z m =
        sums (word_row b 600 z) (word_row d 600 z) (word_row e 600 z) (in_row b n u z) (in_row d n v z) (in_row xs n u z) (in_row xs n v z)
        (eqb z x)
        (bits z x (word_row b 600 z) (word_row a 600 z) (put (32 * 600 + z)) (clear z (omega arith)))
        (one z (omega arith)) (two z (omega arith)) (rows_beside n len xs b is first u z m) (rows_beside n len xs d is below v z m)
