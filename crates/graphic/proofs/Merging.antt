-- The loop that merges two classes of towns: those below t are done, the others as they were.
use Rattle.std.proofs.Common.{◌≡◌, ℕ, ◌+◌, ◌<◌, ◌≤◌, Bool, true, false, eqb, List, sym, refl, ◌∙◌, ⊎_elim, arith}
use Rattle.std.proofs.lemmas.Bool.{cases_eq, eq-eqb, ne_eqb}
use Rattle.sets.specs.Bits.{xor, word_row}
use Rattle.sets.specs.Matroid.{pick}
use Rattle.graphic.specs.Links.{in_row, label}

-- the label that a town has in the end
abbrev pub label_then : List ℕ → ℕ → ℕ → ℕ → ℕ
label_then xs old new t = pick (eqb (label xs t) old) new (label xs t)

-- the row that a town has in the end
abbrev pub row_then : List ℕ → ℕ → ℕ → ℕ → ℕ → Bool
row_then xs n old t z = pick (eqb (label xs t) old) (xor (in_row xs n t z) (word_row xs 600 z)) (in_row xs n t z)

-- how far the loop has come, from the state xs to the state ys
pub record Merging (n old new t : ℕ) (xs ys : List ℕ) : Type 0 where
  pub labels_done : (u : ℕ) → u < t → label ys u ≡ label_then xs old new u
  pub rows_done : (u z : ℕ) → u < t → z < n → in_row ys n u z ≡ row_then xs n old u z
  pub labels_left : (u : ℕ) → t ≤ u → u < 600 → label ys u ≡ label xs u
  pub rows_left : (u z : ℕ) → t ≤ u → u < 600 → z < n → in_row ys n u z ≡ in_row xs n u z
  pub work : (z : ℕ) → z < n → word_row ys 600 z ≡ word_row xs 600 z

-- what one turn does: town t is done, and no other town is changed
pub merging_turn : (n old new t : ℕ) (xs ys zs : List ℕ) → t < 600 → Merging n old new t xs ys →
    label zs t ≡ label_then xs old new t → ((z : ℕ) → z < n → in_row zs n t z ≡ row_then xs n old t z) →
    ((z : ℕ) → z < n → word_row zs 600 z ≡ word_row ys 600 z) →
    ((u : ℕ) → u < 600 → (u ≡ t → ⊥) → label zs u ≡ label ys u) →
    ((u z : ℕ) → u < 600 → (u ≡ t → ⊥) → z < n → in_row zs n u z ≡ in_row ys n u z) →
    Merging n old new (t + 1) xs zs
merging_turn n old new t xs ys zs low m a b w ls rs = record {
  labels_done = λ u l. ⊎_elim (λ e. rw e a) (λ ne. ls u (omega arith) ne ∙ m.labels_done u (omega arith)) (cases_eq u t);
  rows_done = λ u z l k. ⊎_elim (λ e. rw e (b z k)) (λ ne. rs u z (omega arith) ne k ∙ m.rows_done u z (omega arith) k) (cases_eq u t);
  labels_left = λ u l k. ls u k (λ e. omega arith) ∙ m.labels_left u (omega arith) k;
  rows_left = λ u z l k o. rs u z k (λ e. omega arith) o ∙ m.rows_left u z (omega arith) k o;
  work = λ z l. w z l ∙ m.work z l;
}

-- a town with another label stays
pub merging_skip : (n old new t : ℕ) (xs ys : List ℕ) → t < 600 → Merging n old new t xs ys → (label ys t ≡ old → ⊥) →
    Merging n old new (t + 1) xs ys
merging_skip n old new t xs ys low m ne =
    let e : label ys t ≡ label xs t = m.labels_left t (omega arith) low in
    let f : eqb (label xs t) old ≡ false = ne_eqb (label xs t) old (λ q. ne (e ∙ q)) in
    merging_turn n old new t xs ys ys low m (rw f e) (λ z l. rw f (m.rows_left t z (omega arith) low l)) (λ z l. refl)
    (λ u l h. refl) (λ u z l h k. refl)

-- a town with the label takes the other, and adds the working row to its own
pub merging_town : (n old new t : ℕ) (xs ys zs : List ℕ) → t < 600 → Merging n old new t xs ys → label ys t ≡ old →
    label zs t ≡ new → ((z : ℕ) → z < n → in_row zs n t z ≡ xor (in_row ys n t z) (word_row ys 600 z)) →
    ((z : ℕ) → z < n → word_row zs 600 z ≡ word_row ys 600 z) →
    ((u : ℕ) → u < 600 → (u ≡ t → ⊥) → label zs u ≡ label ys u) →
    ((u z : ℕ) → u < 600 → (u ≡ t → ⊥) → z < n → in_row zs n u z ≡ in_row ys n u z) →
    Merging n old new (t + 1) xs zs
merging_town n old new t xs ys zs low m is a b =
    let e : label ys t ≡ label xs t = m.labels_left t (omega arith) low in
    let f : eqb (label xs t) old ≡ true = eq-eqb (label xs t) old (sym e ∙ is) in
    merging_turn n old new t xs ys zs low m (rw f a)
    (λ z l. rw f (b z l ∙ (let p = m.rows_left t z (omega arith) low l in let q = m.work z l in cc)))
