-- Where the cells of a table of rows stand in its words.
use Rattle.std.proofs.Common.{◌≡◌, ℕ, ◌+◌, ◌*◌, ◌<◌, ◌≤◌, Bool, true, false, ◌&&◌, ◌||◌, eqb, ◌⊎◌, List, length, get_or, set, sym, refl, ap, ◌∙◌, inl, inr, ⊎_elim, mul-one, mul-add, arith}
use Rattle.std.proofs.lemmas.Nat.{mul-le}
use Rattle.std.proofs.lemmas.List.{get_or-set_same, get_or-set_other}
use Rattle.std.proofs.lemmas.Bool.{cases_eq, cases_order, eq-eqb, ne_eqb}
use Rattle.sets.specs.Matroid.{pick}
use Rattle.sets.specs.Bits.{marked, row_words, SameBut}
use Rattle.sets.proofs.Stretches.{marks_outside}
use Rattle.exchange.specs.Graph.{at, table}

-- rows of r words: the row after v begins r words further
pub next_row : (r v : ℕ) → r * (v + 1) ≡ r * v + r
next_row r v = mul-add r v 1 ∙ ap (λ (x : ℕ). r * v + x) (mul-one r)

-- a row of an earlier element ends before a later one begins
pub rows_apart : (n r v m u : ℕ) → n ≤ 32 * r → v < m → u < n → 32 * (r * v) + u < 32 * (r * m)
rows_apart n r v m u p h i =
    let l : r * (v + 1) ≤ r * m = mul-le r (v + 1) r m (omega arith) (omega arith) in
    omega (arith, next_row r v)

-- lent numbers after one is written
pub at_set : (xs : List ℕ) (i v j : ℕ) → i < length xs → at (set xs i v) j ≡ pick (eqb j i) v (at xs j)
at_set xs i v j h =
    ⊎_elim
    (λ (e : j ≡ i). ap (λ (x : ℕ). get_or (set xs i v) x 0) e ∙ get_or-set_same xs i v 0 h ∙ ap (λ (b : Bool). pick b v (at xs j)) (sym (eq-eqb j i e)))
    (λ (e : j ≡ i → ⊥). get_or-set_other xs i j v 0 e ∙ ap (λ (b : Bool). pick b v (at xs j)) (sym (ne_eqb j i e)))
    (cases_eq j i)

-- what a loop has written below x, and now at x, stands below x + 1
pub written : {A : Type 0} (f old : ℕ → A) (g : ℕ → A) (x : ℕ) (v : A) (j : ℕ) → f j ≡ pick (eqb j x) v (old j) → v ≡ g x →
    j < x + 1 → (j < x → old j ≡ g j) → f j ≡ g j
written f old g x v j each here h below =
    ⊎_elim
    (λ (e : j ≡ x). each ∙ ap (λ (b : Bool). pick b v (old j)) (eq-eqb j x e) ∙ here ∙ ap g (sym e))
    (λ (e : j ≡ x → ⊥). each ∙ ap (λ (b : Bool). pick b v (old j)) (ne_eqb j x e) ∙ below (omega arith))
    (cases_eq j x)

-- different elements have different cells
pub same_cell : (n r i j v u : ℕ) → n ≤ 32 * r → j < n → u < n → eqb (32 * (r * i) + j) (32 * (r * v) + u) ≡ (eqb i v && eqb j u)
same_cell n r i j v u p q h =
    ⊎_elim
    (λ (e : i ≡ v).
    let x = ap (λ (k : ℕ). 32 * (r * k) + j) e in
    let y : eqb i v ≡ true = eq-eqb i v e in
    let z : eqb (32 * (r * i) + j) (32 * (r * v) + u) ≡ eqb j u = grind arith in
    z ∙ ap (λ (b : Bool). b && eqb j u) (sym y))
    (λ (o : (i < v) ⊎ (v < i)).
    let y : eqb (32 * (r * i) + j) (32 * (r * v) + u) ≡ false =
    ⊎_elim
    (λ (l : i < v). ne_eqb (32 * (r * i) + j) (32 * (r * v) + u) (λ e. omega (arith, rows_apart n r i v j p l q)))
    (λ (l : v < i). ne_eqb (32 * (r * i) + j) (32 * (r * v) + u) (λ e. omega (arith, rows_apart n r v i u p l h)))
    o in
    let z : eqb i v ≡ false = ne_eqb i v (λ e. ⊎_elim (λ (l : i < v). omega arith) (λ (l : v < i). omega arith) o) in
    y ∙ ap (λ (b : Bool). b && eqb j u) (sym z))
    (cases_order i v)

-- a bit after it is set
in_or : (b e : Bool) → (b || e) ≡ pick e true b
in_or true true = refl
in_or false true = refl
in_or true false = refl
in_or false false = refl

-- the table after a cell is set
pub cell_in : (n : ℕ) (old new : List ℕ) (v u : ℕ) → u < n → ((p : ℕ) → marked new p ≡ (marked old p || eqb p (32 * (row_words n * v) + u))) →
    (i j : ℕ) → j < n → table n new i j ≡ pick (eqb i v && eqb j u) true (table n old i j)
unfolding table
cell_in n old new v u h each i j q =
    each (32 * (row_words n * i) + j) ∙ in_or (marked old (32 * (row_words n * i) + j)) _
    ∙ ap (λ (b : Bool). pick b true (marked old (32 * (row_words n * i) + j))) (same_cell n (row_words n) i j v u (omega arith) q h)

-- the other rows stay where the words of one are written
pub rows_beside : (n : ℕ) (old new : List ℕ) (v : ℕ) → SameBut (row_words n * v) (row_words n) old new →
    (i j : ℕ) → i < n → j < n → (i ≡ v → ⊥) → table n new i j ≡ table n old i j
unfolding table
rows_beside n old new v same i j p q e =
    let r = row_words n in
    marks_outside (r * v) r old new same (32 * (r * i) + j)
    (⊎_elim
    (λ (d : i ≡ v). absurd (e d))
    (λ (o : (i < v) ⊎ (v < i)).
    ⊎_elim
    (λ (l : i < v). inl (rows_apart n r i v j (omega arith) l q))
    (λ (l : v < i).
    let k : r * (v + 1) ≤ r * i = mul-le r (v + 1) r i (omega arith) (omega arith) in
    inr (omega (arith, next_row r v)))
    o)
    (cases_order i v))

-- one row while it is written: the elements below u as g says, and no arc to the others
abbrev pub WrittenTo : ℕ → ℕ → (ℕ → Bool) → (ℕ → Bool) → Type 0
WrittenTo n u row g = ((j : ℕ) → j < u → row j ≡ g j) × ((j : ℕ) → u ≤ j → j < n → row j ≡ false)

-- the next element has no arc, and the row stays
pub row_passed : (n u : ℕ) (row g : ℕ → Bool) → u < n → g u ≡ false → WrittenTo n u row g → WrittenTo n (u + 1) row g
row_passed n u row g p here so = (
  λ j h.
      ⊎_elim
      (λ (e : j ≡ u). so.1 j (omega arith) (omega arith) ∙ sym here ∙ ap g (sym e))
      (λ (e : j ≡ u → ⊥). so.0 j (omega arith))
      (cases_eq j u),
  λ j h q. so.1 j (omega arith) q,
)

-- the next element has an arc, and it is put in
pub row_joined : (n : ℕ) (old new : List ℕ) (v u : ℕ) (g : ℕ → Bool) →
    ((i j : ℕ) → i < n → j < n → table n new i j ≡ pick (eqb i v && eqb j u) true (table n old i j)) → v < n → u < n → g u ≡ true →
    WrittenTo n u (table n old v) g → WrittenTo n (u + 1) (table n new v) g
row_joined n old new v u g each p q here so =
    let cell : (j : ℕ) → j < n → table n new v j ≡ pick (eqb j u) true (table n old v j) =
    λ j h. each v j p h ∙ ap (λ (b : Bool). pick (b && eqb j u) true (table n old v j)) (eq-eqb v v refl) in (
      λ j h. written (table n new v) (table n old v) g u true j (cell j (omega arith)) (sym here) h (so.0 j),
      λ j h k. cell j k ∙ ap (λ (b : Bool). pick b true (table n old v j)) (ne_eqb j u (λ e. omega arith)) ∙ so.1 j (omega arith) k,
    )

-- the other rows stay where an arc is put in or taken out
pub rows_kept : (n : ℕ) (old new : List ℕ) (v u : ℕ) (there : Bool) →
    ((i j : ℕ) → i < n → j < n → table n new i j ≡ pick (eqb i v && eqb j u) there (table n old i j)) →
    (i j : ℕ) → i < n → j < n → (i ≡ v → ⊥) → table n new i j ≡ table n old i j
rows_kept n old new v u there each i j p q e =
    each i j p q ∙ ap (λ (b : Bool). pick (b && eqb j u) there (table n old i j)) (ne_eqb i v e)

-- one row more of the table
pub row_more : (n : ℕ) (old new : List ℕ) (x : ℕ) (g : ℕ → ℕ → Bool) → x < n →
    ((u : ℕ) → u < n → table n new x u ≡ g x u) →
    ((i u : ℕ) → i < n → u < n → (i ≡ x → ⊥) → table n new i u ≡ table n old i u) →
    ((v u : ℕ) → v < x → u < n → table n old v u ≡ g v u) →
    (v u : ℕ) → v < x + 1 → u < n → table n new v u ≡ g v u
row_more n old new x g p here rest before v u q h =
    ⊎_elim
    (λ (e : v ≡ x). ap (λ (i : ℕ). table n new i u) e ∙ here u h ∙ ap (λ (i : ℕ). g i u) (sym e))
    (λ (e : v ≡ x → ⊥). rest v u (omega arith) h e ∙ before v u (omega arith) h)
    (cases_eq v x)
