-- From round to round: the state of the set at hand, and the sets and numbers written so far.
use Rattle.std.proofs.Common.{◌≡◌, ℕ, suc, ◌+◌, ◌*◌, ◌/◌, ◌<◌, ◌≤◌, Bool, true, false, List, get_or, pos, ◌-ℤ◌, sym, ap, ◌∙◌, subst, inl, inr, ⊎_elim, add-zero, arith, w64, to_z}
use Rattle.sets.specs.Bits.{row, row_bytes, SameBut}
use Rattle.sets.specs.Matroid.{Set, size, none, Matroid}
use Rattle.sets.proofs.FiniteSets.{size_same}
use Rattle.sets.proofs.MatroidLaws.{allowed_same}
use Rattle.sets.proofs.Places.{rows_apart}
use Rattle.sets.proofs.Stretches.{members_outside}
use Rattle.exchange.specs.Round.{top, State}
use Rattle.matroid.specs.Optimal.{SignedSplit}
use Rattle.matroid.proofs.Along.{with_alike, swap_alike}
use Rattle.weighted.specs.Choice.{sized_set, first_part, second_part}
use Rattle.std.proofs.lemmas.Bool.{cases_lt}
use Rattle.weighted.proofs.Rounds.{state_splits}
use Rattle.weighted.proofs.Written.{signed_along}

-- a state of a set and potentials that agree below n with those of a state
pub state_along : {n : ℕ} {f g : Set → Bool} → Matroid n f → Matroid n g → (w a a' : ℕ → ℕ) (loss : ℕ) (s t : Set) →
    ((x : ℕ) → x < n → t x ≡ s x) → ((x : ℕ) → x < n → a' x ≡ a x) → State n f g w a loss s → State n f g w a' loss t
state_along mf mg w a a' loss s t e ea h =
    record {
      first = allowed_same mf t s e ∙ h.first;
      second = allowed_same mg t s e ∙ h.second;
      first_best = λ y x yl xl iy ix ok.
          let r : a x ≤ a y = h.first_best y x yl xl (sym (e y yl) ∙ iy) (sym (e x xl) ∙ ix) (sym (swap_alike mf s t y x e) ∙ ok) in
          omega (arith, ea x xl, ea y yl);
      second_best = λ y x yl xl iy ix ok.
          let r : w x + a y ≤ w y + a x = h.second_best y x yl xl (sym (e y yl) ∙ iy) (sym (e x xl) ∙ ix) (sym (swap_alike mg s t y x e) ∙ ok) in
          omega (arith, ea x xl, ea y yl);
      sources = λ x xl ix ok. ea x xl ∙ h.sources x xl (sym (e x xl) ∙ ix) (sym (with_alike mf s t x e) ∙ ok);
      sinks = λ x xl ix ok.
          let r : w x + loss ≤ top + a x = h.sinks x xl (sym (e x xl) ∙ ix) (sym (with_alike mg s t x e) ∙ ok) in
          omega (arith, ea x xl);
      small = λ x xl. let r : a x ≤ loss = h.small x xl in omega (arith, ea x xl);
    }

-- the empty set with no potentials and no loss is a state
pub state_none : {n : ℕ} {f g : Set → Bool} → Matroid n f → Matroid n g → (w a : ℕ → ℕ) (s : Set) →
    ((x : ℕ) → x < n → s x ≡ false) → ((x : ℕ) → x < n → a x ≡ 0) → ((x : ℕ) → x < n → w x ≤ top) → State n f g w a 0 s
state_none mf mg w a s e ea light =
    record {
      first = allowed_same mf s none e ∙ mf.empty;
      second = allowed_same mg s none e ∙ mg.empty;
      first_best = λ y x yl xl iy ix ok. omega (arith, ea x xl);
      second_best = λ y x yl xl iy ix ok. absurd (never (s y) iy (e y yl));
      sources = λ x xl ix ok. ea x xl;
      sinks = λ x xl ix ok. omega (arith, light x xl);
      small = λ x xl. omega (arith, ea x xl);
    }
  where
    never : (b : Bool) → b ≡ true → b ≡ false → ⊥
    never b p q = let z : ◌≡◌ {A = Bool} true false = sym p ∙ q in let o : ◌≡◌ {A = ℕ} 0 1 = cc in omega arith

-- the set of size j + 1 is one of that size, with numbers that are a splitting
pub record Kept (n : ℕ) (f g : Set → Bool) (w : ℕ → ℕ) (sets numbers : List ℕ) (j : ℕ) : Type 0 where
  pub sized : size n (sized_set n sets j) ≡ suc j
  pub split : SignedSplit n f g w (first_part n numbers j) (second_part n numbers j) (sized_set n sets j)

-- after k rounds: a state of k offers, and a set for every size up to k
pub record Progress (n : ℕ) (f g : Set → Bool) (w a : ℕ → ℕ) (loss : ℕ) (s : Set) (sets numbers : List ℕ) (k : ℕ) : Type 0 where
  pub state : State n f g w a loss s
  pub counted : size n s ≡ k
  pub low : loss ≤ k * top
  pub each : (j : ℕ) → j < k → Kept n f g w sets numbers j

-- an offer's place in a row is within the row's bytes
in_row : (n x : ℕ) → x < n → x / 8 < row_bytes n
in_row n x l = omega arith

-- row j of the sets after row i was written
row_left : (n i j : ℕ) (xs ys : List ℕ) → SameBut (i * row_bytes n) (row_bytes n) xs ys → (i ≡ j → ⊥) → (x : ℕ) → x < n →
    row ys (j * row_bytes n) x ≡ row xs (j * row_bytes n) x
row_left n i j xs ys h d x l =
    let b = row_bytes n in
    let o = rows_apart 0 b i j (x / 8) (in_row n x l) (λ e. d (sym e)) in
    members_outside (i * b) b xs ys h (8 * (j * b) + x)
    (⊎_elim (λ (z : 0 + j * b + x / 8 < 0 + i * b). inl (omega arith)) (λ (z : 0 + i * b + b ≤ 0 + j * b + x / 8). inr (omega arith)) o)

-- the number at place 2 (j n + x) + c, c below 2, after the numbers of size i + 1 were written
number_left : (n i j c : ℕ) (xs ys : List ℕ) → SameBut (2 * (i * n)) (2 * n) xs ys → (i ≡ j → ⊥) → c < 2 → (x : ℕ) → x < n →
    get_or ys (2 * (j * n + x) + c) 0 ≡ get_or xs (2 * (j * n + x) + c) 0
number_left n i j c xs ys h d k x l =
    let o = rows_apart 0 n i j x l (λ e. d (sym e)) in
    h (2 * (j * n + x) + c)
    (⊎_elim (λ (z : 0 + j * n + x < 0 + i * n). inl (omega arith)) (λ (z : 0 + i * n + n ≤ 0 + j * n + x). inr (omega arith)) o)

-- both parts of a weight are as they were, after the numbers of another size were written
first_left : (n i j : ℕ) (xs ys : List ℕ) → SameBut (2 * (i * n)) (2 * n) xs ys → (i ≡ j → ⊥) → (x : ℕ) → x < n →
    first_part n ys j x ≡ first_part n xs j x
first_left n i j xs ys h d x l =
    let e : get_or ys (2 * (j * n + x)) 0 ≡ get_or xs (2 * (j * n + x)) 0 = rw add-zero at (number_left n i j 0 xs ys h d (omega arith) x l) in
    ap (to_z w64) e

second_left : (n i j : ℕ) (xs ys : List ℕ) → SameBut (2 * (i * n)) (2 * n) xs ys → (i ≡ j → ⊥) → (x : ℕ) → x < n →
    second_part n ys j x ≡ second_part n xs j x
second_left n i j xs ys h d x l = ap (to_z w64) (number_left n i j 1 xs ys h d (omega arith) x l)

-- what was kept of a size stays, where another row of sets and the numbers of another size are written
pub kept_left : {n : ℕ} {f g : Set → Bool} → Matroid n f → Matroid n g → (w : ℕ → ℕ) (sets sets' numbers numbers' : List ℕ) (i r j : ℕ) →
    SameBut (r * row_bytes n) (row_bytes n) sets sets' → (r ≡ j + 2 → ⊥) →
    SameBut (2 * (i * n)) (2 * n) numbers numbers' → (i ≡ j → ⊥) → Kept n f g w sets numbers j → Kept n f g w sets' numbers' j
kept_left {n} mf mg w sets sets' numbers numbers' i r j hs ds hn dn k =
    let same = row_left n r (j + 2) sets sets' hs ds in
    record {
      sized = size_same n (sized_set n sets' j) (sized_set n sets j) same ∙ k.sized;
      split =
          signed_along mf mg w (first_part n numbers j) (second_part n numbers j) (first_part n numbers' j) (second_part n numbers' j)
          (sized_set n sets j) (sized_set n sets' j) same (first_left n i j numbers numbers' hn dn) (second_left n i j numbers numbers' hn dn)
          k.split;
    }

-- the set and the numbers of a new state, once written, are kept for its size
kept_new : {n : ℕ} {f g : Set → Bool} → Matroid n f → Matroid n g → (w a : ℕ → ℕ) (loss : ℕ) (t : Set) (sets numbers : List ℕ) (k : ℕ) →
    State n f g w a loss t → size n t ≡ suc k → ((x : ℕ) → x < n → sized_set n sets k x ≡ t x) →
    ((x : ℕ) → x < n → first_part n numbers k x ≡ pos (a x)) →
    ((x : ℕ) → x < n → second_part n numbers k x ≡ pos (w x) -ℤ pos (a x)) → Kept n f g w sets numbers k
kept_new {n} {f} {g} mf mg w a loss t sets numbers k h c same first second =
    record {
      sized = size_same n (sized_set n sets k) t same ∙ c;
      split =
          signed_along mf mg w (λ x. pos (a x)) (λ x. pos (w x) -ℤ pos (a x)) (first_part n numbers k) (second_part n numbers k) t
          (sized_set n sets k) same first second (state_splits n f g w a loss t mf mg h);
    }

-- one round more
pub progress_more : {n : ℕ} {f g : Set → Bool} → Matroid n f → Matroid n g → (w a a' : ℕ → ℕ) (loss loss' : ℕ) (s t : Set) (sets sets' numbers numbers' : List ℕ) (k : ℕ) →
    Progress n f g w a loss s sets numbers k → State n f g w a' loss' t → size n t ≡ suc k → loss' ≤ suc k * top →
    SameBut ((k + 2) * row_bytes n) (row_bytes n) sets sets' → ((x : ℕ) → x < n → sized_set n sets' k x ≡ t x) →
    SameBut (2 * (k * n)) (2 * n) numbers numbers' → ((x : ℕ) → x < n → first_part n numbers' k x ≡ pos (a' x)) →
    ((x : ℕ) → x < n → second_part n numbers' k x ≡ pos (w x) -ℤ pos (a' x)) →
    Progress n f g w a' loss' t sets' numbers' (suc k)
progress_more {n} {f} {g} mf mg w a a' loss loss' s t sets sets' numbers numbers' k p h c l hs same hn first second =
    record {
      state = h;
      counted = c;
      low = l;
      each = λ j b.
          ⊎_elim
          (λ (z : j < k). kept_left mf mg w sets sets' numbers numbers' k (k + 2) j hs (λ e. omega arith) hn (λ e. omega arith) (p.each j z))
          (λ (z : k ≤ j).
          let e : k ≡ j = omega arith in
          subst (λ (i : ℕ). Kept n f g w sets' numbers' i) e (kept_new mf mg w a' loss' t sets' numbers' k h c same first second))
          (cases_lt j k);
    }
