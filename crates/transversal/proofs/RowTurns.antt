-- One turn of each loop over the kept rows.
use Rattle.std.proofs.Common.{◌≡◌, ℕ, ◌+◌, ◌*◌, ◌<◌, ◌≤◌, Bool, true, false, ◌&&◌, ◌||◌, ltb, leb, ◌⊎◌, List, sym, ap, ◌∙◌, ⊎_elim, arith}
use Rattle.std.proofs.lemmas.Bool.{cases_lt, cases_eq}
use Rattle.sets.specs.Bits.{row, word_row, row_bytes, SameBut}
use Rattle.transversal.specs.Volunteers.{can_tend, in_row}
use Rattle.transversal.specs.Pairs.{can_by, start, start_free, through}
use Rattle.transversal.proofs.RowFacts.{other_row, some_more, some_same}

-- one more volunteer's row was read
pub loaded_more : (file : List ℕ) (n width place v : ℕ) (xs ys : List ℕ) → n ≤ 32 * width →
    ((u x : ℕ) → u < v → x < n → can_by xs n width u x ≡ can_tend file n place u x) →
    ((j : ℕ) → j < 32 * width → word_row ys ((n + 1 + v) * width) j ≡ (ltb j n && row file (place + v * row_bytes n) j)) →
    SameBut ((n + 1 + v) * width) width xs ys →
    (u x : ℕ) → u < v + 1 → x < n → can_by ys n width u x ≡ can_tend file n place u x
loaded_more file n width place v xs ys wide inv marks same u x h k = ⊎_elim
    (λ (e : u ≡ v). ap (λ w. can_by ys n width w x) e ∙ (marks x (omega arith) ∙ (here x k ∙ ap (λ w. can_tend file n place w x) (sym e))))
    (λ d. other_row (n + 1 + v) (n + 1 + u) width xs ys same (λ q. d (omega arith)) x (omega arith) ∙ inv u x (omega arith) k)
    (cases_eq u v)
  where
    here : (x : ℕ) → x < n → (ltb x n && row file (place + v * row_bytes n) x) ≡ row file (place + v * row_bytes n) x
    here x k = grind arith

module _ (n volunteers width : ℕ) (wide : n ≤ 32 * width) where
  -- one more offer's row was started
  pub started_more : (f : ℕ → ℕ) (y : ℕ) (old xs ys : List ℕ) → y < n →
      ((z x : ℕ) → z < y → x < n → in_row xs width z x ≡ start (can_by old n width) volunteers f z x) ×
      ((k x : ℕ) → n ≤ k → x < n → in_row xs width k x ≡ in_row old width k x) →
      ((x : ℕ) → x < n → in_row ys width y x ≡ start (can_by old n width) volunteers f y x) → SameBut (y * width) width xs ys →
      ((z x : ℕ) → z < y + 1 → x < n → in_row ys width z x ≡ start (can_by old n width) volunteers f z x) ×
      ((k x : ℕ) → n ≤ k → x < n → in_row ys width k x ≡ in_row old width k x)
  started_more f y old xs ys l inv here same = (
    λ z x h k. ⊎_elim
        (λ (e : z ≡ y). ap (λ w. in_row ys width w x) e ∙ (here x k ∙ ap (λ w. start (can_by old n width) volunteers f w x) (sym e)))
        (λ d. other_row y z width xs ys same d x (omega arith) ∙ inv.0 z x (omega arith) k)
        (cases_eq z y),
    λ z x h k. other_row y z width xs ys same (λ q. omega arith) x (omega arith) ∙ inv.1 z x h k,
  )

  -- by a copy of its volunteer's row, or as an empty row
  pub started_copy : (f : ℕ → ℕ) (y : ℕ) (old xs ys : List ℕ) → f y < volunteers →
      ((k x : ℕ) → n ≤ k → x < n → in_row xs width k x ≡ in_row old width k x) →
      ((j : ℕ) → j < 32 * width → word_row ys (y * width) j ≡ word_row xs ((n + 1 + f y) * width) j) →
      (x : ℕ) → x < n → in_row ys width y x ≡ start (can_by old n width) volunteers f y x
  started_copy f y old xs ys has rest marks x h =
      let a : in_row ys width y x ≡ can_by xs n width (f y) x = marks x (omega arith) in
      let b : can_by xs n width (f y) x ≡ can_by old n width (f y) x = rest (n + 1 + f y) x (omega arith) h in
      a ∙ (b ∙ grind arith)

  pub started_empty : (f : ℕ → ℕ) (y : ℕ) (old ys : List ℕ) → volunteers ≤ f y →
      ((j : ℕ) → j < 32 * width → word_row ys (y * width) j ≡ false) →
      (x : ℕ) → x < n → in_row ys width y x ≡ start (can_by old n width) volunteers f y x
  started_empty f y old ys out marks x h = marks x (omega arith) ∙ grind arith

  -- one more volunteer was looked at for row n
  pub freed_in : (o : ℕ → ℕ) (v : ℕ) (old xs ys : List ℕ) → n ≤ o v →
      ((x : ℕ) → x < n → in_row xs width n x ≡ start_free (can_by old n width) n v o x) ×
      ((k x : ℕ) → (k ≡ n → ⊥) → x < n → in_row xs width k x ≡ in_row old width k x) →
      ((j : ℕ) → j < 32 * width → word_row ys (n * width) j ≡ (word_row xs (n * width) j || word_row xs ((n + 1 + v) * width) j)) →
      SameBut (n * width) width xs ys →
      ((x : ℕ) → x < n → in_row ys width n x ≡ start_free (can_by old n width) n (v + 1) o x) ×
      ((k x : ℕ) → (k ≡ n → ⊥) → x < n → in_row ys width k x ≡ in_row old width k x)
  freed_in o v old xs ys free inv marks same = (
    λ x h. marks x (omega arith) ∙ (both_in x (inv.0 x h) (inv.1 (n + 1 + v) x (λ e. omega arith) h) ∙ sym (some_more v (λ u. leb n (o u) && can_by old n width u x))),
    λ k x d h. other_row n k width xs ys same d x (omega arith) ∙ inv.1 k x d h,
  )
    where
      or_swap : (a b c d l : Bool) → a ≡ c → b ≡ d → l ≡ true → (a || b) ≡ ((l && d) || c)
      or_swap a b c d l e q i = grind arith

      both_in : (x : ℕ) → in_row xs width n x ≡ start_free (can_by old n width) n v o x → in_row xs width (n + 1 + v) x ≡ in_row old width (n + 1 + v) x →
          (in_row xs width n x || in_row xs width (n + 1 + v) x) ≡ ((leb n (o v) && can_by old n width v x) || start_free (can_by old n width) n v o x)
      both_in x e q = or_swap _ _ _ _ (leb n (o v)) e q (grind arith)

  pub freed_past : (o : ℕ → ℕ) (v : ℕ) (old xs : List ℕ) → o v < n →
      ((x : ℕ) → x < n → in_row xs width n x ≡ start_free (can_by old n width) n v o x) →
      (x : ℕ) → x < n → in_row xs width n x ≡ start_free (can_by old n width) n (v + 1) o x
  freed_past o v old xs busy inv x h = inv x h ∙ (skip (leb n (o v)) (can_by old n width v x) (start_free (can_by old n width) n v o x) (grind arith) ∙ sym (some_more v (λ u. leb n (o u) && can_by old n width u x)))
    where
      skip : (l a c : Bool) → l ≡ false → c ≡ ((l && a) || c)
      skip l a c e = grind arith

  -- row n over rows of volunteers that are the same
  pub freed_same : (o : ℕ → ℕ) (old xs : List ℕ) (x : ℕ) → x < n → ((k x : ℕ) → (k ≡ n → ⊥) → x < n → in_row xs width k x ≡ in_row old width k x) →
      start_free (can_by xs n width) n volunteers o x ≡ start_free (can_by old n width) n volunteers o x
  freed_same o old xs x h same = some_same volunteers (λ v. leb n (o v) && can_by xs n width v x) (λ v. leb n (o v) && can_by old n width v x)
      (λ v k. ap (λ w. leb n (o v) && w) (same (n + 1 + v) x (λ e. omega arith) h))

  -- one more row was closed through j: the row of j is as it was
  pub through_more : (j k : ℕ) (old xs ys : List ℕ) → j < n →
      ((z x : ℕ) → z < k → x < n → in_row xs width z x ≡ through (in_row old width) j z x) ×
      ((z x : ℕ) → k ≤ z → x < n → in_row xs width z x ≡ in_row old width z x) →
      ((x : ℕ) → x < n → in_row ys width k x ≡ through (in_row old width) j k x) →
      ((z x : ℕ) → (z ≡ k → ⊥) → x < n → in_row ys width z x ≡ in_row xs width z x) →
      ((z x : ℕ) → z < k + 1 → x < n → in_row ys width z x ≡ through (in_row old width) j z x) ×
      ((z x : ℕ) → k + 1 ≤ z → x < n → in_row ys width z x ≡ in_row old width z x)
  through_more j k old xs ys l inv here same = (
    λ z x h i. ⊎_elim
        (λ (e : z ≡ k). ap (λ w. in_row ys width w x) e ∙ (here x i ∙ ap (λ w. through (in_row old width) j w x) (sym e)))
        (λ d. same z x d i ∙ inv.0 z x (omega arith) i) (cases_eq z k),
    λ z x h i. same z x (λ e. omega arith) i ∙ inv.1 z x (omega arith) i,
  )

  -- the row of j, before and after its own turn
  pub row_of_j : (j k : ℕ) (old xs : List ℕ) → j < n →
      ((z x : ℕ) → z < k → x < n → in_row xs width z x ≡ through (in_row old width) j z x) ×
      ((z x : ℕ) → k ≤ z → x < n → in_row xs width z x ≡ in_row old width z x) →
      (x : ℕ) → x < n → in_row xs width j x ≡ in_row old width j x
  row_of_j j k old xs l inv x h = ⊎_elim
      (λ q. inv.0 j x q h ∙ again (in_row old width j x) (in_row old width j j))
      (λ q. inv.1 j x q h) (cases_lt j k)
    where
      again : (a b : Bool) → (a || (b && a)) ≡ a
      again a b = grind arith

  -- row k has j and takes its row; it has not; it is the row of j
  pub through_took : (j k : ℕ) (old xs ys : List ℕ) → j < n →
      ((z x : ℕ) → z < k → x < n → in_row xs width z x ≡ through (in_row old width) j z x) ×
      ((z x : ℕ) → k ≤ z → x < n → in_row xs width z x ≡ in_row old width z x) →
      in_row xs width k j ≡ true →
      ((i : ℕ) → i < 32 * width → word_row ys (k * width) i ≡ (word_row xs (k * width) i || word_row xs (j * width) i)) →
      (x : ℕ) → x < n → in_row ys width k x ≡ through (in_row old width) j k x
  through_took j k old xs ys l inv has marks x h =
      marks x (omega arith) ∙ took (in_row xs width k x) (in_row xs width j x) (in_row old width k x) (in_row old width j x) (in_row old width k j)
      (inv.1 k x (omega arith) h) (row_of_j j k old xs l inv x h) (sym (inv.1 k j (omega arith) l) ∙ has)
    where
      took : (a b c d e : Bool) → a ≡ c → b ≡ d → e ≡ true → (a || b) ≡ (c || (e && d))
      took a b c d e p q r = grind arith

  pub through_left : (j k : ℕ) (old xs : List ℕ) → j < n →
      ((z x : ℕ) → k ≤ z → x < n → in_row xs width z x ≡ in_row old width z x) →
      (in_row xs width k j ≡ false) ⊎ (k ≡ j) →
      (x : ℕ) → x < n → in_row xs width k x ≡ through (in_row old width) j k x
  through_left j k old xs l inv way x h = inv k x (omega arith) h ∙ ⊎_elim
      (λ e. left (in_row old width k x) (in_row old width j x) (in_row old width k j) (sym (inv k j (omega arith) l) ∙ e))
      (λ e. self e) way
    where
      left : (c d e : Bool) → e ≡ false → c ≡ (c || (e && d))
      left c d e r = grind arith

      same : (c d e : Bool) → c ≡ d → c ≡ (c || (e && d))
      same c d e r = grind arith

      self : k ≡ j → in_row old width k x ≡ through (in_row old width) j k x
      self e = same (in_row old width k x) (in_row old width j x) (in_row old width k j) (ap (λ w. in_row old width w x) e)
