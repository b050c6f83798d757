-- What the kept state answers.
use Rattle.std.proofs.Common.{◌≡◌, ℕ, ◌+◌, ◌*◌, ◌%◌, ◌<◌, ◌≤◌, Bool, true, false, not, ◌||◌, eqb, Option, Some, None, MatchOption, List, length, get_or, set, sym, refl, ap, ◌∙◌, ⊎_elim, arith}
use Rattle.std.proofs.lemmas.List.{get_or-set_same, get_or-set_other}
use Rattle.std.proofs.lemmas.Bool.{cases_eq, cases_Bool, both_ways, eqb-true, eq-eqb, not-true, not-false}
use Rattle.std.specs.Option.{is_some}
use mir.Val.{bool_byte}
use Rattle.sets.specs.Matroid.{Set, pick, with, without}
use Rattle.sets.specs.Closure.{free}
use Rattle.sets.proofs.ClosureTheorem.{free_each, free_all, free_adds, free_exchanges}
use Rattle.linear.specs.Rows.{number, span, spanned, allows, Well}
use Rattle.linear.specs.Kept.{dot, rest, functional, flag, Dual, Ready}
use Rattle.linear.proofs.Modulo.{rest_null, null_rest}
use Rattle.linear.proofs.Span.{spans_member, spans_through, spanned_gives}
use Rattle.linear.proofs.DualBasis.{rest_spans, spans_rest, dual_free, without_gives, without_spans}
use Rattle.linear.proofs.Insertion.{dot_first}
use Rattle.linear.proofs.Laws.{prime_pos, span_gives, span_from, span_closure}

-- where the first part of an `or` is true, it decides
pub or_first : (b z a : Bool) → b ≡ true → (b || z) ≡ a → b ≡ a
or_first b z a h e = grind arith

-- where the first part is false, the second decides
pub or_second : (b z a : Bool) → b ≡ false → (b || z) ≡ a → z ≡ a
or_second b z a h e = grind arith

-- no rows, no functionals
pub dual_none : (p l : ℕ) (rows fs : ℕ → ℕ → ℕ) (s : Set) → Dual p l rows fs 0 s
dual_none p l rows fs s = record { own = λ y k h. absurd (omega arith); other = λ y z k q g h ne. absurd (omega arith) }

-- an offer outside the set needs no functional
pub dual_skip : (p l : ℕ) (rows fs : ℕ → ℕ → ℕ) (m : ℕ) (s : Set) → s m ≡ false → Dual p l rows fs m s → Dual p l rows fs (m + 1) s
dual_skip p l rows fs m s out d =
    record {
      own = λ y k h. d.own y (low y k h) h;
      other = λ y z k q g h ne. d.other y z (low y k g) (low z q h) g h ne;
    }
  where
    low : (y : ℕ) → y < m + 1 → s y ≡ true → y < m
    low y k h = ⊎_elim (λ (e : y ≡ m). absurd (both_ways (s m) out (rw e at h))) (λ (ne : y ≡ m → ⊥). omega arith) (cases_eq y m)

-- a number written behind a functional changes no functional
pub dual_set :
    (p l : ℕ) (rows : ℕ → ℕ → ℕ) (xs : List ℕ) (x v m : ℕ) (s : Set) → l ≤ 64 → Dual p l rows (functional xs) m s → Dual p l rows (functional (set xs (65 * x + 64) v)) m s
dual_set p l rows xs x v m s few d =
    record {
      own = λ y k h. ap (λ x. x % p) (same y (rows y)) ∙ d.own y k h;
      other = λ y z k q g h ne. ap (λ x. x % p) (same y (rows z)) ∙ d.other y z k q g h ne;
    }
  where
    same : (y : ℕ) (t : ℕ → ℕ) → dot l (functional (set xs (65 * x + 64) v) y) t ≡ dot l (functional xs y) t
    same y t =
        dot_first l (functional (set xs (65 * x + 64) v) y) (functional xs y) t
        (λ j h. get_or-set_other xs (65 * x + 64) (65 * y + j) v 0 (λ (e : 65 * y + j ≡ 65 * x + 64). omega arith))

-- the flags so far, and one more
pub flags_more :
    (f : ℕ → ℕ) (xs : List ℕ) (x v : ℕ) → 65 * x + 64 < length xs → v ≡ f x → ((y : ℕ) → y < x → flag xs y ≡ f y) →
    (y : ℕ) → y < x + 1 → flag (set xs (65 * x + 64) v) y ≡ f y
flags_more f xs x v in_xs e old y h =
    ⊎_elim
    (λ (q : y ≡ x). ap (λ z. flag (set xs (65 * x + 64) v) z) q ∙ get_or-set_same xs (65 * x + 64) v 0 in_xs ∙ e ∙ ap f (sym q))
    (λ (q : y ≡ x → ⊥). get_or-set_other xs (65 * x + 64) (65 * y + 64) v 0 (λ (r : 65 * y + 64 ≡ 65 * x + 64). q (omega arith)) ∙ old y (omega arith))
    (cases_eq y x)

-- the column is the first that is not zero
abbrev pub FirstColumn : List ℕ → ℕ → Option ℕ → Type 0
FirstColumn sum long column =
    MatchOption column ((j : ℕ) → j < long → get_or sum j 0 ≡ 0)
    (λ q. (q < long) × ((j : ℕ) → j < q → get_or sum j 0 ≡ 0) × (get_or sum q 0 ≡ 0 → ⊥))

-- a flag is 1 or 0
pub flag_number : (b : Bool) → bool_byte b ≡ pick b 1 0
flag_number true = refl
flag_number false = refl

module _ (file : List ℕ) (n prime long at : ℕ) (well : Well file n prime long at) (s : Set) where
  -- the rows of the file
  rows : ℕ → ℕ → ℕ
  rows = number file long at

  -- the row x is spanned just where its rest has no column that is not zero
  pub rest_decides :
      (state sum : List ℕ) (x : ℕ) (column : Option ℕ) (none : Bool) → Dual prime long (number file long at) (functional state) n s →
      ((j : ℕ) → j < long → get_or sum j 0 ≡ rest prime long (number file long at) (functional state) n s (number file long at x) j % prime) →
      FirstColumn sum long column → is_some column ≡ not none → none ≡ span file n prime long at s x
  unfolding rows
  rest_decides state sum x None none d is_rest zeros e =
      not-false none (sym e)
      ∙ sym (span_from file n prime long at well s x
      (rest_spans prime long rows (functional state) n s well.is_prime.0 d (rows x)
      (λ j h. rest_null prime (rest prime long rows (functional state) n s (rows x) j) (sym (is_rest j h) ∙ zeros j h))))
  rest_decides state sum x (Some q) none d is_rest found e =
      not-true none (sym e)
      ∙ sym (⊎_elim
      (λ y.
      absurd (found.2 (is_rest q found.0 ∙ null_rest prime (rest prime long rows (functional state) n s (rows x) q) (prime_pos file n prime long at well)
      (spans_rest prime long rows (functional state) n s well.is_prime.0 d (rows x) (span_gives file n prime long at well s x y) q found.0))))
      (λ y. y) (cases_Bool (span file n prime long at s x)))

  -- a dual basis of the whole set shows that it is allowed
  pub dual_allows : (fs : ℕ → ℕ → ℕ) → Dual prime long (number file long at) fs n s → allows file n prime long at s ≡ true
  unfolding allows rows
  dual_allows fs d =
      free_all n (span file n prime long at) s
      (λ x l i.
      ⊎_elim (λ y. absurd (dual_free prime long rows fs n s well.is_prime.0 d x l i (span_gives file n prime long at well (without s x) x y)))
      (λ y. y) (cases_Bool (span file n prime long at (without s x) x)))

  -- a row that earlier rows of the set span shows that it is not
  pub spanned_refuses : (x : ℕ) → x < n → s x ≡ true → spanned prime long (number file long at) s x (number file long at x) ≡ true → allows file n prime long at s ≡ false
  unfolding allows rows
  spanned_refuses x l i h =
      ⊎_elim
      (λ y. absurd (both_ways (span file n prime long at (without s x) x) (free_each n (span file n prime long at) s y x l i) depends))
      (λ y. y) (cases_Bool (free n (span file n prime long at) s))
    where
      kept : (i : ℕ) → i < x → s i ≡ true → without s x i ≡ true
      kept i l h =
          let ne : i ≡ x → ⊥ = λ e. omega arith in grind arith

      depends : span file n prime long at (without s x) x ≡ true
      depends =
          span_from file n prime long at well (without s x) x
          (spans_through prime long rows n (without s x) x s (rows x) (prime_pos file n prime long at well)
          (λ y k r. spans_member prime long rows n (without s x) y (prime_pos file n prime long at well) (omega arith) (kept y k r))
          (spanned_gives prime long rows s x (rows x) h))

  -- an offer can be added just where its row is not spanned
  pub adds : (state : List ℕ) (x : ℕ) → Ready file n prime long at s state → x < n → s x ≡ false → eqb (flag state x) 0 ≡ allows file n prime long at (with s x)
  unfolding allows
  adds state x ready l out =
      let e = free_adds n (span file n prime long at) (span_closure file n prime long at well) s x l out ready.allowed in
      let f = ready.spans x l in
      ap (λ v. eqb v 0) f ∙ turned (span file n prime long at s x) ∙ sym e
    where
      turned : (b : Bool) → eqb (pick b 1 0) 0 ≡ not b
      turned true = refl
      turned false = refl

  -- x can take the place of y just where it can be added, or the functional of y is not 0 at its row
  pub exchanges :
      (state : List ℕ) (x y : ℕ) → Ready file n prime long at s state → x < n → s x ≡ false → y < n → s y ≡ true →
      (allows file n prime long at (with s x) || not (eqb (dot long (functional state y) (number file long at x) % prime) 0))
      ≡ allows file n prime long at (with (without s y) x)
  unfolding allows rows
  exchanges state x y ready l out k i =
      let e = free_exchanges n (span file n prime long at) (span_closure file n prime long at well) s y x l out ready.allowed in
      let f = free_adds n (span file n prime long at) (span_closure file n prime long at well) s x l out ready.allowed in
      ap (λ v. v || not zero_there) f ∙ turned (span file n prime long at s x) zero_there (span file n prime long at (without s y) x) whole there back ∙ sym e
    where
      value : ℕ
      value = dot long (functional state y) (rows x)

      zero_there : Bool
      zero_there = eqb (value % prime) 0

      turned : (a z b : Bool) → (b ≡ true → a ≡ true) → (b ≡ true → z ≡ true) → (a ≡ true → z ≡ true → b ≡ true) → (not a || not z) ≡ not b
      turned true true b f g h = ap not (sym (h refl refl))
      turned true false b f g h = grind arith
      turned false z b f g h = grind arith

      whole : span file n prime long at (without s y) x ≡ true → span file n prime long at s x ≡ true
      whole h =
          span_from file n prime long at well s x
          (spans_through prime long rows n s n (without s y) (rows x) (prime_pos file n prime long at well)
          (λ z q r. spans_member prime long rows n s z (prime_pos file n prime long at well) q (grind arith))
          (span_gives file n prime long at well (without s y) x h))

      there : span file n prime long at (without s y) x ≡ true → zero_there ≡ true
      there h =
          eq-eqb (value % prime) 0
          (null_rest prime value (prime_pos file n prime long at well)
          (without_gives prime long rows (functional state) n s well.is_prime.0 ready.dual y (rows x) k i
          (span_gives file n prime long at well (without s y) x h)))

      back : span file n prime long at s x ≡ true → zero_there ≡ true → span file n prime long at (without s y) x ≡ true
      back h z =
          span_from file n prime long at well (without s y) x
          (without_spans prime long rows (functional state) n s well.is_prime.0 ready.dual y (rows x) k i
          (span_gives file n prime long at well s x h) (rest_null prime value (eqb-true (value % prime) 0 z)))
