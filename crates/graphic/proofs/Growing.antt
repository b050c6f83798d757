-- The kept state of the empty set, of a set with one link more, and of sets that are the same below n.
use Rattle.std.proofs.Common.{◌≡◌, ℕ, ◌+◌, ◌<◌, ◌≤◌, Bool, true, false, not, ◌&&◌, ◌||◌, eqb, ltb, List, length, sym, refl, ap, ◌∙◌, ⊎_elim, arith}
use Rattle.std.proofs.lemmas.Bool.{cases_Bool, cases_eq, both_ways, eq-eqb, ne_eqb}
use Rattle.sets.proofs.ClosureTheorem.{free_all, free_within}
use Rattle.sets.specs.Bits.{xor, word_row}
use Rattle.sets.specs.Matroid.{Set, pick, none, with, Within}
use Rattle.graphic.specs.Links.{from_town, to_town, joined, spanned, allows, Well, Ready, in_row, label, kept_length}
use Rattle.graphic.proofs.Closed.{closure, joined_within}
use Rattle.graphic.proofs.Joined.{joined_refl, joined_least}
use Rattle.graphic.proofs.Kept.{add_answer}
use Rattle.graphic.proofs.Parity.{grown_labels, grown_rows}

-- the links of a set before i
abbrev pub front : Set → ℕ → Set
front s i x = s x && ltb x i

-- i is not before i
pub front_new : (s : Set) (i : ℕ) → front s i i ≡ false
front_new s i = grind arith

-- the links before i and i itself, where i is in the set or not
one_more : (b : Bool) (x i : ℕ) → (x ≡ i → b ≡ true) → ((b && ltb x i) || eqb x i) ≡ (b && ltb x (i + 1))
one_more b x i h = ⊎_elim (λ e. let k = h e in grind arith) (λ ne. grind arith) (cases_eq x i)

-- the links before i + 1, where i is not in the set
no_more : (b : Bool) (x i : ℕ) → (x ≡ i → b ≡ false) → (b && ltb x i) ≡ (b && ltb x (i + 1))
no_more b x i h = ⊎_elim (λ e. let k = h e in grind arith) (λ ne. grind arith) (cases_eq x i)

-- two tests that follow from one another are the same
same_test : (a b : Bool) → (a ≡ true → b ≡ true) → (b ≡ true → a ≡ true) → a ≡ b
same_test a b h k = grind arith

module _ (file : List ℕ) (n towns at : ℕ) where
  -- no links: each town has a label of its own
  pub ready_none : (state : List ℕ) → kept_length n ≤ length state → ((t : ℕ) → t < towns → label state t ≡ t) →
      Ready file n towns at none state
  ready_none state l h = record {
    fits = l;
    allowed = free_all n (spanned (from_town file at) (to_town file at) n) none (λ x k e. absurd (both_ways false refl e));
    labels = λ u v a b. own u v a b;
    rows = λ x z a b e. absurd (both_ways false refl e);
  }
    where
      alone : (u v : ℕ) → joined (from_town file at) (to_town file at) n none u v ≡ true → u ≡ v
      alone =
          joined_least (from_town file at) (to_town file at) n none (λ u v. u ≡ v) (λ u. refl) (λ u v e. sym e) (λ u v w d e. d ∙ e)
          (λ x k e. absurd (both_ways false refl e))

      self : (u v : ℕ) → u ≡ v → joined (from_town file at) (to_town file at) n none u v ≡ true
      self u v e = rw e (joined_refl (from_town file at) (to_town file at) n none v)

      own : (u v : ℕ) → u < towns → v < towns →
          eqb (label state u) (label state v) ≡ joined (from_town file at) (to_town file at) n none u v
      own u v a b =
          same_test (eqb (label state u) (label state v)) (joined (from_town file at) (to_town file at) n none u v)
          (λ e. self u v (let p = h u a in let q = h v b in grind arith))
          (λ e. eq-eqb (label state u) (label state v) (h u a ∙ alone u v e ∙ sym (h v b)))

  -- sets that are the same below n are allowed alike
  pub allows_within : (s t : Set) → Within n s t → allows file n towns at t ≡ true → allows file n towns at s ≡ true
  allows_within s t h =
      free_within n (spanned (from_town file at) (to_town file at) n) (closure (from_town file at) (to_town file at) n) s t h

  -- and have the same kept state
  pub ready_same : (s t : Set) (state : List ℕ) → ((x : ℕ) → x < n → s x ≡ t x) → Ready file n towns at s state → Ready file n towns at t state
  ready_same s t state h r = record {
    fits = r.fits;
    allowed = allows_within t s (λ x l e. h x l ∙ e) r.allowed;
    labels = λ u v a b. r.labels u v a b
        ∙ same_test (joined (from_town file at) (to_town file at) n s u v) (joined (from_town file at) (to_town file at) n t u v)
        (joined_within (from_town file at) (to_town file at) n s t (λ x l e. sym (h x l) ∙ e) u v)
        (joined_within (from_town file at) (to_town file at) n t s (λ x l e. h x l ∙ e) u v);
    rows = λ x z a b e. r.rows x z a b (h x a ∙ e);
  }

  -- one link more between two classes
  pub ready_with : (s : Set) (x u v : ℕ) (xs ys zs : List ℕ) → Well file n towns at → Ready file n towns at s xs → x < n → s x ≡ false →
      u ≡ from_town file at x → v ≡ to_town file at x → (label xs u ≡ label xs v → ⊥) → kept_length n ≤ length zs →
      ((z : ℕ) → z < n → word_row ys 600 z ≡ xor (xor (eqb z x) (in_row xs n u z)) (in_row xs n v z)) →
      ((t : ℕ) → t < 600 → label ys t ≡ label xs t) →
      ((t z : ℕ) → t < 600 → z < n → in_row ys n t z ≡ in_row xs n t z) →
      ((t : ℕ) → t < towns → label zs t ≡ pick (eqb (label ys t) (label xs v)) (label xs u) (label ys t)) →
      ((t z : ℕ) → t < towns → z < n →
      in_row zs n t z ≡ pick (eqb (label ys t) (label xs v)) (xor (in_row ys n t z) (word_row ys 600 z)) (in_row ys n t z)) →
      Ready file n towns at (with s x) zs
  ready_with s x u v xs ys zs w r l h e f apart long sum ls rs lm rm = record {
    fits = long;
    allowed = sym (add_answer file n towns at s xs w r x u v l h e f) ∙ ap not (ne_eqb (label xs u) (label xs v) apart);
    labels = grown_labels (from_town file at) (to_town file at) n towns s x (label xs) (label zs) l (w.from_real x l) (w.to_real x l)
        r.labels no_way (λ t k. rw (← e, ← f) (new_label t k));
    rows = grown_rows (from_town file at) (to_town file at) n towns s x (label xs) (in_row xs n) (in_row zs n) l w.from_real w.to_real
        r.labels no_way r.rows (λ t z k m. rw (← e, ← f) (new_row t z k m));
  }
    where
      no_way : joined (from_town file at) (to_town file at) n s (from_town file at x) (to_town file at x) ≡ false
      no_way =
          sym (r.labels (from_town file at x) (to_town file at x) (w.from_real x l) (w.to_real x l))
          ∙ rw (← e, ← f) (ne_eqb (label xs u) (label xs v) apart)

      new_label : (t : ℕ) → t < towns → label zs t ≡ pick (eqb (label xs t) (label xs v)) (label xs u) (label xs t)
      new_label t k = let few = w.few in lm t k ∙ ap (λ q. pick (eqb q (label xs v)) (label xs u) q) (ls t (omega arith))

      new_row : (t z : ℕ) → t < towns → z < n →
          in_row zs n t z
          ≡ pick (eqb (label xs t) (label xs v)) (xor (in_row xs n t z) (xor (xor (eqb z x) (in_row xs n u z)) (in_row xs n v z))) (in_row xs n t z)
      new_row t z k m =
          let few = w.few in
          rm t z k m
          ∙ ap (λ q. pick (eqb q (label xs v)) (xor (in_row ys n t z) (word_row ys 600 z)) (in_row ys n t z)) (ls t (omega arith))
          ∙ ap (λ q. pick (eqb (label xs t) (label xs v)) (xor q (word_row ys 600 z)) q) (rs t z (omega arith) m)
          ∙ ap (λ q. pick (eqb (label xs t) (label xs v)) (xor (in_row xs n t z) q) (in_row xs n t z)) (sum z m)

  -- a link of the set that cannot be added to the links before it stops the set from being allowed
  pub stops : (s : Set) (i : ℕ) → s i ≡ true → allows file n towns at (with (front s i) i) ≡ false → allows file n towns at s ≡ false
  stops s i h k =
      ⊎_elim
      (λ e. absurd (both_ways (allows file n towns at (with (front s i) i)) k
      (allows_within (with (front s i) i) s (λ x l m. grind arith) e)))
      (λ e. e) (cases_Bool (allows file n towns at s))

  -- the links before the first are none
  pub front_none : (s : Set) (state : List ℕ) → Ready file n towns at none state → Ready file n towns at (front s 0) state
  front_none s state r = ready_same none (front s 0) state (λ x l. grind arith) r

  -- a link that is in the set
  pub front_taken : (s : Set) (i : ℕ) (state : List ℕ) → s i ≡ true → Ready file n towns at (with (front s i) i) state →
      Ready file n towns at (front s (i + 1)) state
  front_taken s i state h r = ready_same (with (front s i) i) (front s (i + 1)) state (λ x l. one_more (s x) x i (λ e. ap s e ∙ h)) r

  -- a link that is not
  pub front_passed : (s : Set) (i : ℕ) (state : List ℕ) → s i ≡ false → Ready file n towns at (front s i) state →
      Ready file n towns at (front s (i + 1)) state
  front_passed s i state h r = ready_same (front s i) (front s (i + 1)) state (λ x l. no_more (s x) x i (λ e. ap s e ∙ h)) r

  -- all links
  pub front_all : (s : Set) (i : ℕ) (state : List ℕ) → n ≤ i → Ready file n towns at (front s i) state → Ready file n towns at s state
  front_all s i state h r = ready_same (front s i) s state (λ x l. grind arith) r
