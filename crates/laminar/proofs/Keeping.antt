-- The kept state: how it is built up group by group, and how the two questions are answered from it.
use Rattle.std.proofs.Common.{◌≡◌, ℕ, ◌+◌, ◌-◌, ◌*◌, ◌^◌, ◌<◌, ◌≤◌, Bool, true, false, not, ◌&&◌, ◌||◌, eqb, ltb, List, length, sym, refl, ap, ◌∙◌, ap₂, ⊎_elim, arith}
use lib.Bits.{bit_and, and_lt}
use Rattle.std.proofs.lemmas.Bool.{cases_eq, both_ways, eqb-true, eq-eqb, ne_eqb, and_parts, lt-ltb, ltb-true}
use Rattle.sets.specs.Matroid.{Set, size, both, with, without}
use Rattle.sets.specs.Bits.{marked, word_row}
use Rattle.sets.proofs.Masks.{bit, bit_and_lem, bit_not}
use Rattle.laminar.specs.Limits.{limit, in_group, allows, full, kept_length, kept_at, Ready, Marked}
use Rattle.laminar.proofs.Fits.{takes}
use Rattle.laminar.proofs.Moves.{fits_on, add_stops, exchange_fits, exchange_stops}
use Rattle.laminar.proofs.Kept.{bits_answer, head_row}

-- a full group that holds x, as the bits have it
abbrev blocks : List ℕ → ℕ → Set
blocks state x g = marked state g && word_row state (kept_at x) g

-- the same, where the group does not hold y
abbrev blocks_but : List ℕ → ℕ → ℕ → Set
blocks_but state x y g = blocks state x g && not (word_row state (kept_at y) g)

module _ (file : List ℕ) (n groups at : ℕ) (few : groups ≤ 64) (s : Set) (state : List ℕ) (r : Ready file n groups at s state) where
  -- a group that blocks x is one of the rule's, is full and holds x
  blocking : (x g : ℕ) → x < n → g < 64 → blocks state x g ≡ true →
      (g < groups) × (in_group file n at g x ≡ true) × (size n (both (in_group file n at g) s) ≡ limit file n at g)
  blocking x g l k e =
      let p = and_parts (marked state g) (word_row state (kept_at x) g) e in
      let a = and_parts (ltb g groups) (full file n at s g) (sym (r.fulls g k) ∙ p.0) in
      let b = and_parts (ltb g groups) (in_group file n at g x) (sym (r.masks x g l k) ∙ p.1) in
      (ltb-true g groups a.0, b.1, eqb-true (size n (both (in_group file n at g) s)) (limit file n at g) a.1)

  -- and each full group of the rule that holds x blocks it
  blocked : (x g : ℕ) → x < n → g < groups → in_group file n at g x ≡ true → size n (both (in_group file n at g) s) ≡ limit file n at g →
      blocks state x g ≡ true
  blocked x g l k a b =
      let f : full file n at s g ≡ true = eq-eqb (size n (both (in_group file n at g) s)) (limit file n at g) b in
      let t : ltb g groups ≡ true = lt-ltb g groups k in
      let p = r.fulls g (omega arith) in
      let q = r.masks x g l (omega arith) in
      rw (p, q, t, f, a) refl

  module _ (held come x : ℕ) (lh : held < 2 ^ 64) (lc : come < 2 ^ 64) (in_held : (g : ℕ) → g < 64 → bit held g ≡ word_row state 0 g)
      (in_come : (g : ℕ) → g < 64 → bit come g ≡ word_row state (kept_at x) g) where
    -- the bits of the groups that block x
    block_bit : (g : ℕ) → g < 64 → bit (bit_and held come) g ≡ blocks state x g
    block_bit g l = bit_and_lem held come g ∙ ap₂ ◌&&◌ (in_held g l ∙ head_row state g) (in_come g l)

    -- the answer of can_add
    pub add_answer : x < n → s x ≡ false → eqb (bit_and held come) 0 ≡ allows file n groups at (with s x)
    add_answer l e =
        bits_answer (bit_and held come) (blocks state x) (allows file n groups at (with s x)) (and_lt 64 held come lh lc) block_bit
        (λ g k b. let p = blocking x g l k b in
        add_stops n (in_group file n at) (limit file n at) groups s x g l e p.0 p.1 p.2)
        (λ none. takes n (in_group file n at) (limit file n at) groups s x l e r.allowed
        (λ g k a b. both_ways (blocks state x g) (none g (omega arith)) (blocked x g l k a b)))

    -- the answer of can_exchange
    pub exchange_answer : (go y : ℕ) → go < 2 ^ 64 → ((g : ℕ) → g < 64 → bit go g ≡ word_row state (kept_at y) g) →
        x < n → s x ≡ false → y < n → s y ≡ true →
        eqb (bit_and (bit_and held come) (2 ^ 64 - 1 - go)) 0 ≡ allows file n groups at (with (without s y) x)
    exchange_answer go y lg in_go lx ex ly ey =
        bits_answer (bit_and (bit_and held come) (2 ^ 64 - 1 - go)) (blocks_but state x y) (allows file n groups at (with (without s y) x))
        (and_lt 64 (bit_and held come) (2 ^ 64 - 1 - go) (and_lt 64 held come lh lc) (omega arith))
        (λ g k. bit_and_lem (bit_and held come) (2 ^ 64 - 1 - go) g ∙ ap₂ ◌&&◌ (block_bit g k) (bit_not 64 go g lg k ∙ ap not (in_go g k)))
        (λ g k b.
        let q = and_parts (blocks state x g) (not (word_row state (kept_at y) g)) b in
        let p = blocking x g lx k q.0 in
        let z : in_group file n at g y ≡ false =
        out (word_row state (kept_at y) g) (ltb g groups) (in_group file n at g y) q.1 (r.masks y g ly k) (lt-ltb g groups p.0) in
        exchange_stops n (in_group file n at) (limit file n at) groups s x y g lx ex ly ey p.0 p.1 p.2 z)
        (λ none. exchange_fits n (in_group file n at) (limit file n at) groups s x y lx ex ly ey r.allowed
        (λ g k a b c.
        let z : word_row state (kept_at y) g ≡ false = r.masks y g ly (omega arith) ∙ rw c (no_and (ltb g groups)) in
        both_ways (blocks_but state x y g) (none g (omega arith)) (rw (blocked x g lx k a b, z) refl)))
      where
        out : (a b c : Bool) → not a ≡ true → a ≡ (b && c) → b ≡ true → c ≡ false
        out a b c p q t = grind arith

        no_and : (b : Bool) → (b && false) ≡ false
        no_and b = grind arith

-- nothing is kept of no groups
pub ready_none : (file : List ℕ) (n at : ℕ) (s : Set) (state : List ℕ) → kept_length n ≤ length state →
    ((j : ℕ) → j < 32 * kept_length n → word_row state 0 j ≡ false) → Ready file n 0 at s state
ready_none file n at s state long clear = record {
  long = long;
  allowed = refl;
  fulls = λ g l. let p : 32 * 0 + g ≡ g = omega arith in (rw p at (clear g (omega arith))) ∙ sym (no_less g (full file n at s g));
  masks = λ i g l k.
      let p : 32 * 0 + (32 * kept_at i + g) ≡ 32 * kept_at i + g = omega arith in
      (rw p at (clear (32 * kept_at i + g) (omega arith))) ∙ sym (no_less g (in_group file n at g i));
}
  where
    no_less : (g : ℕ) (b : Bool) → (ltb g 0 && b) ≡ false
    no_less g b = grind arith

-- the numbers up to g are those below g and g
up_to : (h g : ℕ) (f : ℕ → Bool) (b : Bool) → b ≡ (eqb h g && f g) → ((ltb h g && f h) || b) ≡ (ltb h (g + 1) && f h)
up_to h g f b z =
    ⊎_elim
    (λ (q : h ≡ g). let e : f h ≡ f g = ap f q in grind arith)
    (λ (q : h ≡ g → ⊥). grind arith)
    (cases_eq h g)

-- one more group is noted, and whether it is full
pub ready_more : (file : List ℕ) (n g at : ℕ) (s : Set) (old mid new : List ℕ) → Ready file n g at s old → Marked file n at g n old mid →
    kept_length n ≤ length new → size n (both (in_group file n at g) s) ≤ limit file n at g →
    ((h : ℕ) → h < 64 → marked new h ≡ (marked mid h || (eqb h g && full file n at s g))) →
    ((i h : ℕ) → i < n → h < 64 → word_row new (kept_at i) h ≡ word_row mid (kept_at i) h) → Ready file n (g + 1) at s new
ready_more file n g at s old mid new r m long few heads rows = record {
  long = long;
  allowed = fits_on n (in_group file n at) (limit file n at) g s few r.allowed;
  fulls = λ h l. heads h l ∙ (ap (λ b. b || (eqb h g && full file n at s g)) (m.fulls h l ∙ r.fulls h l) ∙ up_to h g (full file n at s) _ refl);
  masks = λ i h l k. rows i h l k ∙ (m.masks i h l k ∙
      (ap₂ (λ b t. b || (eqb h g && t && in_group file n at g i)) (r.masks i h l k) (lt-ltb i n l) ∙
      up_to h g (λ k. in_group file n at k i) _ (with_true (eqb h g) (in_group file n at g i))));
}
  where
    with_true : (a b : Bool) → (a && true && b) ≡ (a && b)
    with_true a b = grind arith

-- the next group is full, and that is noted
pub ready_full : (file : List ℕ) (n g at : ℕ) (s : Set) (old mid new : List ℕ) → g < 64 → Ready file n g at s old → Marked file n at g n old mid →
    kept_length n ≤ length new → size n (both (in_group file n at g) s) ≡ limit file n at g →
    ((j : ℕ) → marked new j ≡ (marked mid j || eqb j (32 * 0 + g))) → Ready file n (g + 1) at s new
ready_full file n g at s old mid new lg r m long e marks =
    let f : full file n at s g ≡ true = eq-eqb (size n (both (in_group file n at g) s)) (limit file n at g) e in
    ready_more file n g at s old mid new r m long (omega arith)
    (λ h l. marks h ∙ ap (λ b. marked mid h || b) (put h g (full file n at s g) f))
    (λ i h l k. marks (32 * kept_at i + h) ∙ or_none (word_row mid (kept_at i) h) (eqb (32 * kept_at i + h) (32 * 0 + g)) (ne_eqb (32 * kept_at i + h) (32 * 0 + g) (omega arith)))
  where
    put : (h g : ℕ) (b : Bool) → b ≡ true → eqb h (32 * 0 + g) ≡ (eqb h g && b)
    put h g b e = grind arith

    or_none : (a b : Bool) → b ≡ false → (a || b) ≡ a
    or_none a b e = grind arith

-- the next group is not full
pub ready_open : (file : List ℕ) (n g at : ℕ) (s : Set) (old mid : List ℕ) → Ready file n g at s old → Marked file n at g n old mid →
    kept_length n ≤ length mid → (size n (both (in_group file n at g) s) ≡ limit file n at g → ⊥) →
    size n (both (in_group file n at g) s) ≤ limit file n at g → Ready file n (g + 1) at s mid
ready_open file n g at s old mid r m long e few =
    let f : full file n at s g ≡ false = ne_eqb (size n (both (in_group file n at g) s)) (limit file n at g) e in
    ready_more file n g at s old mid mid r m long few
    (λ h l. none (marked mid h) (eqb h g) (full file n at s g) f)
    (λ i h l k. refl)
  where
    none : (a b c : Bool) → c ≡ false → a ≡ (a || (b && c))
    none a b c e = grind arith
