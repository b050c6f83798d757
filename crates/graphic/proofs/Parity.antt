-- What labels and rows of bits tell of the towns that a set of links joins, and how they change with one more link.
use Rattle.std.proofs.Common.{◌≡◌, ℕ, ◌<◌, Bool, true, false, not, ◌&&◌, ◌||◌, eqb, ◌⊎◌, sym, refl, ap, ◌∙◌, ⊎_elim, arith}
use Rattle.std.proofs.lemmas.Bool.{cases_eq, both_ways, eq-eqb, ne_eqb}
use Rattle.sets.proofs.ClosureTheorem.{free_adds, free_exchanges}
use Rattle.sets.specs.Bits.{xor}
use Rattle.sets.specs.Closure.{free}
use Rattle.sets.specs.Matroid.{Set, pick, with, without}
use Rattle.graphic.specs.Links.{joined, spanned}
use Rattle.graphic.proofs.Closed.{closure, joined_with, with_joined, joined_within}
use Rattle.graphic.proofs.Joined.{joined_least, joined_link}

-- two bits that do not differ are the same
same_bit : (a b : Bool) → xor a b ≡ false → a ≡ b
same_bit a b h = grind arith

-- what differs stays so between bits that are the same as those
differ_between : (a b c d : Bool) → a ≡ b → c ≡ d → xor b c ≡ true → xor a d ≡ true
differ_between a b c d h k l = grind arith

-- what differs does so either way round
differ_turned : (a b : Bool) → xor a b ≡ true → xor b a ≡ true
differ_turned a b h = grind arith

-- labels that are the same exactly for joined towns
abbrev pub Labelled : (from to : ℕ → ℕ) (n towns : ℕ) → Set → (ℕ → ℕ) → Type 0
Labelled from to n towns s lab = (u v : ℕ) → u < towns → v < towns → eqb (lab u) (lab v) ≡ joined from to n s u v

-- rows that differ, for the two ends of a link of the set, in that link only
abbrev pub Paired : (from to : ℕ → ℕ) (n : ℕ) → Set → (ℕ → Set) → Type 0
Paired from to n s row = (x z : ℕ) → x < n → z < n → s x ≡ true → xor (row (from x) z) (row (to x) z) ≡ eqb z x

module _ (from to : ℕ → ℕ) (n : ℕ) where
  -- towns that are joined without the link y have the same bit y
  rows_agree : (s : Set) (row : ℕ → Set) → Paired from to n s row → (y : ℕ) → y < n → (u v : ℕ) →
      joined from to n (without s y) u v ≡ true → row u y ≡ row v y
  rows_agree s row h y l =
      joined_least from to n (without s y) (λ u v. row u y ≡ row v y) (λ u. refl) (λ u v e. sym e) (λ u v w d e. d ∙ e)
      (λ x k e. same_bit (row (from x) y) (row (to x) y) (h x y k l (grind arith) ∙ ne_eqb y x (λ q. grind arith)))

  -- towns that are joined only by way of the link y differ in bit y
  rows_differ : (s : Set) (row : ℕ → Set) → Paired from to n s row → (y : ℕ) → y < n → s y ≡ true → (u v : ℕ) →
      joined from to n s u v ≡ true → joined from to n (without s y) u v ≡ false → xor (row u y) (row v y) ≡ true
  rows_differ s row h y l k u v j no_way =
      ⊎_elim (λ d. absurd (both_ways (joined from to n (without s y) u v) no_way d))
      (λ r. ⊎_elim
      (λ d. differ_between (row u y) (row (from y) y) (row (to y) y) (row v y) (agree u (from y) d.0) (agree (to y) v d.1) it)
      (λ d. differ_between (row u y) (row (to y) y) (row (from y) y) (row v y) (agree u (to y) d.0) (agree (from y) v d.1)
      (differ_turned (row (from y) y) (row (to y) y) it)) r)
      (joined_with from to n (without s y) y u v
      (joined_within from to n s (with (without s y) y) (λ x m e. back x e (cases_eq x y)) u v j))
    where
      agree : (a b : ℕ) → joined from to n (without s y) a b ≡ true → row a y ≡ row b y
      agree = rows_agree s row h y l

      it : xor (row (from y) y) (row (to y) y) ≡ true
      it = h y y l l k ∙ eq-eqb y y refl

      back : (x : ℕ) → s x ≡ true → (x ≡ y) ⊎ (x ≡ y → ⊥) → with (without s y) y x ≡ true
      back x e d = ⊎_elim (λ q. grind arith) (λ q. grind arith) d

  -- a link can be added exactly if the labels of its ends differ
  pub can_add : (s : Set) (x : ℕ) (same : Bool) → x < n → s x ≡ false → free n (spanned from to n) s ≡ true →
      same ≡ joined from to n s (from x) (to x) → not same ≡ free n (spanned from to n) (with s x)
  can_add s x same l h f e = ap not e ∙ sym (free_adds n (spanned from to n) (closure from to n) s x l h f)

  -- a link can take the place of y exactly if the labels of its ends differ, or their rows differ in y
  pub can_exchange : (s : Set) (row : ℕ → Set) (x y : ℕ) (same : Bool) → x < n → y < n → s x ≡ false → s y ≡ true →
      free n (spanned from to n) s ≡ true → Paired from to n s row →
      same ≡ joined from to n s (from x) (to x) →
      (not same || xor (row (from x) y) (row (to x) y)) ≡ free n (spanned from to n) (with (without s y) x)
  can_exchange s row x y same l m h k f r e =
      answer (joined from to n s (from x) (to x)) (joined from to n (without s y) (from x) (to x)) same
      (xor (row (from x) y) (row (to x) y)) e
      (joined_within from to n (without s y) s (λ z i w. grind arith) (from x) (to x))
      (rows_differ s row r y m k (from x) (to x))
      (λ w. alike (row (from x) y) (row (to x) y) (rows_agree s row r y m (from x) (to x) w))
      ∙ sym (free_exchanges n (spanned from to n) (closure from to n) s y x l h f)
    where
      alike : (a b : Bool) → a ≡ b → xor a b ≡ false
      alike a b q = grind arith

      answer : (whole less same bit : Bool) → same ≡ whole → (less ≡ true → whole ≡ true) →
          (whole ≡ true → less ≡ false → bit ≡ true) → (less ≡ true → bit ≡ false) → (not same || bit) ≡ not less
      answer whole less same bit a b c d = grind arith

  -- one link more: its second end's class takes the label of its first end
  pub grown_labels : (towns : ℕ) (s : Set) (x : ℕ) (old new : ℕ → ℕ) → x < n → from x < towns → to x < towns →
      Labelled from to n towns s old → joined from to n s (from x) (to x) ≡ false →
      ((t : ℕ) → t < towns → new t ≡ pick (eqb (old t) (old (to x))) (old (from x)) (old t)) →
      Labelled from to n towns (with s x) new
  grown_labels towns s x old new l p q h no_way g u v a b =
      answer (old u) (old v) (old (from x)) (old (to x)) (new u) (new v) (joined from to n s u v)
      (joined from to n s u (from x)) (joined from to n s (to x) v) (joined from to n s u (to x)) (joined from to n s (from x) v)
      (joined from to n (with s x) u v) (g u a) (g v b)
      (h (from x) (to x) p q ∙ no_way) (h u v a b) (h u (from x) a p) (h (to x) v q b) (h u (to x) a q) (h (from x) v p b)
      (joined_with from to n s x u v) (with_joined from to n s x u v l)
    where
      answer : (lu lv lp lq mu mv : ℕ) (uv up qv uq pv whole : Bool) →
          mu ≡ pick (eqb lu lq) lp lu → mv ≡ pick (eqb lv lq) lp lv → eqb lp lq ≡ false →
          eqb lu lv ≡ uv → eqb lu lp ≡ up → eqb lq lv ≡ qv → eqb lu lq ≡ uq → eqb lp lv ≡ pv →
          (whole ≡ true → (uv ≡ true) ⊎ (((up ≡ true) × (qv ≡ true)) ⊎ ((uq ≡ true) × (pv ≡ true)))) →
          ((uv ≡ true) ⊎ (((up ≡ true) × (qv ≡ true)) ⊎ ((uq ≡ true) × (pv ≡ true))) → whole ≡ true) → eqb mu mv ≡ whole
      answer lu lv lp lq mu mv uv up qv uq pv whole a b c d e f g h i j =
          settle (eqb mu mv) uv up qv uq pv whole (split lu lv lp lq mu mv uv up qv uq pv a b c d e f g h) i j
        where
          split : (lu lv lp lq mu mv : ℕ) (uv up qv uq pv : Bool) →
              mu ≡ pick (eqb lu lq) lp lu → mv ≡ pick (eqb lv lq) lp lv → eqb lp lq ≡ false →
              eqb lu lv ≡ uv → eqb lu lp ≡ up → eqb lq lv ≡ qv → eqb lu lq ≡ uq → eqb lp lv ≡ pv →
              eqb mu mv ≡ (uv || ((up && qv) || (uq && pv)))
          split lu lv lp lq mu mv uv up qv uq pv a b c d e f g h = grind arith

          settle : (r uv up qv uq pv whole : Bool) → r ≡ (uv || ((up && qv) || (uq && pv))) →
              (whole ≡ true → (uv ≡ true) ⊎ (((up ≡ true) × (qv ≡ true)) ⊎ ((uq ≡ true) × (pv ≡ true)))) →
              ((uv ≡ true) ⊎ (((up ≡ true) × (qv ≡ true)) ⊎ ((uq ≡ true) × (pv ≡ true))) → whole ≡ true) → r ≡ whole
          settle r uv up qv uq pv whole a i j = grind arith

  -- one link more: the rows of its second end's class take the sum of the rows of its two ends and of the link itself
  pub grown_rows : (towns : ℕ) (s : Set) (x : ℕ) (lab : ℕ → ℕ) (old new : ℕ → Set) → x < n →
      ((z : ℕ) → z < n → from z < towns) → ((z : ℕ) → z < n → to z < towns) →
      Labelled from to n towns s lab → joined from to n s (from x) (to x) ≡ false → Paired from to n s old →
      ((t z : ℕ) → t < towns → z < n →
      new t z ≡ pick (eqb (lab t) (lab (to x))) (xor (old t z) (xor (xor (eqb z x) (old (from x) z)) (old (to x) z))) (old t z)) →
      Paired from to n (with s x) new
  grown_rows towns s x lab old new l p q h no_way r g y z a b e =
      ⊎_elim
      (λ d. rw d (here (new (from x) z) (new (to x) z) (old (from x) z) (old (to x) z) (eqb z x) (eqb (lab (from x)) (lab (to x)))
      (eqb (lab (to x)) (lab (to x))) (g (from x) z (p x l) b) (g (to x) z (q x l) b) (h (from x) (to x) (p x l) (q x l) ∙ no_way)
      (eq-eqb (lab (to x)) (lab (to x)) refl)))
      (λ d. let k : s y ≡ true = grind arith in
      there (new (from y) z) (new (to y) z) (old (from y) z) (old (to y) z) (eqb z y)
      (xor (xor (eqb z x) (old (from x) z)) (old (to x) z)) (eqb (lab (from y)) (lab (to x))) (eqb (lab (to y)) (lab (to x)))
      (g (from y) z (p y a) b) (g (to y) z (q y a) b) (r y z a b k)
      (moved (lab (from y)) (lab (to y)) (lab (to x))
      (h (from y) (to y) (p y a) (q y a) ∙ joined_link from to n s y a k)))
      (cases_eq y x)
    where
      here : (nf nt of ot it c d : Bool) → nf ≡ pick c (xor of (xor (xor it of) ot)) of →
          nt ≡ pick d (xor ot (xor (xor it of) ot)) ot → c ≡ false → d ≡ true → xor nf nt ≡ it
      here nf nt of ot it c d a b e f = grind arith

      there : (nf nt of ot it sum c d : Bool) → nf ≡ pick c (xor of sum) of → nt ≡ pick d (xor ot sum) ot →
          xor of ot ≡ it → c ≡ d → xor nf nt ≡ it
      there nf nt of ot it sum c d a b e f = grind arith

      moved : (i j k : ℕ) → eqb i j ≡ true → eqb i k ≡ eqb j k
      moved i j k e = grind arith
