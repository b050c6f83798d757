-- The labels while the least unsettled one is settled turn by turn: what holds between turns, and that a turn keeps it.
use Rattle.std.proofs.Common.{◌≡◌, ℕ, ◌+◌, ◌<◌, ◌≤◌, Bool, true, false, not, ◌&&◌, ◌||◌, eqb, ◌⊎◌, sym, refl, ap, ◌∙◌, ⊎_elim, arith}
use Rattle.std.proofs.lemmas.Bool.{cases_Bool, both_ways, and_parts}
use Rattle.sets.specs.Matroid.{pick, Set}
use Rattle.exchange.specs.Round.{no_worse}
use Rattle.exchange.specs.Graph.{Cheapest, bettered, Changed}

-- what holds between two turns
pub record Going (n : ℕ) (to : ℕ → ℕ → Bool) (c : ℕ → ℕ → ℕ) (source settled reached : Set) (d k back : ℕ → ℕ) : Type 0 where
  pub start : (x : ℕ) → x < n → source x ≡ true → (reached x ≡ true) × (d x ≡ 0) × (k x ≡ 1)
  pub held : (v : ℕ) → v < n → settled v ≡ true → reached v ≡ true
  pub step : (v u : ℕ) → v < n → u < n → settled v ≡ true → to v u ≡ true →
      (reached u ≡ true) × (no_worse (d u) (k u) (d v + c v u) (k v + 1) ≡ true)
  pub ahead : (v u : ℕ) → v < n → u < n → settled v ≡ true → reached u ≡ true → settled u ≡ false → no_worse (d v) (k v) (d u) (k u) ≡ true
  pub along : (v : ℕ) → v < n → reached v ≡ true → 1 < k v →
      (back v < n) × (settled (back v) ≡ true) × (to (back v) v ≡ true) × (d v ≡ d (back v) + c (back v) v) × (k v ≡ k (back v) + 1)
  pub begun : (v : ℕ) → v < n → reached v ≡ true → k v ≤ 1 → (source v ≡ true) × (d v ≡ 0) × (1 ≤ k v)

-- where nothing is left to settle, the labels are complete
pub complete : (n : ℕ) (to : ℕ → ℕ → Bool) (c : ℕ → ℕ → ℕ) (source settled reached : Set) (d k back : ℕ → ℕ) →
    Going n to c source settled reached d k back → ((v : ℕ) → v < n → reached v ≡ true → settled v ≡ true) →
    Cheapest n to c source reached d k back
complete n to c source settled reached d k back h all = record {
  start = h.start;
  step = λ v u p q r t. h.step v u p q (all v p r) t;
  along = λ v p r l. let x = h.along v p r l in (x.0, h.held (back v) x.0 x.1, x.2, x.3, x.4);
  begun = λ v p r l. let x = h.begun v p r l in (x.0, x.1);
}

-- the order of labels, over plain numbers
pub no_worse_trans : (d k e l f m : ℕ) → no_worse d k e l ≡ true → no_worse e l f m ≡ true → no_worse d k f m ≡ true
no_worse_trans d k e l f m p q = grind arith

-- a way gets worse with every arc
before_more : (d k c : ℕ) → no_worse d k (d + c) (k + 1) ≡ true
before_more d k c = grind arith

-- no label is better than itself
pub no_worse_refl : (v m : ℕ) (d k : ℕ → ℕ) → v ≡ m → no_worse (d v) (k v) (d m) (k m) ≡ true
no_worse_refl v m d k s = grind arith

-- the order of equal labels, on the left
before_at : (d k e l f m : ℕ) → e ≡ d → l ≡ k → no_worse d k f m ≡ true → no_worse e l f m ≡ true
before_at d k e l f m p q h = grind arith

-- .. and on the right
before_onto : (d k e l f m : ℕ) → e ≡ d → l ≡ k → no_worse f m d k ≡ true → no_worse f m e l ≡ true
before_onto d k e l f m p q h = grind arith

-- equal labels are in order
before_same : (d k e l : ℕ) → e ≡ d → l ≡ k → no_worse e l d k ≡ true
before_same d k e l p q = grind arith

-- of two labels one is no worse
pub no_worse_other : (d k e l : ℕ) → no_worse d k e l ≡ false → no_worse e l d k ≡ true
no_worse_other d k e l h = grind arith

-- the order stays where the label before the arc is equal
before_to : (d k e l f m c : ℕ) → f ≡ e → m ≡ l → no_worse d k (e + c) (l + 1) ≡ true → no_worse d k (f + c) (m + 1) ≡ true
before_to d k e l f m c p q h = grind arith

-- .. and where the element is
before_from : (x y : ℕ → ℕ) (d k v m : ℕ) → v ≡ m → no_worse d k (x m) (y m) ≡ true → no_worse d k (x v) (y v) ≡ true
before_from x y d k v m p h = grind arith

-- a source has the best of labels
first_before : (d k e m : ℕ) → d ≡ 0 → k ≡ 1 → no_worse d k e (m + 1) ≡ true
first_before d k e m p q = grind arith

-- where the way is not better, there is a label and it is no worse
not_better : (t s r b : Bool) → t ≡ true → s ≡ false → (t && not s && (not r || not b)) ≡ false → (r ≡ true) × (b ≡ true)
not_better t s r b p q h = grind arith

-- a choice that is taken
pub pick_true : {A : Type 0} (b : Bool) (x y z : A) → b ≡ true → z ≡ pick b x y → z ≡ x
pick_true true x y z p q = q
pick_true false x y z p q = absurd (both_ways false refl p)

-- a choice that is not taken
pub pick_false : {A : Type 0} (b : Bool) (x y z : A) → b ≡ false → z ≡ pick b x y → z ≡ y
pick_false true x y z p q = absurd (both_ways true p refl)
pick_false false x y z p q = q

-- in one of two sets
pub or_true : (a b c : Bool) → b ≡ true → c ≡ (a || b) → c ≡ true
or_true a b c p q = grind arith

-- not in the second of two sets
pub or_false : (a b c : Bool) → b ≡ false → c ≡ (a || b) → c ≡ a
or_false a b c p q = grind arith

-- where the way is better: there is an arc, the head is not settled, and its label is worse
pub better_parts : (t s r b : Bool) → (t && not s && (not r || not b)) ≡ true → (t ≡ true) × (s ≡ false) × (r ≡ true → b ≡ false)
better_parts true false r true p = (refl, refl, λ q. grind arith)
better_parts true false r false p = (refl, refl, λ q. refl)
better_parts true true r b p = absurd (both_ways false refl p)
better_parts false s r b p = absurd (both_ways false refl (and_parts false (not s && (not r || not b)) p).0)

-- a turn: m is the least unsettled label, it is settled, and the labels of what it leads to are bettered
module _ (n : ℕ) (to : ℕ → ℕ → Bool) (c : ℕ → ℕ → ℕ) (source settled done reached after : Set) (d k back e l ahead : ℕ → ℕ) (m : ℕ)
    (h : Going n to c source settled reached d k back)
    (below : m < n) (found : reached m ≡ true) (fresh : settled m ≡ false)
    (least : (v : ℕ) → v < n → reached v ≡ true → settled v ≡ false → no_worse (d m) (k m) (d v) (k v) ≡ true)
    (joined : (v : ℕ) → v < n → done v ≡ (settled v || eqb v m))
    (each : (u : ℕ) → u < n → Changed (λ u. d m + c m u) (k m + 1) m (bettered to c done reached d k m) reached after d k back e l ahead u) where
  -- the elements whose label is bettered
  abbrev which : Set
  which = bettered to c done reached d k m

  -- what became of the label of u: it stays, or the way by m is better
  data Way (u : ℕ) : Type 0 where
    stay : which u ≡ false → e u ≡ d u → l u ≡ k u → ahead u ≡ back u → after u ≡ reached u → Way u
    move : to m u ≡ true → done u ≡ false → (reached u ≡ true → no_worse (d u) (k u) (d m + c m u) (k m + 1) ≡ false) →
        e u ≡ d m + c m u → l u ≡ k m + 1 → ahead u ≡ m → after u ≡ true → Way u

  -- which of the two it is
  way : (u : ℕ) → u < n → Way u
  way u p =
      let x = each u p in
      ⊎_elim
      (λ (b : which u ≡ true).
      let parts = better_parts (to m u) (done u) (reached u) (no_worse (d u) (k u) (d m + c m u) (k m + 1)) b in
      move parts.0 parts.1 parts.2 (pick_true (which u) _ _ _ b x.costs) (pick_true (which u) _ _ _ b x.steps)
      (pick_true (which u) _ _ _ b x.backs) (or_true (reached u) (which u) (after u) b x.marks))
      (λ (b : which u ≡ false).
      stay b (pick_false (which u) _ _ _ b x.costs) (pick_false (which u) _ _ _ b x.steps)
      (pick_false (which u) _ _ _ b x.backs) (or_false (reached u) (which u) (after u) b x.marks))
      (cases_Bool (which u))

  -- an element that is settled now was settled before, or it is m
  was : (v : ℕ) → v < n → done v ≡ true → (settled v ≡ true) ⊎ (v ≡ m)
  was v p q = let j = joined v p in grind arith

  -- settled labels stay
  same : (v : ℕ) → v < n → done v ≡ true → (e v ≡ d v) × (l v ≡ k v) × (after v ≡ reached v)
  same v p q = elim (way v p) [ stay b x y z t ↦ (x, y, t) | move b x y z t r o ↦ absurd (both_ways (done v) x q) ]

  -- m is settled now
  settled_m : done m ≡ true
  settled_m = let j = joined m below in grind arith

  -- what is settled is reached
  held_m : (v : ℕ) → v < n → done v ≡ true → reached v ≡ true
  held_m v p q = ⊎_elim (λ (s : settled v ≡ true). h.held v p s) (λ (s : v ≡ m). ap reached s ∙ found) (was v p q)

  -- a settled label is no later than that of m
  early : (v : ℕ) → v < n → done v ≡ true → no_worse (d v) (k v) (d m) (k m) ≡ true
  early v p q =
      ⊎_elim
      (λ (s : settled v ≡ true). h.ahead v m p below s found fresh)
      (λ (s : v ≡ m). no_worse_refl v m d k s)
      (was v p q)

  -- the sources keep their labels
  turn_start : (x : ℕ) → x < n → source x ≡ true → (after x ≡ true) × (e x ≡ 0) × (l x ≡ 1)
  turn_start x p q =
      let s = h.start x p q in
      elim (way x p) [
        | stay b i j z t ↦ (t ∙ s.0, i ∙ s.1, j ∙ s.2)
        | move b o r i j z t ↦
            absurd (both_ways _ (r s.0) (first_before (d x) (k x) (d m + c m x) (k m) s.1 s.2))
      ]

  -- no arc from a settled element betters a label
  turn_step : (v u : ℕ) → v < n → u < n → done v ≡ true → to v u ≡ true →
      (after u ≡ true) × (no_worse (e u) (l u) (e v + c v u) (l v + 1) ≡ true)
  turn_step v u p q s t =
      let old = same v p s in
      let via : (after u ≡ true) × (no_worse (e u) (l u) (d v + c v u) (k v + 1) ≡ true) =
      ⊎_elim
      (λ (w : settled v ≡ true).
      let x = h.step v u p q w t in
      elim (way u q) [
        | stay b i j z o ↦ (o ∙ x.0, before_at (d u) (k u) (e u) (l u) _ _ i j x.1)
        | move b o r i j z f ↦
            (f, before_at _ _ (e u) (l u) _ _ i j (no_worse_trans _ _ (d u) (k u) _ _ (no_worse_other (d u) (k u) (d m + c m u) (k m + 1) (r x.0)) x.1))
      ])
      (λ (w : v ≡ m).
      let z = by_m u q (sym (ap (λ (x : ℕ). to x u) w) ∙ t) in
      (z.0, before_from (λ (x : ℕ). d x + c x u) (λ (x : ℕ). k x + 1) (e u) (l u) v m w z.1))
      (was v p s) in
      (via.0, before_to (e u) (l u) (d v) (k v) (e v) (l v) (c v u) old.0 old.1 via.1)
    where
      by_m : (u : ℕ) → u < n → to m u ≡ true → (after u ≡ true) × (no_worse (e u) (l u) (d m + c m u) (k m + 1) ≡ true)
      by_m u q t =
          elim (way u q) [
            | stay b i j z o ↦
                ⊎_elim
                (λ (f : done u ≡ true). (
                  o ∙ held_m u q f,
                  before_at (d u) (k u) (e u) (l u) _ _ i j (no_worse_trans _ _ (d m) (k m) _ _ (early u q f) (before_more (d m) (k m) (c m u))),
                ))
                (λ (f : done u ≡ false).
                let x = not_better (to m u) (done u) (reached u) (no_worse (d u) (k u) (d m + c m u) (k m + 1)) t f b in
                (o ∙ x.0, before_at (d u) (k u) (e u) (l u) _ _ i j x.1))
                (cases_Bool (done u))
            | move b o r i j z f ↦ (f, before_same _ _ (e u) (l u) i j)
          ]

  -- the settled labels are no later than the others
  turn_ahead : (v u : ℕ) → v < n → u < n → done v ≡ true → after u ≡ true → done u ≡ false → no_worse (e v) (l v) (e u) (l u) ≡ true
  turn_ahead v u p q s r f =
      let old = same v p s in
      let x = early v p s in
      let unsettled : settled u ≡ false = let j = joined u q in grind arith in
      let y : no_worse (d m) (k m) (e u) (l u) ≡ true =
      elim (way u q) [
        | stay b i j z o ↦ before_onto (d u) (k u) (e u) (l u) _ _ i j (least u q (sym o ∙ r) unsettled)
        | move b o g i j z t ↦ before_onto _ _ (e u) (l u) _ _ i j (before_more (d m) (k m) (c m u))
      ] in
      before_at (d v) (k v) (e v) (l v) _ _ old.0 old.1 (no_worse_trans _ _ (d m) (k m) _ _ x y)

  -- each label comes along an arc from a settled element
  turn_along : (v : ℕ) → v < n → after v ≡ true → 1 < l v →
      (ahead v < n) × (done (ahead v) ≡ true) × (to (ahead v) v ≡ true) × (e v ≡ e (ahead v) + c (ahead v) v) × (l v ≡ l (ahead v) + 1)
  turn_along v p r g =
      elim (way v p) [
        | stay b i j z o ↦
            let x = h.along v p (sym o ∙ r) (omega arith) in
            let f : done (back v) ≡ true = let jo = joined (back v) x.0 in let xs = x.1 in grind arith in
            let y = same (back v) x.0 f in
            moved_along (back v) (ahead v) z x.0 f x.2 (i ∙ x.3 ∙ ap (λ (a : ℕ). a + c (back v) v) (sym y.0))
            (j ∙ x.4 ∙ ap (λ (a : ℕ). a + 1) (sym y.1))
        | move b o f i j z t ↦
            let y = same m below settled_m in
            moved_along m (ahead v) z below settled_m b (i ∙ ap (λ (a : ℕ). a + c m v) (sym y.0)) (j ∙ ap (λ (a : ℕ). a + 1) (sym y.1))
      ]
    where
      moved_along : (x y : ℕ) → y ≡ x → x < n → done x ≡ true → to x v ≡ true → e v ≡ e x + c x v → l v ≡ l x + 1 →
          (y < n) × (done y ≡ true) × (to y v ≡ true) × (e v ≡ e y + c y v) × (l v ≡ l y + 1)
      moved_along x y q a b t f s =
          (omega arith, ap done q ∙ b, ap (λ (i : ℕ). to i v) q ∙ t, f ∙ sym (ap (λ (i : ℕ). e i + c i v) q), s ∙ sym (ap (λ (i : ℕ). l i + 1) q))

  -- .. or from a source
  turn_begun : (v : ℕ) → v < n → after v ≡ true → l v ≤ 1 → (source v ≡ true) × (e v ≡ 0) × (1 ≤ l v)
  turn_begun v p r g =
      elim (way v p) [
        | stay b i j z o ↦ let x = h.begun v p (sym o ∙ r) (omega arith) in (x.0, i ∙ x.1, omega (arith, x.2))
        | move b o f i j z t ↦ let x = h.begun m below found (omega arith) in absurd (omega (arith, x.2))
      ]

  -- the turn keeps what holds between turns
  pub turn : Going n to c source done after e l ahead
  turn = record {
    start = turn_start;
    held = λ v p q. (same v p q).2 ∙ held_m v p q;
    step = turn_step;
    ahead = turn_ahead;
    along = turn_along;
    begun = turn_begun;
  }

-- an element is settled: the set is the old one with it
pub settles : (settled done : Set) (m : ℕ) → ((j : ℕ) → done j ≡ pick (eqb j m) true (settled j)) → (v : ℕ) → done v ≡ (settled v || eqb v m)
settles settled done m h v = let x = h v in joins_in (eqb v m) (settled v) (done v) x
  where
    joins_in : (e b r : Bool) → r ≡ pick e true b → r ≡ (b || e)
    joins_in true b r q = grind arith
    joins_in false b r q = grind arith

-- reached and not settled, taken apart and put together
pub open_parts : (r s : Bool) → (r && not s) ≡ true → (r ≡ true) × (s ≡ false)
open_parts r s h = grind arith

-- reached and not settled, put together
pub open_from : (r s : Bool) → r ≡ true → s ≡ false → (r && not s) ≡ true
open_from r s p q = grind arith
