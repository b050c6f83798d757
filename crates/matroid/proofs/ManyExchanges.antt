-- Many exchanges at once: the pairs that are still to be exchanged are a set of indices; one of the least keys is taken first.
use Rattle.std.proofs.Common.{◌≡◌, ℕ, zero, suc, ◌+◌, ◌<◌, ◌≤◌, Bool, true, false, not, ◌&&◌, ◌||◌, eqb, ◌⊎◌, sym, refl, ap, ◌∙◌, subst, ⊎_elim, arith}
use Rattle.std.proofs.lemmas.Bool.{cases_Bool, cases_lt, cases_eq, both_ways}
use Rattle.sets.specs.Matroid.{Set, size, weight, without, with, Matroid}
use Rattle.sets.proofs.FiniteSets.{size_same, size_without, size_exchange, look_up, least}
use Rattle.sets.proofs.Weights.{weight_same, weight_exchange}
use Rattle.sets.proofs.MatroidLaws.{allowed_within, refused_within, allowed_same}
use Rattle.matroid.specs.Exchanges.{among}
use Rattle.matroid.proofs.OneMatroid.{refused_is_new, makes_way_is_held, carry}

-- the elements of a row at the indices below m that are in a set of indices
abbrev pub hit : (ℕ → ℕ) → Set → ℕ → Set
hit y act zero v = false
hit y act (suc m) v = (act m && eqb v (y m)) || hit y act m v

-- a set after the exchanges at these indices
abbrev pub swapped : Set → (ℕ → ℕ) → (ℕ → ℕ) → Set → ℕ → Set
swapped s y x act m v = (s v && not (hit y act m v)) || hit x act m v

-- a hit has an index
hit_at : (y : ℕ → ℕ) (act : Set) (m v : ℕ) → hit y act m v ≡ true → (i : ℕ) × (i < m) × (act i ≡ true) × (v ≡ y i)
hit_at y act zero v h = absurd (both_ways false refl h)
hit_at y act (suc m) v h =
    ⊎_elim
    (λ e. let r = hit_at y act m v e in (r.0, omega arith, r.2, r.3))
    (λ e. (m, omega arith, grind arith, grind arith))
    (cases_Bool (hit y act m v))

-- no index, no hit
hit_nothing : (y : ℕ → ℕ) (act : Set) (m v : ℕ) → ((i : ℕ) → i < m → act i ≡ false) → hit y act m v ≡ false
hit_nothing y act zero v h = refl
hit_nothing y act (suc m) v h =
    let r : hit y act m v ≡ false = hit_nothing y act m v (λ i p. h i (omega arith)) in
    let e : act m ≡ false = h m (omega arith) in
    grind arith

-- with all indices a hit is an element of the row
pub hit_all : (y : ℕ → ℕ) (m v : ℕ) → hit y (λ i. true) m v ≡ among y m v
hit_all y zero v = refl
hit_all y (suc m) v = let r : hit y (λ i. true) m v ≡ among y m v = hit_all y m v in grind arith

-- an index from m on hits nothing
hit_beyond : (y : ℕ → ℕ) (act : Set) (m v p : ℕ) → m ≤ p → hit y (without act p) m v ≡ hit y act m v
hit_beyond y act zero v p h = refl
hit_beyond y act (suc m) v p h = let r : hit y (without act p) m v ≡ hit y act m v = hit_beyond y act m v p (omega arith) in grind arith

-- one index apart
hit_apart : (y : ℕ → ℕ) (act : Set) (m v p : ℕ) → p < m → act p ≡ true → hit y act m v ≡ (eqb v (y p) || hit y (without act p) m v)
hit_apart y act zero v p h e = absurd (omega arith)
hit_apart y act (suc m) v p h e =
    ⊎_elim
    (λ q. let r : hit y act m v ≡ (eqb v (y p) || hit y (without act p) m v) = hit_apart y act m v p q e in grind arith)
    (λ q. let k : m ≡ p = omega arith in
    let r : hit y (without act p) m v ≡ hit y act m v = hit_beyond y act m v p q in
    let d : eqb v (y m) ≡ eqb v (y p) = ap (λ i. eqb v (y i)) k in
    let c : act m ≡ true = subst (λ i. act i ≡ true) (sym k) e in
    grind arith)
    (cases_lt p m)

-- the pairs that are still to be exchanged, with equal numbers a, whose exchanges fall by keys
pub record Open (n : ℕ) (f : Set → Bool) (a : ℕ → ℕ) (y x : ℕ → ℕ) (m : ℕ) (key place : ℕ → ℕ) (s act : Set) : Type 0 where
  pub allowed : f s ≡ true
  pub full : (i : ℕ) → i < m → act i ≡ true → f (with s (x i)) ≡ false
  pub single : (i : ℕ) → i < m → act i ≡ true → f (with (without s (y i)) (x i)) ≡ true
  pub equal : (i : ℕ) → i < m → act i ≡ true → a (x i) ≡ a (y i)
  pub falling : (i j : ℕ) → i < m → j < m → act i ≡ true → act j ≡ true → (i ≡ j → ⊥) → f (with (without s (y i)) (x j)) ≡ true →
      (key j < key i) ⊎ ((key j ≡ key i) × (place j < place i))

-- an allowed set of the size and the weight of another
abbrev pub Like : (n : ℕ) (f : Set → Bool) (a : ℕ → ℕ) → Set → Set → Type 0
Like n f a s t = (f t ≡ true) × (size n t ≡ size n s) × (weight n a t ≡ weight n a s)

-- an index of the least keys: no other is below it
lowest : (m : ℕ) (act : Set) (key place : ℕ → ℕ) (i : ℕ) → i < m → act i ≡ true →
    (p : ℕ) × (p < m) × (act p ≡ true) ×
    ((j : ℕ) → j < m → act j ≡ true → ((key j < key p) ⊎ ((key j ≡ key p) × (place j < place p))) → ⊥)
lowest m act key place i h e =
    let v = least m act key i h e in
    let p = least m (λ j. act j && eqb (key j) (key v.0)) place v.0 v.1 (grind arith) in (
      p.0,
      p.1,
      grind arith,
      (λ j q d l. below (act p.0) (act j) (key j) (key p.0) (key v.0) (place j) (place p.0) p.2 d (v.3 j q d) (p.3 j q) l),
    )
  where
    below : (b c : Bool) (kj kp kv pj pp : ℕ) → (b && eqb kp kv) ≡ true → c ≡ true → kv ≤ kj → ((c && eqb kj kv) ≡ true → pp ≤ pj) →
        ((kj < kp) ⊎ ((kj ≡ kp) × (pj < pp))) → ⊥
    below b c kj kp kv pj pp e d h k l = grind arith

module _ (n : ℕ) (f : Set → Bool) (m : Matroid n f) (s : Set) (y x : ℕ) (held : s y ≡ true) (fresh : s x ≡ false)
    (allowed : f s ≡ true) (single : f (with (without s y) x) ≡ true) where
  -- after one exchange, an exchange of other elements is allowed where it was before
  still_allowed : (w v : ℕ) → f (with (without s y) v) ≡ false → f (with (without s w) v) ≡ true →
      f (with (without (with (without s y) x) w) v) ≡ true
  still_allowed w v e d =
      allowed_within m (with (without (with (without s y) x) w) v) (with (with (without (without s y) w) v) x) (λ u p i. grind arith)
      (carry n f (without s y) v w x m (grind arith) e single
      (allowed_within m (with (without (without s y) w) v) (with (without s w) v) (λ u p i. grind arith) d))

  -- and only there
  was_allowed : (w v : ℕ) → f (with (without s y) v) ≡ false → f (with (without (with (without s y) x) w) v) ≡ true →
      f (with (without s w) v) ≡ true
  was_allowed w v e d =
      allowed_within m (with (without s w) v) (with (with (without (without s y) w) v) y) (λ u p i. grind arith)
      (carry n f (without s y) v w y m (grind arith) e
      (allowed_within m (with (without s y) y) s (λ u p i. back u i) allowed)
      (allowed_within m (with (without (without s y) w) v) (with (without (with (without s y) x) w) v) (λ u p i. grind arith) d))
    where
      back : (u : ℕ) → with (without s y) y u ≡ true → s u ≡ true
      back u i = ⊎_elim (λ k. subst (λ z. s z ≡ true) (sym k) held) (λ k. grind arith) (cases_eq u y)

-- a set without an index and with an index are told apart
kept_index : (act : Set) (p i : ℕ) → without act p i ≡ true → (act i ≡ true) × (i ≡ p → ⊥)
kept_index act p i h = (grind arith, λ e. grind arith)

-- one exchange done: the other pairs are open at the new set
one_done : (n : ℕ) (f : Set → Bool) (a : ℕ → ℕ) (y x : ℕ → ℕ) (m : ℕ) (key place : ℕ → ℕ) (s act : Set) → Matroid n f →
    Open n f a y x m key place s act → (p : ℕ) → p < m → act p ≡ true →
    ((j : ℕ) → j < m → act j ≡ true → ((key j < key p) ⊎ ((key j ≡ key p) × (place j < place p))) → ⊥) →
    Open n f a y x m key place (with (without s (y p)) (x p)) (without act p)
one_done n f a y x m key place s act r o p h e low =
    record {
      allowed = o.single p h e;
      full = λ i q d. refused_within r (with (without s (y p)) (x i)) (with (with (without s (y p)) (x p)) (x i)) (λ v l k. grind arith) (none i q d);
      single = λ i q d. still_allowed n f r s (y p) (x p) held.1 new.1 o.allowed (o.single p h e) (y i) (x i) (none i q d) (o.single i q (kept_index act p i d).0);
      equal = λ i q d. o.equal i q (kept_index act p i d).0;
      falling = λ i j q l d c k g.
          o.falling i j q l (kept_index act p i d).0 (kept_index act p j c).0 k
          (was_allowed n f r s (y p) (x p) held.1 new.1 o.allowed (o.single p h e) (y i) (x j) (none j l c) g);
    }
  where
    new : (x p < n) × (s (x p) ≡ false)
    new = refused_is_new n f s (x p) r o.allowed (o.full p h e)

    held : (y p < n) × (s (y p) ≡ true)
    held = makes_way_is_held n f s (y p) (x p) r (o.full p h e) (o.single p h e)

    none : (j : ℕ) → j < m → without act p j ≡ true → f (with (without s (y p)) (x j)) ≡ false
    none j q d =
        ⊎_elim
        (λ g. absurd (low j q (kept_index act p j d).0 (o.falling p j h q e (kept_index act p j d).0 (λ k. (kept_index act p j d).1 (sym k)) g)))
        (λ g. g)
        (cases_Bool (f (with (without s (y p)) (x j))))

-- the exchanges are the one at p and the others after it
swapped_apart : (y x : ℕ → ℕ) (m : ℕ) (s act : Set) (p : ℕ) → p < m → act p ≡ true → s (x p) ≡ false →
    ((i : ℕ) → i < m → act i ≡ true → s (y i) ≡ true) → (v : ℕ) →
    swapped (with (without s (y p)) (x p)) y x (without act p) m v ≡ swapped s y x act m v
swapped_apart y x m s act p h e fresh held v =
    let c : hit y act m v ≡ (eqb v (y p) || hit y (without act p) m v) = hit_apart y act m v p h e in
    let d : hit x act m v ≡ (eqb v (x p) || hit x (without act p) m v) = hit_apart x act m v p h e in
    joined (s v) (eqb v (y p)) (eqb v (x p)) (hit y act m v) (hit x act m v) (hit y (without act p) m v) (hit x (without act p) m v) c d
    (λ k. stays (hit_at y (without act p) m v k))
    (λ k. apart k)
  where
    apart : eqb v (x p) ≡ true → s v ≡ false
    apart k = let q : v ≡ x p = grind arith in subst (λ u. s u ≡ false) (sym q) fresh

    stays : ((i : ℕ) × (i < m) × (without act p i ≡ true) × (v ≡ y i)) → s v ≡ true
    stays i = subst (λ u. s u ≡ true) (sym i.3) (held i.0 i.1 (kept_index act p i.0 i.2).0)

    joined : (b vy vx hy hx gy gx : Bool) → hy ≡ (vy || gy) → hx ≡ (vx || gx) → (gy ≡ true → b ≡ true) → (vx ≡ true → b ≡ false) →
        ((((b && not vy) || vx) && not gy) || gx) ≡ ((b && not hy) || hx)
    joined b vy vx hy hx gy gx c d k l = grind arith

-- all open exchanges can be done
pub all_done : (n : ℕ) (f : Set → Bool) (a : ℕ → ℕ) (y x : ℕ → ℕ) (m : ℕ) (key place : ℕ → ℕ) → Matroid n f → (k : ℕ) (s act : Set) →
    size m act < k → Open n f a y x m key place s act → Like n f a s (swapped s y x act m)
all_done n f a y x m key place r zero s act b o = absurd (omega arith)
all_done n f a y x m key place r (suc k) s act b o =
    ⊎_elim
    (λ i. let p = lowest m act key place i.0 i.1 i.2 in
    step p.0 p.1 p.2 p.3 (λ t act2 l q. all_done n f a y x m key place r k t act2 l q))
    (λ none. let e : (v : ℕ) → v < n → swapped s y x act m v ≡ s v =
    λ v q. let c = hit_nothing y act m v none in let d = hit_nothing x act m v none in grind arith in (
      allowed_same r (swapped s y x act m) s e ∙ o.allowed,
      size_same n (swapped s y x act m) s e,
      weight_same n a a (swapped s y x act m) s (λ v q. refl) e,
    ))
    (look_up m act)
  where
    step : (p : ℕ) → p < m → act p ≡ true →
        ((j : ℕ) → j < m → act j ≡ true → ((key j < key p) ⊎ ((key j ≡ key p) × (place j < place p))) → ⊥) →
        ((t act2 : Set) → size m act2 < k → Open n f a y x m key place t act2 → Like n f a t (swapped t y x act2 m)) →
        Like n f a s (swapped s y x act m)
    step p h e low rest =
        let t = with (without s (y p)) (x p) in
        let new = refused_is_new n f s (x p) r o.allowed (o.full p h e) in
        let held = makes_way_is_held n f s (y p) (x p) r (o.full p h e) (o.single p h e) in
        let less : suc (size m (without act p)) ≡ size m act = size_without m act p h e in
        let like = rest t (without act p) (omega arith) (one_done n f a y x m key place s act r o p h e low) in
        let same : (v : ℕ) → v < n → swapped t y x (without act p) m v ≡ swapped s y x act m v =
        λ v q. swapped_apart y x m s act p h e new.1 (λ i l d. (makes_way_is_held n f s (y i) (x i) r (o.full i l d) (o.single i l d)).1) v in
        let even : a (x p) ≡ a (y p) = o.equal p h e in
        let weighs : weight n a t + a (y p) ≡ weight n a s + a (x p) =
        weight_exchange n a s (y p) (x p) held.0 new.0 held.1 new.1 in (
          sym (allowed_same r (swapped t y x (without act p) m) (swapped s y x act m) same) ∙ like.0,
          sym (size_same n (swapped t y x (without act p) m) (swapped s y x act m) same) ∙ (like.1 ∙ size_exchange n s (y p) (x p) held.0 new.0 held.1 new.1),
          sym (weight_same n a a (swapped t y x (without act p) m) (swapped s y x act m) (λ v q. refl) same) ∙ (like.2 ∙ omega arith),
        )
