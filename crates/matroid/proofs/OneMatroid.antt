-- One matroid: filling up, exchanging one element, sets that are best by exchanges.
use Rattle.std.proofs.Common.{◌≡◌, ℕ, zero, suc, ◌+◌, ◌-◌, ◌<◌, ◌≤◌, Bool, true, false, ◌&&◌, ◌||◌, ltb, sym, ◌∙◌, subst, ⊎_elim, arith}
use Rattle.std.proofs.lemmas.Bool.{cases_Bool, cases_lt, cases_eq, both_ways}
use Rattle.sets.specs.Matroid.{Set, size, weight, without, with, Within, Matroid}
use Rattle.sets.proofs.FiniteSets.{size_within, size_without, size_with, size_exchange, larger_has_more, part_as_large}
use Rattle.sets.proofs.Weights.{above, layer_cake, weight_exchange}
use Rattle.sets.proofs.MatroidLaws.{allowed_within, augment}
use Rattle.matroid.specs.Optimal.{Best, HeaviestByOne}
use Rattle.matroid.specs.Exchanges.{Extension, Exchange, AsGoodAsBest, BestOfOneMore, Carry}

-- a set filled up from another, one element at a time
filled : (n : ℕ) (f : Set → Bool) (t : Set) → Matroid n f → f t ≡ true → (k : ℕ) (s : Set) → f s ≡ true → size n s + k ≡ size n t →
    (r : Set) × (f r ≡ true) × Within n s r × Within n r (λ v. s v || t v) × (size n r ≡ size n t)
filled n f t m e zero s d h = (s, d, (λ v p i. i), (λ v p i. grind arith), omega arith)
filled n f t m e (suc k) s d h =
    let a = augment m s t d e (omega arith) in
    let g : size n (with s a.0) ≡ suc (size n s) = size_with n s a.0 a.1 a.3 in
    let r = filled n f t m e k (with s a.0) a.4 (omega arith) in (
      r.0,
      r.1,
      (λ v p i. r.2 v p (grind arith)),
      (λ v p i. from_union s t a.0 a.2 v (r.3 v p i)),
      r.4,
    )
  where
    from_union : (s t : Set) (x : ℕ) → t x ≡ true → (v : ℕ) → (with s x v || t v) ≡ true → (s v || t v) ≡ true
    from_union s t x e v h = ⊎_elim (λ k. let i : t v ≡ true = subst (λ w. t w ≡ true) (sym k) e in grind arith) (λ k. grind arith) (cases_eq v x)

-- an allowed set can be filled up from another that is no smaller
pub extension : Extension
extension n f s t m d e h = filled n f t m e (size n t - size n s) s d (omega arith)

-- the same where the element does not count: any element outside the part may go
exchange_beyond : (n : ℕ) (f : Set → Bool) (s part : Set) (x : ℕ) → Matroid n f → f s ≡ true → size n part < size n s → n ≤ x →
    (y : ℕ) × (y < n) × (s y ≡ true) × (part y ≡ false) × (f (with (without s y) x) ≡ true)
exchange_beyond n f s part x m e k b =
    let y = larger_has_more n part s k in
    (y.0, y.1, y.2, y.3, allowed_within m (with (without s y.0) x) s (λ v p i. grind arith) e)

-- a set of the size of s between the part with x and s with x leaves one element of s out, and is what the exchange makes
exchange_from : (n : ℕ) (f : Set → Bool) (s part r : Set) (x : ℕ) → Matroid n f → x < n → s x ≡ false → f r ≡ true →
    Within n (with part x) r → Within n r (λ v. with part x v || s v) → Within n part s → size n r ≡ size n s →
    (y : ℕ) × (y < n) × (s y ≡ true) × (part y ≡ false) × (f (with (without s y) x) ≡ true)
exchange_from n f s part r x m p d e lower upper h same =
    let rx : r x ≡ true = lower x p (grind arith) in
    let less : suc (size n (without r x)) ≡ size n r = size_without n r x p rx in
    let y = larger_has_more n (without r x) s (omega arith) in
    found y.0 y.1 y.2 y.3
  where
    found : (y : ℕ) → y < n → s y ≡ true → without r x y ≡ false →
        (v : ℕ) × (v < n) × (s v ≡ true) × (part v ≡ false) × (f (with (without s v) x) ≡ true)
    found y q i k =
        let apart : y ≡ x → ⊥ = λ j. both_ways (s x) d (subst (λ v. s v ≡ true) j i) in
        let out : r y ≡ false = grind arith in
        let low : with part x y ≡ true → r y ≡ true = lower y q in
        let kept : Within n r (with (without s y) x) =
        λ v o l. lies s part r x y v out (upper v o l) (h v o) l (λ j. subst (λ w. r w ≡ true) j l) in
        let sized : size n (with (without s y) x) ≡ size n s = size_exchange n s y x q p i d in
        let whole : Within n (with (without s y) x) r = part_as_large n r (with (without s y) x) kept (omega arith) in
        (y, q, i, grind arith, allowed_within m (with (without s y) x) r whole e)
      where
        lies : (s part r : Set) (x y v : ℕ) → r y ≡ false → (with part x v || s v) ≡ true → (part v ≡ true → s v ≡ true) → r v ≡ true →
            (v ≡ y → r y ≡ true) → with (without s y) x v ≡ true
        lies s part r x y v o u b l j = grind arith

-- an element that can be added to a smaller part of a set can come for an element outside that part
pub exchange : Exchange
exchange n f s part x m e h k d i =
    ⊎_elim
    (λ p. let fresh : part x ≡ true → s x ≡ true = h x p in
    let one : size n (with part x) ≡ suc (size n part) = size_with n part x p (grind arith) in
    let r = extension n f (with part x) s m i e (omega arith) in
    exchange_from n f s part r.0 x m p d r.1 r.2 r.3 h r.4)
    (λ p. exchange_beyond n f s part x m e k p)
    (cases_lt x n)

-- a best set has no fewer elements above c than another allowed set has, unless all of its own are above c
pub above_no_fewer : (n : ℕ) (f : Set → Bool) (a : ℕ → ℕ) (s t : Set) → Matroid n f → f s ≡ true → f t ≡ true → Best n f a s → (c : ℕ) →
    size n (above a c s) < size n s → size n (above a c t) ≤ size n (above a c s)
above_no_fewer n f a s t m e d best c h = ⊎_elim (λ p. absurd (never p)) (λ p. p) (cases_lt (size n (above a c s)) (size n (above a c t)))
  where
    never : size n (above a c s) < size n (above a c t) → ⊥
    never p =
        let x =
        augment
        m
        (above a c s)
        (above a c t)
        (allowed_within m (above a c s) s (λ v q i. grind arith) e)
        (allowed_within m (above a c t) t (λ v q i. grind arith) d)
        p in
        let fresh : s x.0 ≡ false = new (s x.0) (t x.0) (ltb c (a x.0)) x.2 x.3 in
        let y = exchange n f s (above a c s) x.0 m e (λ v q i. grind arith) h fresh x.4 in
        let k : a x.0 ≤ a y.0 = best y.0 x.0 y.1 x.1 y.2 fresh y.4 in
        lower (a x.0) (a y.0) (t x.0) (s y.0) x.2 y.2 y.3 k
      where
        new : (sx tx b : Bool) → (tx && b) ≡ true → (sx && b) ≡ false → sx ≡ false
        new sx tx b i j = grind arith

        lower : (ax ay : ℕ) (tx sy : Bool) → (tx && ltb c ax) ≡ true → sy ≡ true → (sy && ltb c ay) ≡ false → ax ≤ ay → ⊥
        lower ax ay tx sy i j l k = grind arith

-- best by exchanges is heaviest of its size
pub heaviest_by_one : HeaviestByOne
heaviest_by_one n f a s t m e d h best = layer_cake n a s t (λ c. ⊎_elim (above_no_fewer n f a s t m e d best c) (all c) (cases_lt (size n (above a c s)) (size n s)))
  where
    all : (c : ℕ) → size n s ≤ size n (above a c s) → size n (above a c t) ≤ size n (above a c s)
    all c k = let i : size n (above a c t) ≤ size n t = size_within n (above a c t) t (λ v q j. grind arith) in omega arith

-- a set that weighs as much as a best one of its size is a best one
pub as_good_as_best : AsGoodAsBest
as_good_as_best n f a s t m e d h k best y x p q i j l =
    let heavy : weight n a (with (without t y) x) ≤ weight n a s =
    heaviest_by_one n f a s (with (without t y) x) m e l (size_exchange n t y x p q i j ∙ h) best in
    let sum : weight n a (with (without t y) x) + a y ≡ weight n a t + a x = weight_exchange n a t y x p q i j in
    omega arith

-- a best set with a heaviest of the elements that can be added is a best one
pub best_of_one_more : BestOfOneMore
best_of_one_more n f a s z m best most y x p q i j l =
    ⊎_elim
    (λ k. best y x p q k (grind arith) (allowed_within m (with (without s y) x) (with (without (with s z) y) x) (λ v o u. grind arith) l))
    (λ k. let same : y ≡ z = grind arith in
    let top : a x ≤ a z = most x q (grind arith) (allowed_within m (with s x) (with (without (with s z) y) x) (λ v o u. stays s x y z v k u) l) in
    grind arith)
    (cases_Bool (s y))
  where
    stays : (s : Set) (x y z v : ℕ) → s y ≡ false → with s x v ≡ true → with (without (with s z) y) x v ≡ true
    stays s x y z v k u = ⊎_elim (λ e. let c : s v ≡ false = subst (λ w. s w ≡ false) (sym e) k in grind arith) (λ e. grind arith) (cases_eq v y)

-- what an allowed set refuses is an element below n that it does not have
pub refused_is_new : (n : ℕ) (f : Set → Bool) (s : Set) (x : ℕ) → Matroid n f → f s ≡ true → f (with s x) ≡ false → (x < n) × (s x ≡ false)
refused_is_new n f s x m e d = (⊎_elim (λ p. p) (λ p. absurd (never (λ v q i. grind arith))) (cases_lt x n), ⊎_elim here (λ p. p) (cases_Bool (s x)))
  where
    never : Within n (with s x) s → ⊥
    never h = both_ways (f (with s x)) d (allowed_within m (with s x) s h e)

    here : s x ≡ true → s x ≡ false
    here p = absurd (never (λ v q i. ⊎_elim (λ k. subst (λ w. s w ≡ true) (sym k) p) (λ k. grind arith) (cases_eq v x)))

-- what makes way for a refused element is an element below n that the set has
pub makes_way_is_held : (n : ℕ) (f : Set → Bool) (s : Set) (y x : ℕ) → Matroid n f → f (with s x) ≡ false → f (with (without s y) x) ≡ true →
    (y < n) × (s y ≡ true)
makes_way_is_held n f s y x m d e = (⊎_elim (λ p. p) (λ p. absurd (never (λ v q i. grind arith))) (cases_lt y n), ⊎_elim (λ p. p) here (cases_Bool (s y)))
  where
    never : Within n (with s x) (with (without s y) x) → ⊥
    never h = both_ways (f (with s x)) d (allowed_within m (with s x) (with (without s y) x) h e)

    here : s y ≡ false → s y ≡ true
    here p = absurd (never (λ v q i. ⊎_elim (λ k. let c : s v ≡ false = subst (λ w. s w ≡ false) (sym k) p in grind arith) (λ k. grind arith) (cases_eq v y)))

-- an exchange that frees the way for x leaves the way for z free
pub carry : Carry
carry n f s x y z m e d i k =
    ⊎_elim counts (λ p. allowed_within m (with (with (without s y) x) z) (with (without s y) x) (λ v q j. grind arith) k) (cases_lt z n)
  where
    held : (y < n) × (s y ≡ true)
    held = makes_way_is_held n f s y x m d k

    new : (x < n) × (s x ≡ false)
    new = refused_is_new n f s x m (allowed_within m s (with s z) (λ v q j. grind arith) i) d

    other : (v : ℕ) → with s z v ≡ true → with (without s y) x v ≡ false → f (with (with (without s y) x) v) ≡ true → (v ≡ z → ⊥) → ⊥
    other v j l o u =
        both_ways
        (f (with s x))
        d
        (allowed_within m (with s x) (with (with (without s y) x) v) (λ w q r. let same : v ≡ y = grind arith in grind arith) o)

    counts : z < n → f (with (with (without s y) x) z) ≡ true
    counts p =
        let a : size n (with s z) ≡ suc (size n s) = size_with n s z p e in
        let b : size n (with (without s y) x) ≡ size n s = size_exchange n s y x held.0 new.0 held.1 new.1 in
        let v = augment m (with (without s y) x) (with s z) k i (omega arith) in
        ⊎_elim
        (λ j. subst (λ w. f (with (with (without s y) x) w) ≡ true) j v.4)
        (λ j. absurd (other v.0 v.2 v.3 v.4 j))
        (cases_eq v.0 z)
