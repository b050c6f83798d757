-- The set that a path leads to: as many exchanges at once, for either matroid, and what it weighs.
use Rattle.std.proofs.Common.{◌≡◌, ℕ, zero, suc, ◌+◌, ◌<◌, ◌≤◌, Bool, true, false, not, ◌&&◌, ◌||◌, eqb, sym, refl, ap, subst, ⊎_elim, arith}
use Rattle.std.proofs.lemmas.Bool.{cases_lt, cases_eq}
use Rattle.sets.specs.Matroid.{Set, weight, without, with}
use Rattle.sets.proofs.Weights.{weight_same, weight_with, weight_without}
use Rattle.matroid.specs.Exchanges.{among, exchanged}
use Rattle.exchange.specs.Paths.{total, Route, Distinct, along}

-- a value that none of the first m has is not among them
pub among_none : (z : ℕ → ℕ) (m v : ℕ) → ((i : ℕ) → i < m → z i ≡ v → ⊥) → among z m v ≡ false
among_none z zero v never = refl
among_none z (suc m) v never =
    let r : among z m v ≡ false = among_none z m v (λ i h. never i (omega arith)) in
    let here : z m ≡ v → ⊥ = never m (omega arith) in
    grind arith

-- each of the first m is among them
pub among_at : (z : ℕ → ℕ) (m i : ℕ) → i < m → among z m (z i) ≡ true
among_at z zero i h = absurd (omega arith)
among_at z (suc m) i h = ⊎_elim
    (λ (l : i < m). let r : among z m (z i) ≡ true = among_at z m i l in grind arith)
    (λ (l : m ≤ i). let e : z i ≡ z m = ap z (omega arith) in grind arith)
    (cases_lt i m)

-- what holds of each of the first m holds of whatever is among them
pub among_all : (z : ℕ → ℕ) (m v : ℕ) (s : Set) (b : Bool) → ((i : ℕ) → i < m → s (z i) ≡ b) → among z m v ≡ true → s v ≡ b
among_all z zero v s b all h = absurd (grind arith)
among_all z (suc m) v s b all h = ⊎_elim
    (λ (e : v ≡ z m). subst (λ u. s u ≡ b) (sym e) (all m (omega arith)))
    (λ (e : v ≡ z m → ⊥). let l : among z m v ≡ true = grind arith in among_all z m v s b (λ i p. all i (omega arith)) l)
    (cases_eq v (z m))

-- two sequences with the same elements
pub among_same : (z u : ℕ → ℕ) (m v : ℕ) → ((i : ℕ) → i < m → among u m (z i) ≡ true) → ((i : ℕ) → i < m → among z m (u i) ≡ true) →
    among z m v ≡ among u m v
among_same z u m v to from = equal (among z m v) (among u m v) (among_all z m v (among u m) true to) (among_all u m v (among z m) true from)
  where
    equal : (p q : Bool) → (p ≡ true → q ≡ true) → (q ≡ true → p ≡ true) → p ≡ q
    equal p q h l = grind arith

-- the first may be taken out in front
pub among_front : (z : ℕ → ℕ) (m v : ℕ) → among z (suc m) v ≡ (eqb v (z 0) || among (λ i. z (suc i)) m v)
among_front z zero v = refl
among_front z (suc m) v =
    let r : among z (suc m) v ≡ (eqb v (z 0) || among (λ i. z (suc i)) m v) = among_front z m v in
    swap (eqb v (z (suc m))) (among z (suc m) v) (eqb v (z 0)) (among (λ i. z (suc i)) m v) r
  where
    swap : (p q r t : Bool) → q ≡ (r || t) → (p || q) ≡ (r || (p || t))
    swap p q r t e = grind arith

-- a set with elements that come, all different and from outside
pub weight_coming : (n : ℕ) (w x : ℕ → ℕ) (t : Set) (m : ℕ) → ((i : ℕ) → i < m → x i < n) → ((i : ℕ) → i < m → t (x i) ≡ false) →
    ((i j : ℕ) → i < m → j < m → x i ≡ x j → i ≡ j) → weight n w (λ v. t v || among x m v) ≡ weight n w t + total w x m
weight_coming n w x t zero below fresh once =
    let same : weight n w (λ v. t v || false) ≡ weight n w t = weight_same n w w (λ v. t v || false) t (λ v h. refl) (λ v h. grind arith) in
    omega arith
weight_coming n w x t (suc m) below fresh once =
    let before : Set = λ v. t v || among x m v in
    let r : weight n w before ≡ weight n w t + total w x m =
    weight_coming n w x t m (λ i h. below i (omega arith)) (λ i h. fresh i (omega arith)) (λ i j h l. once i j (omega arith) (omega arith)) in
    let new : among x m (x m) ≡ false = among_none x m (x m) (λ i h e. omega (arith, once i m (omega arith) (omega arith) e)) in
    let out : t (x m) ≡ false = fresh m (omega arith) in
    let more : weight n w (with before (x m)) ≡ weight n w before + w (x m) = weight_with n w before (x m) (below m (omega arith)) (grind arith) in
    let same : weight n w (λ v. t v || among x (suc m) v) ≡ weight n w (with before (x m)) =
    weight_same n w w (λ v. t v || among x (suc m) v) (with before (x m)) (λ v h. refl) (λ v h. turn (t v) (among x m v) (eqb v (x m))) in
    omega arith
  where
    turn : (p q r : Bool) → (p || (r || q)) ≡ ((p || q) || r)
    turn p q r = grind arith

-- a set without elements that go, all different and from inside
pub weight_going : (n : ℕ) (w y : ℕ → ℕ) (s : Set) (m : ℕ) → ((i : ℕ) → i < m → y i < n) → ((i : ℕ) → i < m → s (y i) ≡ true) →
    ((i j : ℕ) → i < m → j < m → y i ≡ y j → i ≡ j) → weight n w (λ v. s v && not (among y m v)) + total w y m ≡ weight n w s
weight_going n w y s zero below held once =
    let same : weight n w (λ v. s v && not false) ≡ weight n w s = weight_same n w w (λ v. s v && not false) s (λ v h. refl) (λ v h. grind arith) in
    omega arith
weight_going n w y s (suc m) below held once =
    let before : Set = λ v. s v && not (among y m v) in
    let r : weight n w before + total w y m ≡ weight n w s =
    weight_going n w y s m (λ i h. below i (omega arith)) (λ i h. held i (omega arith)) (λ i j h l. once i j (omega arith) (omega arith)) in
    let new : among y m (y m) ≡ false = among_none y m (y m) (λ i h e. omega (arith, once i m (omega arith) (omega arith) e)) in
    let here : s (y m) ≡ true = held m (omega arith) in
    let less : weight n w (without before (y m)) + w (y m) ≡ weight n w before = weight_without n w before (y m) (below m (omega arith)) (grind arith) in
    let same : weight n w (λ v. s v && not (among y (suc m) v)) ≡ weight n w (without before (y m)) =
    weight_same n w w (λ v. s v && not (among y (suc m) v)) (without before (y m)) (λ v h. refl) (λ v h. turn (s v) (among y m v) (eqb v (y m))) in
    omega arith
  where
    turn : (p q r : Bool) → (p && not (r || q)) ≡ ((p && not q) && not r)
    turn p q r = grind arith

module _ (n : ℕ) (f g : Set → Bool) (s : Set) (k : ℕ) (x y : ℕ → ℕ) (route : Route n f g s k x y) where
  -- what goes was in the set
  goes_held : (v : ℕ) → among y k v ≡ true → s v ≡ true
  goes_held v h = among_all y k v s true route.y_held h

  -- what comes was not
  comes_fresh : (v : ℕ) → among x (suc k) v ≡ true → s v ≡ false
  comes_fresh v h = among_all x (suc k) v s false (λ i l. route.x_fresh i (omega arith)) h

  -- the first x is added, and the others come for the y before them
  pub along_first : (v : ℕ) → exchanged (with s (x 0)) y (λ i. x (suc i)) k v ≡ along s x y k v
  along_first v = turn (s v) (eqb v (x 0)) (among y k v) (among (λ i. x (suc i)) k v) (among x (suc k) v)
      (among_front x k v) (goes_held v) (comes_fresh v)
    where
      turn : (p q r t u : Bool) → u ≡ (q || t) → (r ≡ true → p ≡ true) → (u ≡ true → p ≡ false) → (((p || q) && not r) || t) ≡ ((p && not r) || u)
      turn p q r t u e h l = grind arith

  -- the last x is added, and the others come for the y behind them
  pub along_second : (v : ℕ) → exchanged (with s (x k)) y x k v ≡ along s x y k v
  along_second v = turn (s v) (eqb v (x k)) (among y k v) (among x k v) (goes_held v) (comes_fresh v)
    where
      turn : (p q r t : Bool) → (r ≡ true → p ≡ true) → ((q || t) ≡ true → p ≡ false) → (((p || q) && not r) || t) ≡ ((p && not r) || (q || t))
      turn p q r t h l = grind arith

  -- the set weighs what the path says
  pub along_weighs : (w : ℕ → ℕ) → Distinct k x y → weight n w (along s x y k) + total w y k ≡ weight n w s + total w x (suc k)
  along_weighs w once =
      let less : weight n w (λ v. s v && not (among y k v)) + total w y k ≡ weight n w s =
      weight_going n w y s k route.y_below route.y_held once.goes_once in
      let more : weight n w (along s x y k) ≡ weight n w (λ v. s v && not (among y k v)) + total w x (suc k) =
      weight_coming n w x (λ v. s v && not (among y k v)) (suc k) (λ i h. route.x_below i (omega arith))
      (λ i h. out (s (x i)) (among y k (x i)) (route.x_fresh i (omega arith)))
      (λ i j h l e. once.comes_once i j (omega arith) (omega arith) e) in
      omega arith
    where
      out : (p q : Bool) → p ≡ false → (p && not q) ≡ false
      out p q h = grind arith
