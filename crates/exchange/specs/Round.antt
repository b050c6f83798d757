-- The state of a round, its labels, the end of its path and the path by predecessors. Assumes nothing: these are definitions.
-- s is the set at hand, w the weights, f and g the tests of the first and the second matroid.
use Rattle.std.specs.Prelude.{◌≡◌, ℕ, zero, suc, ◌+◌, ◌-◌, ◌<◌, ◌≤◌, Bool, true, false, not, ◌&&◌, ◌||◌, ◌==◌, nat_lt}
use Rattle.sets.specs.Matroid.{pick, Set, without, with}

-- the largest weight
abbrev pub top : ℕ
top = 1000000

-- potentials a and the loss so far; the second part of a weight is w x - a x, and what the second matroid
-- could still take weighs by it no more than the last gain, top - loss
pub record State (n : ℕ) (f g : Set → Bool) (w a : ℕ → ℕ) (loss : ℕ) (s : Set) : Type 0 where
  pub first : f s ≡ true
  pub second : g s ≡ true
  pub first_best : (y x : ℕ) → y < n → x < n → s y ≡ true → s x ≡ false → f (with (without s y) x) ≡ true → a x ≤ a y
  pub second_best : (y x : ℕ) → y < n → x < n → s y ≡ true → s x ≡ false → g (with (without s y) x) ≡ true → w x + a y ≤ w y + a x
  pub sources : (x : ℕ) → x < n → s x ≡ false → f (with s x) ≡ true → a x ≡ 0
  pub sinks : (x : ℕ) → x < n → s x ≡ false → g (with s x) ≡ true → w x + loss ≤ top + a x
  pub small : (x : ℕ) → x < n → a x ≤ loss

-- by cost, and then by steps: (d, k) is no worse than (e, l)
abbrev pub no_worse : ℕ → ℕ → ℕ → ℕ → Bool
no_worse d k e l = nat_lt d e || (d == e && not (nat_lt l k))

-- complete labels: cost d, steps k and predecessor of each reached element
pub record Labels (n : ℕ) (f g : Set → Bool) (w a : ℕ → ℕ) (s reached : Set) (d k back : ℕ → ℕ) : Type 0 where
  pub start : (x : ℕ) → x < n → s x ≡ false → f (with s x) ≡ true → (reached x ≡ true) × (d x ≡ 0) × (k x ≡ 1)
  pub out : (x y : ℕ) → x < n → y < n → s x ≡ false → s y ≡ true → reached x ≡ true → g (with (without s y) x) ≡ true →
      (reached y ≡ true) × (no_worse (d y + (w x + a y)) (k y) (d x + (w y + a x)) (k x + 1) ≡ true)
  pub into : (y x : ℕ) → y < n → x < n → s y ≡ true → s x ≡ false → reached y ≡ true → f (with (without s y) x) ≡ true →
      (reached x ≡ true) × (no_worse (d x + a x) (k x) (d y + a y) (k y + 1) ≡ true)
  pub from_second : (y : ℕ) → y < n → s y ≡ true → reached y ≡ true →
      (back y < n) × (s (back y) ≡ false) × (reached (back y) ≡ true) × (g (with (without s y) (back y)) ≡ true) ×
      (d y + (w (back y) + a y) ≡ d (back y) + (w y + a (back y))) × (k y ≡ k (back y) + 1)
  pub from_first : (x : ℕ) → x < n → s x ≡ false → reached x ≡ true → 1 < k x →
      (back x < n) × (s (back x) ≡ true) × (reached (back x) ≡ true) × (f (with (without s (back x)) x) ≡ true) ×
      (d x + a x ≡ d (back x) + a (back x)) × (k x ≡ k (back x) + 1)
  pub from_start : (x : ℕ) → x < n → s x ≡ false → reached x ≡ true → k x ≤ 1 → (f (with s x) ≡ true) × (d x ≡ 0)

-- the loss of the path that ends in x
abbrev pub lost : (ℕ → ℕ) → (ℕ → ℕ) → (ℕ → ℕ) → ℕ → ℕ
lost w a d x = d x + a x + (top - w x)

-- the end that is chosen: a reached sink of least loss, and of these of fewest steps
pub record End (n : ℕ) (g : Set → Bool) (w a : ℕ → ℕ) (s reached : Set) (d k : ℕ → ℕ) (t : ℕ) : Type 0 where
  pub below : t < n
  pub fresh : s t ≡ false
  pub found : reached t ≡ true
  pub fits : g (with s t) ≡ true
  pub least : (x : ℕ) → x < n → s x ≡ false → reached x ≡ true → g (with s x) ≡ true →
      no_worse (lost w a d t) (k t) (lost w a d x) (k x) ≡ true

-- j steps back from t along the predecessors
abbrev pub behind : (ℕ → ℕ) → ℕ → ℕ → ℕ
behind back t zero = t
behind back t (suc j) = back (behind back t j)

-- a set with one element changed, and with the last j elements of the path to t changed
abbrev pub flipped : Set → ℕ → Set
flipped s v x = pick (x == v) (not (s x)) (s x)

abbrev pub toggled : Set → (ℕ → ℕ) → ℕ → ℕ → Set
toggled s back t zero = s
toggled s back t (suc j) = flipped (toggled s back t j) (behind back t j)

-- a set closed backwards from the sinks, with no source in it
pub record Closed (n : ℕ) (f g : Set → Bool) (s u : Set) : Type 0 where
  pub sinks : (x : ℕ) → x < n → s x ≡ false → g (with s x) ≡ true → u x ≡ true
  pub by_first : (y x : ℕ) → y < n → x < n → s y ≡ true → s x ≡ false → u x ≡ true → f (with (without s y) x) ≡ true → u y ≡ true
  pub by_second : (y x : ℕ) → y < n → x < n → s y ≡ true → s x ≡ false → u y ≡ true → g (with (without s y) x) ≡ true → u x ≡ true
  pub no_source : (x : ℕ) → x < n → s x ≡ false → f (with s x) ≡ true → u x ≡ false
