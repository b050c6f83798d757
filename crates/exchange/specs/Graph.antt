-- The exchange graph of a round, its tables in lent words, and labels on a graph. Assumes nothing: these are definitions.
-- s is the set at hand, w the weights, a the potentials, f and g the tests of the first and the second matroid.
use Rattle.std.specs.Prelude.{◌≡◌, ℕ, ◌+◌, ◌-◌, ◌*◌, ◌<◌, ◌≤◌, Bool, true, false, not, ◌&&◌, ◌||◌, List, slice_index}
use Rattle.sets.specs.Bits.{marked, word_row, row_words}
use Rattle.sets.specs.Matroid.{pick, Set, without, with}
use Rattle.exchange.specs.Round.{top, no_worse}

-- an arc from v to u: out of the set by the first test (u in the place of v), into it by the second (v in the place of u)
unfoldable pub arc : (Set → Bool) → (Set → Bool) → Set → ℕ → ℕ → Bool
arc f g s v u = pick (s v) (not (s u) && f (with (without s v) u)) (s u && g (with (without s u) v))

-- x is outside and the test allows it too: a source by the first test, a sink by the second
unfoldable pub addable : (Set → Bool) → Set → ℕ → Bool
addable f s x = not (s x) && f (with s x)

-- what an arc costs: what the path then loses more
unfoldable pub cost : Set → (ℕ → ℕ) → (ℕ → ℕ) → ℕ → ℕ → ℕ
cost s w a v u = pick (s v) (a v - a u) ((w u + a v) - (w v + a u))

-- the number at a place of lent memory
abbrev pub at : List ℕ → ℕ → ℕ
at xs i = slice_index xs i

-- the table of arcs: a row of bits for each element, with a bit for each head of an arc from there
unfoldable pub table : ℕ → List ℕ → ℕ → ℕ → Bool
table n arcs v u = word_row arcs (row_words n * v) u

-- what the three tables of a round hold
pub record Tables (n : ℕ) (f g : Set → Bool) (s : Set) (arcs sources sinks : List ℕ) : Type 0 where
  pub each_arc : (v u : ℕ) → v < n → u < n → table n arcs v u ≡ arc f g s v u
  pub each_source : (x : ℕ) → x < n → marked sources x ≡ addable f s x
  pub each_sink : (x : ℕ) → x < n → marked sinks x ≡ addable g s x

-- no arc has a negative cost, and all numbers are small
pub record Priced (n : ℕ) (to : ℕ → ℕ → Bool) (s : Set) (w a : ℕ → ℕ) : Type 0 where
  pub outward : (v u : ℕ) → v < n → u < n → s v ≡ true → to v u ≡ true → a u ≤ a v
  pub inward : (v u : ℕ) → v < n → u < n → s v ≡ false → to v u ≡ true → w v + a u ≤ w u + a v
  pub light : (x : ℕ) → x < n → w x ≤ top
  pub low : (x : ℕ) → x < n → a x ≤ 601 * top

-- labels of a graph, least by cost and then by steps: no arc betters one, and each comes from a source or along an arc
pub record Cheapest (n : ℕ) (to : ℕ → ℕ → Bool) (c : ℕ → ℕ → ℕ) (source reached : Set) (d k back : ℕ → ℕ) : Type 0 where
  pub start : (x : ℕ) → x < n → source x ≡ true → (reached x ≡ true) × (d x ≡ 0) × (k x ≡ 1)
  pub step : (v u : ℕ) → v < n → u < n → reached v ≡ true → to v u ≡ true →
      (reached u ≡ true) × (no_worse (d u) (k u) (d v + c v u) (k v + 1) ≡ true)
  pub along : (v : ℕ) → v < n → reached v ≡ true → 1 < k v →
      (back v < n) × (reached (back v) ≡ true) × (to (back v) v ≡ true) × (d v ≡ d (back v) + c (back v) v) × (k v ≡ k (back v) + 1)
  pub begun : (v : ℕ) → v < n → reached v ≡ true → k v ≤ 1 → (source v ≡ true) × (d v ≡ 0)

-- a new label is taken at u: there is none yet, or it is better
abbrev pub takes : Set → (ℕ → ℕ) → (ℕ → ℕ) → ℕ → ℕ → ℕ → Bool
takes reached d k u e l = not (reached u) || not (no_worse (d u) (k u) e l)

-- the label of u is bettered by an arc from m, where u is not settled
abbrev pub bettered : (ℕ → ℕ → Bool) → (ℕ → ℕ → ℕ) → Set → Set → (ℕ → ℕ) → (ℕ → ℕ) → ℕ → ℕ → Bool
bettered to c settled reached d k m u = to m u && not (settled u) && takes reached d k u (d m + c m u) (k m + 1)

-- the label of u after a change at the elements of a set: they then have the cost e and the steps l by way of m
pub record Changed (e : ℕ → ℕ) (l m : ℕ) (which reached after : Set) (d k back d' k' back' : ℕ → ℕ) (u : ℕ) : Type 0 where
  pub marks : after u ≡ (reached u || which u)
  pub costs : d' u ≡ pick (which u) (e u) (d u)
  pub steps : k' u ≡ pick (which u) l (k u)
  pub backs : back' u ≡ pick (which u) m (back u)

-- one of the elements below n of a set, of least cost, and of these of fewest steps
abbrev pub Least : ℕ → Set → (ℕ → ℕ) → (ℕ → ℕ) → ℕ → Type 0
Least n among d k m =
    (m < n) × (among m ≡ true) × ((v : ℕ) → v < n → among v ≡ true → no_worse (d m) (k m) (d v) (k v) ≡ true)

-- labels are small: what a path has cost is at most its steps times the largest weight
abbrev pub SmallLabels : ℕ → (ℕ → ℕ) → (ℕ → ℕ) → Set → (ℕ → ℕ) → (ℕ → ℕ) → ℕ → Type 0
SmallLabels n w a reached d k m =
    (v : ℕ) → v < n → reached v ≡ true → (d v + a v ≤ w v + k v * top) × (k v ≤ m + 1)

-- the elements from which a sink can be reached: the least set that has the sinks and, with the head of an arc, its tail
pub record Reaching (n : ℕ) (to : ℕ → ℕ → Bool) (sink u : Set) : Type 0 where
  pub sinks : (x : ℕ) → x < n → sink x ≡ true → u x ≡ true
  pub backwards : (v x : ℕ) → v < n → x < n → to v x ≡ true → u x ≡ true → u v ≡ true
  pub least : (t : Set) → ((x : ℕ) → x < n → sink x ≡ true → t x ≡ true) →
      ((v x : ℕ) → v < n → x < n → to v x ≡ true → t x ≡ true → t v ≡ true) → (x : ℕ) → x < n → u x ≡ true → t x ≡ true
