-- Augmenting paths and what they make of a set. Assumes nothing: definitions, and statements whose proofs are owed by the
-- functions that name them. A path is x 0, y 0, x 1, .., y (k - 1), x k: each x comes, each y goes.
use Rattle.std.specs.Prelude.{◌≡◌, ℕ, zero, suc, ◌+◌, ◌<◌, ◌≤◌, Bool, true, false, not, ◌&&◌, ◌||◌}
use Rattle.sets.specs.Matroid.{Set, size, weight, without, with, Matroid}
use Rattle.matroid.specs.Optimal.{Split, Dual}
use Rattle.matroid.specs.Exchanges.{among}
use Rattle.exchange.specs.Graph.{arc, addable, Reaching}
use Rattle.exchange.specs.Round.{Closed}

-- what the first k elements of a sequence weigh together
abbrev pub total : (ℕ → ℕ) → (ℕ → ℕ) → ℕ → ℕ
total w x zero = 0
total w x (suc k) = w (x k) + total w x k

-- a way from x 0 to a sink: by the second matroid x i can come where y i goes, by the first x (i + 1) can,
-- and the last x can be added by the second
pub record Route (n : ℕ) (f g : Set → Bool) (s : Set) (k : ℕ) (x y : ℕ → ℕ) : Type 0 where
  pub x_below : (i : ℕ) → i ≤ k → x i < n
  pub x_fresh : (i : ℕ) → i ≤ k → s (x i) ≡ false
  pub y_below : (i : ℕ) → i < k → y i < n
  pub y_held : (i : ℕ) → i < k → s (y i) ≡ true
  pub by_second : (i : ℕ) → i < k → g (with (without s (y i)) (x i)) ≡ true
  pub by_first : (i : ℕ) → i < k → f (with (without s (y i)) (x (suc i))) ≡ true
  pub sink : g (with s (x k)) ≡ true

-- an augmenting path is such a way from a source, which the first matroid can add; elements may repeat
pub record Augmenting (n : ℕ) (f g : Set → Bool) (s : Set) (k : ℕ) (x y : ℕ → ℕ) : Type 0 where
  pub source : f (with s (x 0)) ≡ true
  pub route : Route n f g s k x y

-- no element comes twice, and none goes twice
pub record Distinct (k : ℕ) (x y : ℕ → ℕ) : Type 0 where
  pub comes_once : (i j : ℕ) → i ≤ k → j ≤ k → x i ≡ x j → i ≡ j
  pub goes_once : (i j : ℕ) → i < k → j < k → y i ≡ y j → i ≡ j

-- the path (l, u, v) adds no more than the path (k, x, y), what comes less what goes
abbrev pub NoMore : (ℕ → ℕ) → ℕ → (ℕ → ℕ) → (ℕ → ℕ) → ℕ → (ℕ → ℕ) → (ℕ → ℕ) → Type 0
NoMore w l u v k x y = total w u (suc l) + total w y k ≤ total w x (suc k) + total w v l

-- both add the same
abbrev pub AsMuch : (ℕ → ℕ) → ℕ → (ℕ → ℕ) → (ℕ → ℕ) → ℕ → (ℕ → ℕ) → (ℕ → ℕ) → Type 0
AsMuch w l u v k x y = total w u (suc l) + total w y k ≡ total w x (suc k) + total w v l

-- a path of most weight, and of these of fewest steps, among the paths that repeat no element
pub record BestPath (n : ℕ) (f g : Set → Bool) (w : ℕ → ℕ) (s : Set) (k : ℕ) (x y : ℕ → ℕ) : Type 0 where
  pub path : Augmenting n f g s k x y
  pub most : (l : ℕ) (u v : ℕ → ℕ) → Augmenting n f g s l u v → Distinct l u v → NoMore w l u v k x y
  pub fewest : (l : ℕ) (u v : ℕ → ℕ) → Augmenting n f g s l u v → Distinct l u v → AsMuch w l u v k x y → k ≤ l

-- the set without all that goes and with all that comes
abbrev pub along : Set → (ℕ → ℕ) → (ℕ → ℕ) → ℕ → Set
along s x y k v = (s v && not (among y k v)) || among x (suc k) v

-- what a path should lead to: a set that both allow, of one element more, with the weight that the path says
pub record Augmented (n : ℕ) (f g : Set → Bool) (w : ℕ → ℕ) (s : Set) (k : ℕ) (x y : ℕ → ℕ) : Type 0 where
  pub distinct : Distinct k x y
  pub first : f (along s x y k) ≡ true
  pub second : g (along s x y k) ≡ true
  pub sized : size n (along s x y k) ≡ suc (size n s)
  pub gained : weight n w (along s x y k) + total w y k ≡ weight n w s + total w x (suc k)

-- where a set has a weight splitting, any best path leads to a set that both allow
abbrev pub BestAugments : Type 0
BestAugments =
    (n : ℕ) (f g : Set → Bool) (w a b : ℕ → ℕ) (s : Set) (k : ℕ) (x y : ℕ → ℕ) → Matroid n f → Matroid n g →
    Split n f g w a b s → BestPath n f g w s k x y → Augmented n f g w s k x y

-- .. and a path that is best among those that repeat no element is best among all
abbrev pub BestOfAll : Type 0
BestOfAll =
    (n : ℕ) (f g : Set → Bool) (w a b : ℕ → ℕ) (s : Set) (k : ℕ) (x y : ℕ → ℕ) → Split n f g w a b s →
    BestPath n f g w s k x y → (l : ℕ) (u v : ℕ → ℕ) → Augmenting n f g s l u v →
    NoMore w l u v k x y × (AsMuch w l u v k x y → k ≤ l)

-- a set that is closed backwards from the sinks and has no source in it is a dual set
abbrev pub DualByClosed : Type 0
DualByClosed =
    (n : ℕ) (f g : Set → Bool) (s u : Set) → Matroid n f → Matroid n g → f s ≡ true → g s ≡ true →
    Closed n f g s u → Dual n f g s u

-- an element outside of the set leads to a sink where a route starts from it,
-- one of the set where the first matroid lets the start of a route come in its place
abbrev pub LeadsOutside : ℕ → (Set → Bool) → (Set → Bool) → Set → ℕ → Type 0
LeadsOutside n f g s z = (k : ℕ) × (x : ℕ → ℕ) × (y : ℕ → ℕ) × Route n f g s k x y × (x 0 ≡ z)

abbrev pub LeadsInside : ℕ → (Set → Bool) → (Set → Bool) → Set → ℕ → Type 0
LeadsInside n f g s z =
    (k : ℕ) × (x : ℕ → ℕ) × (y : ℕ → ℕ) × Route n f g s k x y × (f (with (without s z) (x 0)) ≡ true)

-- u is the set of the elements that lead to a sink
pub record Leading (n : ℕ) (f g : Set → Bool) (s u : Set) : Type 0 where
  pub outside_leads : (z : ℕ) → z < n → s z ≡ false → u z ≡ true → LeadsOutside n f g s z
  pub inside_leads : (z : ℕ) → z < n → s z ≡ true → u z ≡ true → LeadsInside n f g s z
  pub all_outside : (z : ℕ) → z < n → s z ≡ false → LeadsOutside n f g s z → u z ≡ true
  pub all_inside : (z : ℕ) → z < n → s z ≡ true → LeadsInside n f g s z → u z ≡ true

-- the elements that lead to a sink can always be told
abbrev pub LeadingExists : Type 0
LeadingExists = (n : ℕ) (f g : Set → Bool) (s : Set) → (u : Set) × Leading n f g s u

-- where there is no augmenting path, the elements that lead to a sink form a dual set
abbrev pub DualByNoPath : Type 0
DualByNoPath =
    (n : ℕ) (f g : Set → Bool) (s u : Set) → Matroid n f → Matroid n g → f s ≡ true → g s ≡ true →
    ((k : ℕ) (x y : ℕ → ℕ) → Augmenting n f g s k x y → ⊥) → Leading n f g s u → Dual n f g s u

-- the least set that holds the sinks and, with the head of an arc, its tail is the set of the elements that lead to a sink
abbrev pub LeadingAgrees : Type 0
LeadingAgrees =
    (n : ℕ) (f g : Set → Bool) (s u : Set) → Reaching n (arc f g s) (addable g s) u → Leading n f g s u
