-- Exchanges in one matroid: one element for another, and many at once. Assumes nothing: definitions, and statements
-- whose proofs are owed by the functions that name them. s is an allowed set, f the matroid's test.
use Rattle.std.specs.Prelude.{◌≡◌, ℕ, zero, suc, ◌+◌, ◌<◌, ◌≤◌, Bool, true, false, not, ◌&&◌, ◌||◌, ◌⊎◌, ◌==◌, ◌≢◌}
use Rattle.sets.specs.Matroid.{Set, size, weight, without, with, Within, Matroid}
use Rattle.matroid.specs.Optimal.{Best}

-- an allowed set can be filled up from another that is no smaller, to the size of that one
abbrev pub Extension : Type 0
Extension =
    (n : ℕ) (f : Set → Bool) (s t : Set) → Matroid n f → f s ≡ true → f t ≡ true → size n s ≤ size n t →
    (r : Set) × (f r ≡ true) × Within n s r × Within n r (λ v. s v || t v) × (size n r ≡ size n t)

-- an element that can be added to a smaller part of a set can come for an element outside that part
abbrev pub Exchange : Type 0
Exchange =
    (n : ℕ) (f : Set → Bool) (s part : Set) (x : ℕ) → Matroid n f → f s ≡ true → Within n part s →
    size n part < size n s → s x ≡ false → f (with part x) ≡ true →
    (y : ℕ) × (y < n) × (s y ≡ true) × (part y ≡ false) × (f (with (without s y) x) ≡ true)

-- a set of the same size that weighs as much as a best one is a best one too
abbrev pub AsGoodAsBest : Type 0
AsGoodAsBest =
    (n : ℕ) (f : Set → Bool) (a : ℕ → ℕ) (s t : Set) → Matroid n f → f s ≡ true → f t ≡ true →
    size n t ≡ size n s → weight n a t ≡ weight n a s → Best n f a s → Best n f a t

-- a best set with a heaviest of the elements that can be added is a best one
abbrev pub BestOfOneMore : Type 0
BestOfOneMore =
    (n : ℕ) (f : Set → Bool) (a : ℕ → ℕ) (s : Set) (z : ℕ) → Matroid n f → Best n f a s →
    ((x : ℕ) → x < n → s x ≡ false → f (with s x) ≡ true → a x ≤ a z) → Best n f a (with s z)

-- an exchange that frees the way for x leaves the way for z free
abbrev pub Carry : Type 0
Carry =
    (n : ℕ) (f : Set → Bool) (s : Set) (x y z : ℕ) → Matroid n f → s z ≡ false → f (with s x) ≡ false →
    f (with s z) ≡ true → f (with (without s y) x) ≡ true → f (with (with (without s y) x) z) ≡ true

-- the first m of a row of elements, as a set
abbrev pub among : (ℕ → ℕ) → ℕ → Set
among y zero v = false
among y (suc m) v = v == y m || among y m v

-- a set without the first m of the elements y and with the first m of the elements x
abbrev pub exchanged : Set → (ℕ → ℕ) → (ℕ → ℕ) → ℕ → Set
exchanged s y x m v = (s v && not (among y m v)) || among x m v

-- m pairs, each of which can be exchanged, with no x that could just be added
pub record Pairs (n : ℕ) (f : Set → Bool) (s : Set) (y x : ℕ → ℕ) (m : ℕ) : Type 0 where
  pub allowed : f s ≡ true
  pub full : (i : ℕ) → i < m → f (with s (x i)) ≡ false
  pub single : (i : ℕ) → i < m → f (with (without s (y i)) (x i)) ≡ true

-- an exchange of y i for another pair's x j goes down: by the first key, or by the second where the first keys are equal
abbrev pub Falling : (Set → Bool) → Set → (ℕ → ℕ) → (ℕ → ℕ) → ℕ → (ℕ → ℕ) → (ℕ → ℕ) → Type 0
Falling f s y x m key place =
    (i j : ℕ) → i < m → j < m → i ≢ j → f (with (without s (y i)) (x j)) ≡ true →
    (key j < key i) ⊎ ((key j ≡ key i) × (place j < place i))

-- all pairs can be exchanged at once, where no exchange of an earlier y for a later x is allowed
abbrev pub ManyExchanges : Type 0
ManyExchanges =
    (n : ℕ) (f : Set → Bool) (s : Set) (y x : ℕ → ℕ) (m : ℕ) → Matroid n f → Pairs n f s y x m →
    ((i j : ℕ) → i < j → j < m → f (with (without s (y i)) (x j)) ≡ false) →
    (f (exchanged s y x m) ≡ true) × (size n (exchanged s y x m) ≡ size n s)

-- the same, after an element z is added
abbrev pub ManyExchangesAndOne : Type 0
ManyExchangesAndOne =
    (n : ℕ) (f : Set → Bool) (s : Set) (z : ℕ) (y x : ℕ → ℕ) (m : ℕ) → Matroid n f → Pairs n f s y x m →
    z < n → s z ≡ false → f (with s z) ≡ true →
    ((i j : ℕ) → i < j → j < m → f (with (without s (y i)) (x j)) ≡ false) →
    (f (exchanged (with s z) y x m) ≡ true) × (size n (exchanged (with s z) y x m) ≡ suc (size n s))

-- all pairs can be exchanged at once, where their exchanges fall by keys
abbrev pub ManyExchangesByKeys : Type 0
ManyExchangesByKeys =
    (n : ℕ) (f : Set → Bool) (s : Set) (y x : ℕ → ℕ) (m : ℕ) (key place : ℕ → ℕ) → Matroid n f →
    Pairs n f s y x m → Falling f s y x m key place →
    (f (exchanged s y x m) ≡ true) × (size n (exchanged s y x m) ≡ size n s)

-- the same, after an element z is added
abbrev pub ManyExchangesByKeysAndOne : Type 0
ManyExchangesByKeysAndOne =
    (n : ℕ) (f : Set → Bool) (s : Set) (z : ℕ) (y x : ℕ → ℕ) (m : ℕ) (key place : ℕ → ℕ) → Matroid n f →
    Pairs n f s y x m → z < n → s z ≡ false → f (with s z) ≡ true → Falling f s y x m key place →
    (f (exchanged (with s z) y x m) ≡ true) × (size n (exchanged (with s z) y x m) ≡ suc (size n s))

-- pairs of equal potentials along a path. Where an exchange of y i for another x j keeps the potential, j has a lower place
pub record Tight (n : ℕ) (f : Set → Bool) (a : ℕ → ℕ) (s : Set) (y x : ℕ → ℕ) (m : ℕ) (place : ℕ → ℕ) : Type 0 where
  pub pairs : Pairs n f s y x m
  pub best : Best n f a s
  pub equal : (i : ℕ) → i < m → a (x i) ≡ a (y i)
  pub ties : (i j : ℕ) → i < m → j < m → i ≢ j → a (x j) ≡ a (y i) →
      f (with (without s (y i)) (x j)) ≡ true → place j < place i

-- what many exchanges make of a best set: an allowed one of a size and a weight, that is best again
pub record Made (n : ℕ) (f : Set → Bool) (a : ℕ → ℕ) (s : Set) (count total : ℕ) : Type 0 where
  pub allowed : f s ≡ true
  pub sized : size n s ≡ count
  pub weighs : weight n a s ≡ total
  pub best : Best n f a s

-- tight pairs can be exchanged all at once, and the set stays a best one
abbrev pub TightExchanges : Type 0
TightExchanges =
    (n : ℕ) (f : Set → Bool) (a : ℕ → ℕ) (s : Set) (y x : ℕ → ℕ) (m : ℕ) (place : ℕ → ℕ) → Matroid n f →
    Tight n f a s y x m place → Made n f a (exchanged s y x m) (size n s) (weight n a s)

-- the same, after one of the heaviest elements that can be added is added
abbrev pub TightExchangesAndOne : Type 0
TightExchangesAndOne =
    (n : ℕ) (f : Set → Bool) (a : ℕ → ℕ) (s : Set) (z : ℕ) (y x : ℕ → ℕ) (m : ℕ) (place : ℕ → ℕ) → Matroid n f →
    Tight n f a s y x m place → z < n → s z ≡ false → f (with s z) ≡ true →
    ((v : ℕ) → v < n → s v ≡ false → f (with s v) ≡ true → a v ≤ a z) →
    Made n f a (exchanged (with s z) y x m) (suc (size n s)) (weight n a s + a z)
