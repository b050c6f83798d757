-- What makes a choice a largest or a heaviest one, for any two matroids. Assumes nothing: definitions, and statements
-- whose proofs are owed by the functions that name them.
use Rattle.std.specs.Prelude.{◌≡◌, ℕ, ◌+◌, ◌<◌, ◌≤◌, Bool, true, false, ℤ, pos, ◌+ℤ◌, ◌≤ℤ◌}
use Rattle.sets.specs.Matroid.{Set, size, weight, both, outside, without, with, Matroid}

-- a dual set u: no further element of u can be added by the first test to what was chosen of u,
-- and none outside of u by the second to what was chosen outside of u
pub record Dual (n : ℕ) (f g : Set → Bool) (s u : Set) : Type 0 where
  pub first : f s ≡ true
  pub second : g s ≡ true
  pub full_in : (x : ℕ) → x < n → u x ≡ true → s x ≡ false → f (with (both s u) x) ≡ false
  pub full_out : (x : ℕ) → x < n → u x ≡ false → s x ≡ false → g (with (outside s u) x) ≡ false

-- a set with a dual set is a largest one that both allow
abbrev pub Largest : Type 0
Largest =
    (n : ℕ) (f g : Set → Bool) (s u t : Set) → Matroid n f → Matroid n g → Dual n f g s u →
    f t ≡ true → g t ≡ true → size n t ≤ size n s

-- no element that can take another's place is heavier than it
abbrev pub Best : (n : ℕ) → (Set → Bool) → (ℕ → ℕ) → Set → Type 0
Best n f a s = (y x : ℕ) → y < n → x < n → s y ≡ true → s x ≡ false → f (with (without s y) x) ≡ true → a x ≤ a y

-- the weights are split in two parts over one common lift, and the set is best by either part
pub record Split (n : ℕ) (f g : Set → Bool) (w a b : ℕ → ℕ) (s : Set) : Type 0 where
  pub first : f s ≡ true
  pub second : g s ≡ true
  pub lift : ℕ
  pub parts : (x : ℕ) → x < n → a x + b x ≡ w x + lift
  pub best_first : Best n f a s
  pub best_second : Best n g b s

-- a set with a weight splitting is a heaviest one of its size
abbrev pub Heaviest : Type 0
Heaviest =
    (n : ℕ) (f g : Set → Bool) (w a b : ℕ → ℕ) (s t : Set) → Matroid n f → Matroid n g → Split n f g w a b s →
    f t ≡ true → g t ≡ true → size n t ≡ size n s → weight n w t ≤ weight n w s

-- one matroid: best by exchanges is heaviest of its size
abbrev pub HeaviestByOne : Type 0
HeaviestByOne =
    (n : ℕ) (f : Set → Bool) (a : ℕ → ℕ) (s t : Set) → Matroid n f → f s ≡ true → f t ≡ true →
    size n t ≡ size n s → Best n f a s → weight n a t ≤ weight n a s

-- numbers of either sign that add up to the weights: what could be added has by neither number more than a chosen one,
-- and what could come if a chosen one goes has no more than that one
pub record SignedSplit (n : ℕ) (f g : Set → Bool) (w : ℕ → ℕ) (p q : ℕ → ℤ) (s : Set) : Type 0 where
  pub first : f s ≡ true
  pub second : g s ≡ true
  pub parts : (x : ℕ) → x < n → p x +ℤ q x ≡ pos (w x)
  pub add_first : (y x : ℕ) → y < n → x < n → s y ≡ true → s x ≡ false → f (with s x) ≡ true → p x ≤ℤ p y
  pub exchange_first : (y x : ℕ) → y < n → x < n → s y ≡ true → s x ≡ false → f (with (without s y) x) ≡ true → p x ≤ℤ p y
  pub add_second : (y x : ℕ) → y < n → x < n → s y ≡ true → s x ≡ false → g (with s x) ≡ true → q x ≤ℤ q y
  pub exchange_second : (y x : ℕ) → y < n → x < n → s y ≡ true → s x ≡ false → g (with (without s y) x) ≡ true → q x ≤ℤ q y

-- a set with such numbers is a heaviest one of its size
abbrev pub HeaviestSigned : Type 0
HeaviestSigned =
    (n : ℕ) (f g : Set → Bool) (w : ℕ → ℕ) (p q : ℕ → ℤ) (s t : Set) → Matroid n f → Matroid n g →
    SignedSplit n f g w p q s → f t ≡ true → g t ≡ true → size n t ≡ size n s → weight n w t ≤ weight n w s

-- no element that can take another's place has a greater number
abbrev pub SignedBest : (n : ℕ) → (Set → Bool) → (ℕ → ℤ) → Set → Type 0
SignedBest n f p s = (y x : ℕ) → y < n → x < n → s y ≡ true → s x ≡ false → f (with (without s y) x) ≡ true → p x ≤ℤ p y

-- what can be added can also come for any chosen one, so the numbers need to be compared over exchanges only
abbrev pub ExchangesSuffice : Type 0
ExchangesSuffice =
    (n : ℕ) (f g : Set → Bool) (w : ℕ → ℕ) (p q : ℕ → ℤ) (s : Set) → Matroid n f → Matroid n g → f s ≡ true → g s ≡ true →
    ((x : ℕ) → x < n → p x +ℤ q x ≡ pos (w x)) → SignedBest n f p s → SignedBest n g q s → SignedSplit n f g w p q s
