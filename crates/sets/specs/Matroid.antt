-- Sets of elements below n, weights, and matroids over them. Assumes nothing: these are definitions.
use Rattle.std.specs.Prelude.{◌≡◌, ℕ, zero, suc, ◌+◌, ◌<◌, Bool, true, false, not, ◌&&◌, ◌||◌, ◌==◌}

abbrev pub pick : {A : Type 0} → Bool → A → A → A
pick true a b = a
pick false a b = b

-- a set of elements is a test on numbers
abbrev pub Set : Type 0
Set = ℕ → Bool

-- how many elements below n are in a set
abbrev pub size : ℕ → Set → ℕ
size zero s = 0
size (suc n) s = pick (s n) 1 0 + size n s

-- what the elements below n of a set weigh together
abbrev pub weight : ℕ → (ℕ → ℕ) → Set → ℕ
weight zero w s = 0
weight (suc n) w s = pick (s n) (w n) 0 + weight n w s

abbrev pub both : Set → Set → Set
both s t x = s x && t x

abbrev pub outside : Set → Set → Set
outside s t x = s x && not (t x)

abbrev pub without : Set → ℕ → Set
without s y x = s x && not (x == y)

abbrev pub with : Set → ℕ → Set
with s y x = s x || x == y

abbrev pub none : Set
none x = false

-- one set lies in another, below n
abbrev pub Within : ℕ → Set → Set → Type 0
Within n s t = (x : ℕ) → x < n → s x ≡ true → t x ≡ true

-- what lies in an allowed set is allowed
unfoldable pub Hereditary : ℕ → (Set → Bool) → Type 0
Hereditary n ok = (s t : Set) → Within n s t → ok t ≡ true → ok s ≡ true

-- a smaller allowed set can take an element from a larger one
unfoldable pub Augmentable : ℕ → (Set → Bool) → Type 0
Augmentable n ok =
    (s t : Set) → ok s ≡ true → ok t ≡ true → size n s < size n t →
    (x : ℕ) × (x < n) × (t x ≡ true) × (s x ≡ false) × (ok (with s x) ≡ true)

-- a test on sets that is a matroid over the elements below n
pub record Matroid (n : ℕ) (ok : Set → Bool) : Type 0 where
  pub empty : ok none ≡ true
  pub hereditary : Hereditary n ok
  pub augmentable : Augmentable n ok
