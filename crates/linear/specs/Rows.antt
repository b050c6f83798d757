-- Rows of numbers modulo a prime. A set is allowed if no row of it is a sum of multiples of its other rows.
use Rattle.std.specs.Prelude.{◌≡◌, ℕ, zero, suc, ◌+◌, ◌*◌, ◌%◌, ◌<◌, ◌≤◌, Bool, true, false, ◌&&◌, ◌||◌, ◌↔◌, List, length, ◌==◌, ◌≢◌, slice_index}
use Rattle.sets.specs.Matroid.{Set, pick, weight, without, Matroid}
use Rattle.sets.specs.Closure.{free}

-- number j of row i, where the rows begin at byte `at` and have `long` numbers each
abbrev pub number : List ℕ → ℕ → ℕ → ℕ → ℕ → ℕ
number file long at i j = slice_index file (at + i * long + j)

-- the natural reading: no row of the set is a sum of multiples of the set's other rows, modulo the prime
-- (a row of zeros is the sum of no rows)
abbrev pub Allowed : List ℕ → ℕ → ℕ → ℕ → ℕ → Set → Type 0
Allowed file n prime long at s =
    (x : ℕ) → x < n → s x ≡ true → (multiple : ℕ → ℕ) →
    ((j : ℕ) → j < long → weight n (λ i. multiple i * number file long at i j) (without s x) % prime ≡ number file long at x j % prime) → ⊥

-- all numbers of a row are zero modulo p
abbrev pub vanishes : ℕ → ℕ → (ℕ → ℕ) → Bool
vanishes p zero t = true
vanishes p (suc long) t = t long % p == 0 && vanishes p long t

-- some number below k passes a test
abbrev pub some : ℕ → (ℕ → Bool) → Bool
some zero test = false
some (suc k) test = test k || some k test

-- t becomes zero modulo p when multiples of the rows below m of the set s are added to it
abbrev pub spanned : ℕ → ℕ → (ℕ → ℕ → ℕ) → Set → ℕ → (ℕ → ℕ) → Bool
spanned p long rows s zero t = vanishes p long t
spanned p long rows s (suc m) t =
    pick (s m) (some p (λ c. spanned p long rows s m (λ j. t j + c * rows m j))) (spanned p long rows s m t)

-- the rows that a set spans
unfoldable pub span : List ℕ → ℕ → ℕ → ℕ → ℕ → Set → Set
span file n prime long at s x = spanned prime long (number file long at) s n (number file long at x)

-- the test on sets: no row of the set is in the span of the others
unfoldable pub allows : List ℕ → ℕ → ℕ → ℕ → ℕ → Set → Bool
allows file n prime long at s = free n (span file n prime long at) s

-- no number between 1 and p divides p
abbrev pub Prime : ℕ → Type 0
Prime p = (1 < p) × ((d : ℕ) → 1 < d → d < p → p % d ≢ 0)

-- a well-formed rule of n rows at `at`
pub record Well (file : List ℕ) (n prime long at : ℕ) : Type 0 where
  pub is_prime : Prime prime
  pub prime_small : prime ≤ 251
  pub some_numbers : 1 ≤ long
  pub few_numbers : long ≤ 64
  pub there : at + n * long ≤ length file
  pub below : (k : ℕ) → k < n * long → slice_index file (at + k) < prime

-- the rule is a matroid
abbrev pub RowsMatroid : Type 0
RowsMatroid = (file : List ℕ) (n prime long at : ℕ) → Well file n prime long at → Matroid n (allows file n prime long at)

-- the test says the same as the natural reading
abbrev pub RowsNatural : Type 0
RowsNatural =
    (file : List ℕ) (n prime long at : ℕ) → Well file n prime long at → (s : Set) →
    Allowed file n prime long at s ↔ (allows file n prime long at s ≡ true)
