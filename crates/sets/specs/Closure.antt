-- Closures on the elements below n, and the sets in which no element depends on the others.
use Rattle.std.specs.Prelude.{◌≡◌, ℕ, zero, suc, ◌<◌, Bool, true, false, not, ◌&&◌}
use Rattle.sets.specs.Matroid.{Set, with, without, Matroid}

-- cl s x says that x depends on s. What is in a set depends on it; what depends on elements that all depend on a set
-- depends on that set (so a larger set has a larger closure); and an element that y brings in brings y in
pub record Closure (n : ℕ) (cl : Set → Set) : Type 0 where
  pub extends : (s : Set) (x : ℕ) → x < n → s x ≡ true → cl s x ≡ true
  pub transitive : (s t : Set) → ((x : ℕ) → x < n → t x ≡ true → cl s x ≡ true) → (y : ℕ) → y < n → cl t y ≡ true → cl s y ≡ true
  pub exchange : (s : Set) (x y : ℕ) → x < n → y < n → cl s y ≡ false → cl (with s x) y ≡ true → cl (with s y) x ≡ true

-- no element below n of the set depends on the others
abbrev pub free : ℕ → (Set → Set) → Set → Bool
free zero cl s = true
free (suc m) cl s = not (s m && cl (without s m) m) && free m cl s

-- the closure theorem
abbrev pub ClosureMatroid : Type 0
ClosureMatroid = (n : ℕ) (cl : Set → Set) → Closure n cl → Matroid n (free n cl)
