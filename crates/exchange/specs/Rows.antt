-- Elements of rows, in order.
use Rattle.std.specs.Prelude.{◌≡◌, ℕ, ◌<◌, ◌≤◌, true, false, MatchOption, Option}
use Rattle.sets.specs.Matroid.{Set}

-- the first element of s from `from` on and below n, if there is one
abbrev pub First : Set → ℕ → ℕ → Option ℕ → Type 0
First s from n r =
    MatchOption r ((i : ℕ) → from ≤ i → i < n → s i ≡ false)
    (λ x. (from ≤ x) × (x < n) × (s x ≡ true) × ((i : ℕ) → from ≤ i → i < x → s i ≡ false))
