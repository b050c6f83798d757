-- What is kept for a set of rows: a dual basis, and which rows the set spans.
use Rattle.std.specs.Prelude.{◌≡◌, ℕ, zero, suc, ◌+◌, ◌-◌, ◌*◌, ◌%◌, ◌<◌, ◌≤◌, true, List, length, ◌==◌, ◌≢◌, slice_index}
use Rattle.sets.specs.Matroid.{Set, pick, weight}
use Rattle.linear.specs.Rows.{number, span, allows}

-- the value of a functional f at a row t: the sum of the products of their first `long` numbers
abbrev pub dot : ℕ → (ℕ → ℕ) → (ℕ → ℕ) → ℕ
dot zero f t = 0
dot (suc long) f t = f long * t long + dot long f t

-- each element y of the set, below m, has a functional that is 1 at row y and 0 at the set's other rows
pub record Dual (p long : ℕ) (rows functionals : ℕ → ℕ → ℕ) (m : ℕ) (s : Set) : Type 0 where
  pub own : (y : ℕ) → y < m → s y ≡ true → dot long (functionals y) (rows y) % p ≡ 1
  pub other : (y z : ℕ) → y < m → z < m → s y ≡ true → s z ≡ true → y ≢ z → dot long (functionals y) (rows z) % p ≡ 0

-- the rest of a row t: t less the value of each functional times its row, by adding what the value lacks to p
abbrev pub rest : ℕ → ℕ → (ℕ → ℕ → ℕ) → (ℕ → ℕ → ℕ) → ℕ → Set → (ℕ → ℕ) → ℕ → ℕ
rest p long rows functionals m s t j = t j + weight m (λ y. (p - dot long (functionals y) t % p) * rows y j) s

-- `scale` times number q of a row, made 0 at the rows of the set
abbrev pub fresh : ℕ → (ℕ → ℕ → ℕ) → (ℕ → ℕ → ℕ) → ℕ → Set → ℕ → ℕ → ℕ → ℕ
fresh p rows functionals m s q scale j = pick (j == q) scale 0 + weight m (λ z. (p - scale * rows z q % p) * functionals z j) s

-- the kept state has 65 numbers for each offer: its functional, and behind it 1 if the set spans its row, else 0
abbrev pub kept_length : ℕ → ℕ
kept_length n = 65 * n

-- number j of the functional of offer y
abbrev pub functional : List ℕ → ℕ → ℕ → ℕ
functional state y j = slice_index state (65 * y + j)

-- 1 where the set spans the row of offer x, else 0
abbrev pub flag : List ℕ → ℕ → ℕ
flag state x = slice_index state (65 * x + 64)

-- the state is right for the set s, and s is allowed
pub record Ready (file : List ℕ) (n prime long at : ℕ) (s : Set) (state : List ℕ) : Type 0 where
  pub fits : kept_length n ≤ length state
  pub dual : Dual prime long (number file long at) (functional state) n s
  pub spans : (x : ℕ) → x < n → flag state x ≡ pick (span file n prime long at s x) 1 0
  pub allowed : allows file n prime long at s ≡ true
