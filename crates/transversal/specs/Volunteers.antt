-- Rules of volunteers: each offer of an allowed set has a volunteer of its own who can look after it.
use Rattle.std.specs.Prelude.{◌≡◌, ℕ, zero, suc, ◌+◌, ◌*◌, ◌<◌, ◌≤◌, Bool, true, false, not, ◌&&◌, ◌||◌, List, length}
use Rattle.sets.specs.Matroid.{pick, Set, with, without, none, Matroid}
use Rattle.sets.specs.Bits.{row, word_row, row_bytes, row_words}

-- volunteer v can look after offer x; the volunteers' rows of bits stand in the file from byte `at` on
abbrev pub can_tend : List ℕ → ℕ → ℕ → ℕ → ℕ → Bool
can_tend file n at v x = row file (at + v * row_bytes n) x

-- f says who looks after each offer of a set: a volunteer who is there and can, another one for another offer
pub record Tends (can : ℕ → ℕ → Bool) (n volunteers : ℕ) (s : Set) (f : ℕ → ℕ) : Type 0 where
  pub there : (x : ℕ) → x < n → s x ≡ true → f x < volunteers
  pub able : (x : ℕ) → x < n → s x ≡ true → can (f x) x ≡ true
  pub apart : (x y : ℕ) → x < n → y < n → s x ≡ true → s y ≡ true → f x ≡ f y → x ≡ y

-- each offer of the set has a volunteer of its own who can look after it
abbrev pub Allowed : List ℕ → ℕ → ℕ → ℕ → Set → Type 0
Allowed file n volunteers at s = (f : ℕ → ℕ) × Tends (can_tend file n at) n volunteers s f

-- some number below m passes the test
abbrev pub some : ℕ → Set → Bool
some zero p = false
some (suc m) p = p m || some m p

-- from offer m - 1 down, each offer of the set tries every volunteer who can look after it and is not used yet
unfoldable pub placed : (ℕ → ℕ → Bool) → ℕ → ℕ → Set → Set → Bool
placed can volunteers zero used s = true
placed can volunteers (suc m) used s =
    pick (s m)
    (some volunteers (λ v. (can v m && not (used v)) && placed can volunteers m (with used v) s))
    (placed can volunteers m used s)

-- the same as a test: no volunteer is used at first
unfoldable pub allows : List ℕ → ℕ → ℕ → ℕ → Set → Bool
allows file n volunteers at s = placed (can_tend file n at) volunteers n none s

-- a well-formed rule: few enough volunteers, all their rows are there, and no bit stands behind the last offer
pub record Well (file : List ℕ) (n volunteers at : ℕ) : Type 0 where
  pub few : volunteers ≤ 600
  pub whole : at + volunteers * row_bytes n ≤ length file
  pub clean : (v i : ℕ) → v < volunteers → n ≤ i → i < 8 * row_bytes n → can_tend file n at v i ≡ false

-- bit x of row k, where each row takes `width` words
abbrev pub in_row : List ℕ → ℕ → ℕ → ℕ → Bool
in_row rows width k x = word_row rows (k * width) x

-- how many words are kept for n offers: a row for each offer, row n for no offer, and the volunteers' rows behind them
abbrev pub kept_length : ℕ → ℕ
kept_length n = (n + 601) * row_words n

-- what is kept is right for the set s, and s is allowed: row n has the offers that can be added,
-- and it and row y together have those that can come for y
pub record Ready (file : List ℕ) (n volunteers at : ℕ) (s : Set) (state : List ℕ) : Type 0 where
  pub long : kept_length n ≤ length state
  pub allowed : allows file n volunteers at s ≡ true
  pub adds : (x : ℕ) → x < n → s x ≡ false → in_row state (row_words n) n x ≡ allows file n volunteers at (with s x)
  pub exchanges : (x y : ℕ) → x < n → y < n → s x ≡ false → s y ≡ true →
      (in_row state (row_words n) n x || in_row state (row_words n) y x) ≡ allows file n volunteers at (with (without s y) x)

-- the natural reading and the test say the same
abbrev pub ReadingAgrees : Type 0
ReadingAgrees =
    (file : List ℕ) (n volunteers at : ℕ) (s : Set) →
    (Allowed file n volunteers at s → allows file n volunteers at s ≡ true) ×
    (allows file n volunteers at s ≡ true → Allowed file n volunteers at s)

-- a well-formed rule of volunteers is a matroid
abbrev pub VolunteersMatroid : Type 0
VolunteersMatroid = (file : List ℕ) (n volunteers at : ℕ) → Well file n volunteers at → Matroid n (allows file n volunteers at)
