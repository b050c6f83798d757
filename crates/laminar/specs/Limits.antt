-- Rules of limits: groups of offers, any two of them apart or one inside the other, and how many of each group a set may have.
use Rattle.std.specs.Prelude.{◌≡◌, ℕ, zero, suc, ◌+◌, ◌*◌, ◌<◌, ◌≤◌, Bool, true, false, ◌&&◌, ◌||◌, ◌⊎◌, List, length, ◌==◌, nat_le, nat_lt}
use Rattle.sets.specs.Matroid.{Set, size, both, Within, Matroid}
use Rattle.sets.specs.Bits.{row, word_row, marked, row_bytes, le2}

-- a group in the file: two bytes for its limit, then a row of bits
abbrev pub group_bytes : ℕ → ℕ
group_bytes n = 2 + row_bytes n

-- where group g begins, with the groups from byte `at` on
abbrev pub group_at : ℕ → ℕ → ℕ → ℕ
group_at n at g = at + g * group_bytes n

-- how many offers of group g a set may have
abbrev pub limit : List ℕ → ℕ → ℕ → ℕ → ℕ
limit file n at g = le2 file (group_at n at g)

-- the offers of group g
abbrev pub in_group : List ℕ → ℕ → ℕ → ℕ → Set
in_group file n at g i = row file (group_at n at g + 2) i

-- the set has no more of any group than the group's limit
abbrev pub Allowed : List ℕ → ℕ → ℕ → ℕ → Set → Type 0
Allowed file n groups at s = (g : ℕ) → g < groups → size n (both (in_group file n at g) s) ≤ limit file n at g

-- the set stays within the limits of the first m groups
abbrev pub fits : ℕ → (ℕ → Set) → (ℕ → ℕ) → ℕ → Set → Bool
fits n group most zero s = true
fits n group most (suc m) s = nat_le (size n (both (group m) s)) (most m) && fits n group most m s

-- Allowed as a test
abbrev pub allows : List ℕ → ℕ → ℕ → ℕ → Set → Bool
allows file n groups at s = fits n (in_group file n at) (limit file n at) groups s

-- two groups of offers below n share none, or one lies in the other
abbrev pub Nested : ℕ → Set → Set → Type 0
Nested n a b = ((x : ℕ) → x < n → a x ≡ true → b x ≡ false) ⊎ (Within n a b ⊎ Within n b a)

-- a well-formed rule: all its bytes are there, its counts are in range, no bit stands behind the last offer, and any two
-- groups are apart or nested
pub record Well (file : List ℕ) (n groups at : ℕ) : Type 0 where
  pub whole : group_at n at groups ≤ length file
  pub few : groups ≤ 64
  pub low : (g : ℕ) → g < groups → limit file n at g ≤ 600
  pub clean : (g i : ℕ) → g < groups → n ≤ i → i < 8 * row_bytes n → in_group file n at g i ≡ false
  pub nested : (g h : ℕ) → g < groups → h < groups → Nested n (in_group file n at g) (in_group file n at h)

-- the set has as many of a group as its limit lets it
abbrev pub full : List ℕ → ℕ → ℕ → Set → ℕ → Bool
full file n at s g = size n (both (in_group file n at g) s) == limit file n at g

-- how many words are kept for n offers: the full groups as two words of bits, then for each offer its groups as two words of bits
abbrev pub kept_length : ℕ → ℕ
kept_length n = 2 + 2 * n

-- the word at which the kept groups of offer i begin
abbrev pub kept_at : ℕ → ℕ
kept_at i = 2 + 2 * i

-- what is kept is right for the set s, and s is allowed
pub record Ready (file : List ℕ) (n groups at : ℕ) (s : Set) (state : List ℕ) : Type 0 where
  pub long : kept_length n ≤ length state
  pub allowed : allows file n groups at s ≡ true
  pub fulls : (g : ℕ) → g < 64 → marked state g ≡ (nat_lt g groups && full file n at s g)
  pub masks : (i g : ℕ) → i < n → g < 64 → word_row state (kept_at i) g ≡ (nat_lt g groups && in_group file n at g i)

-- group g is noted with those of its offers that are below m, and nothing else is changed of what is kept
pub record Marked (file : List ℕ) (n at g m : ℕ) (old new : List ℕ) : Type 0 where
  pub fulls : (h : ℕ) → h < 64 → marked new h ≡ marked old h
  pub masks : (i h : ℕ) → i < n → h < 64 →
      word_row new (kept_at i) h ≡ (word_row old (kept_at i) h || (h == g && nat_lt i m && in_group file n at g i))

-- the natural reading and the test say the same
abbrev pub ReadingAgrees : Type 0
ReadingAgrees =
    (file : List ℕ) (n groups at : ℕ) (s : Set) →
    (Allowed file n groups at s → allows file n groups at s ≡ true) ×
    (allows file n groups at s ≡ true → Allowed file n groups at s)

-- a well-formed rule of limits is a matroid
abbrev pub LimitsMatroid : Type 0
LimitsMatroid = (file : List ℕ) (n groups at : ℕ) → Well file n groups at → Matroid n (allows file n groups at)
