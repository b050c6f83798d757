-- Links between towns: each offer is a link, and a set is allowed if there is no ring in it.
use Rattle.std.specs.Prelude.{◌≡◌, ℕ, zero, suc, ◌+◌, ◌*◌, ◌<◌, ◌≤◌, Bool, true, cond, ◌&&◌, ◌||◌, ◌⊎◌, List, length, Ok, Err, Result, ◌==◌, ◌≢◌, nat_le, nat_lt, slice_index}
use Rattle.sets.specs.declared.refusal.Refusal.{Refusal}
use Rattle.sets.specs.declared.refusal.Refusal.TheVariants.{Length, Range, Town}
use Rattle.sets.specs.declared.refusal.Source.TheVariants.{Offers}
use Rattle.sets.specs.Bits.{le2, row_words, word_row, xor}
use Rattle.sets.specs.Closure.{free}
use Rattle.sets.specs.Matroid.{Set, Matroid}
use Rattle.sets.specs.Refusals.{First}

-- the first town of link i, a number of two bytes
abbrev pub from_town : List ℕ → ℕ → ℕ → ℕ
from_town file at i = le2 file (at + 4 * i)

-- the second town of link i, in the two bytes after that
abbrev pub to_town : List ℕ → ℕ → ℕ → ℕ
to_town file at i = le2 file (at + 4 * i + 2)

-- link x joins the towns u and v, either way round
abbrev pub Joins : (from to : ℕ → ℕ) → ℕ → ℕ → ℕ → Type 0
Joins from to x u v = ((from x ≡ u) × (to x ≡ v)) ⊎ ((to x ≡ u) × (from x ≡ v))

-- a ring in a set: a closed chain of one or more links of the set, all of them different
pub record Ring (from to : ℕ → ℕ) (n : ℕ) (s : Set) : Type 0 where
  pub size : ℕ
  pub link : ℕ → ℕ
  pub town : ℕ → ℕ
  pub some : 0 < size
  pub real : (i : ℕ) → i < size → link i < n
  pub inside : (i : ℕ) → i < size → s (link i) ≡ true
  pub joins : (i : ℕ) → i < size → Joins from to (link i) (town i) (town (suc i))
  pub different : (i j : ℕ) → i < j → j < size → link i ≢ link j
  pub closed : town size ≡ town 0

-- a set of links is allowed if there is no ring in it
abbrev pub Allowed : List ℕ → ℕ → ℕ → ℕ → Set → Type 0
Allowed file n towns at s = Ring (from_town file at) (to_town file at) n s → ⊥

-- the links below m of a set lead from the town u to the town v: without the last link, or by way of it
unfoldable pub joined : (from to : ℕ → ℕ) → ℕ → Set → ℕ → ℕ → Bool
joined from to zero s u v = u == v
joined from to (suc m) s u v =
    joined from to m s u v
    || (s m
    && ((joined from to m s u (from m) && joined from to m s (to m) v)
    || (joined from to m s u (to m) && joined from to m s (from m) v)))

-- the ends of a link are joined by a set of links
abbrev pub spanned : (from to : ℕ → ℕ) → ℕ → Set → Set
spanned from to n s x = joined from to n s (from x) (to x)

-- the test: no link of the set has its ends joined by others of the set
abbrev pub allows : List ℕ → ℕ → ℕ → ℕ → Set → Bool
allows file n towns at s = free n (spanned (from_town file at) (to_town file at) n) s

-- a rule of links as it should stand in a file: few enough towns, every link there, and each of its towns one of them
pub record Well (file : List ℕ) (n towns at : ℕ) : Type 0 where
  pub few : towns ≤ 600
  pub present : at + 4 * n ≤ length file
  pub from_real : (i : ℕ) → i < n → from_town file at i < towns
  pub to_real : (i : ℕ) → i < n → to_town file at i < towns

-- the towns of links in order, `left` of them from the place `at` on: each is there, and below the number of towns
abbrev pub read_towns : List ℕ → ℕ → ℕ → ℕ → Result ℕ Refusal
read_towns file towns zero at = Ok towns
read_towns file towns (suc left) at =
    cond (nat_lt (length file) (at + 2)) (Err (Length Offers (length file)))
    (cond (nat_le towns (le2 file at)) (Err (Town at)) (read_towns file towns left (at + 2)))

-- a rule at the place p: the number of towns, then the two towns of each link
abbrev pub read : List ℕ → ℕ → ℕ → Result ℕ Refusal
read file n p =
    cond (nat_lt (length file) (p + 2)) (Err (Length Offers (length file)))
    (cond (nat_lt 600 (le2 file p)) (Err (Range Offers p)) (read_towns file (le2 file p) (2 * n) (p + 2)))

-- the place behind the rule
abbrev pub end : List ℕ → ℕ → ℕ → ℕ
end file n p = p + 2 + 4 * n

-- all that can be wrong with a rule at p: it ends early, it has too many towns, or the j-th town of its links does not exist
pub data Fault (file : List ℕ) (n p : ℕ) : Refusal → Type 0 where
  short : length file < end file n p → Fault file n p (Length Offers (length file))
  many : p + 2 ≤ length file → 600 < le2 file p → Fault file n p (Range Offers p)
  missing : (j : ℕ) → j < 2 * n → p + 2 + 2 * j + 2 ≤ length file → le2 file p ≤ le2 file (p + 2 + 2 * j) →
      Fault file n p (Town (p + 2 + 2 * j))

-- the kept state has a label for each of up to 600 towns, a row of bits to work with, and a row of links for each town
abbrev pub kept_length : ℕ → ℕ
kept_length n = 600 + row_words n * 601

-- the label of a town
abbrev pub label : List ℕ → ℕ → ℕ
label state town = slice_index state town

-- the links in the row of a town
abbrev pub in_row : List ℕ → ℕ → ℕ → Set
in_row state n town = word_row state (600 + row_words n * suc town)

-- the kept state is right for an allowed set: towns have one label exactly if they are joined,
-- and the rows of the two ends of a link of the set differ in that link only
pub record Ready (file : List ℕ) (n towns at : ℕ) (s : Set) (state : List ℕ) : Type 0 where
  pub fits : kept_length n ≤ length state
  pub allowed : allows file n towns at s ≡ true
  pub labels : (u v : ℕ) → u < towns → v < towns →
      (label state u == label state v) ≡ joined (from_town file at) (to_town file at) n s u v
  pub rows : (x z : ℕ) → x < n → z < n → s x ≡ true →
      xor (in_row state n (from_town file at x) z) (in_row state n (to_town file at x) z) ≡ (z == x)

-- an equivalence of towns
pub record Equivalence (same : ℕ → ℕ → Bool) : Type 0 where
  pub self : (u : ℕ) → same u u ≡ true
  pub back : (u v : ℕ) → same u v ≡ true → same v u ≡ true
  pub on : (u v w : ℕ) → same u v ≡ true → same v w ≡ true → same u w ≡ true

-- the two towns of each link of a set are the same
abbrev pub LinksSame : (from to : ℕ → ℕ) → ℕ → Set → (ℕ → ℕ → Bool) → Type 0
LinksSame from to n s same = (x : ℕ) → x < n → s x ≡ true → same (from x) (to x) ≡ true

-- to be joined by links of a set is the least equivalence in which the two towns of each link of the set are the same
abbrev pub JoinedLeast : Type 0
JoinedLeast =
    (from to : ℕ → ℕ) (n : ℕ) (s : Set) → Equivalence (joined from to n s) × LinksSame from to n s (joined from to n s)
    × ((same : ℕ → ℕ → Bool) → Equivalence same → LinksSame from to n s same →
    (u v : ℕ) → joined from to n s u v ≡ true → same u v ≡ true)

-- links are a matroid
abbrev pub LinksMatroid : Type 0
LinksMatroid = (file : List ℕ) (n towns at : ℕ) → Well file n towns at → Matroid n (allows file n towns at)

-- the test says that there is no ring
abbrev pub NoRing : Type 0
NoRing =
    (file : List ℕ) (n towns at : ℕ) (s : Set) →
    (Allowed file n towns at s → allows file n towns at s ≡ true) × (allows file n towns at s ≡ true → Allowed file n towns at s)

-- a rule is read exactly if it stands in the file as it should, and its number of towns is the one in front of its links
abbrev pub ReadsWell : Type 0
ReadsWell =
    (file : List ℕ) (n p towns : ℕ) →
    (read file n p ≡ Ok towns → (p + 2 ≤ length file) × (towns ≡ le2 file p) × Well file n towns (p + 2))
    × ((p + 2 ≤ length file) × (towns ≡ le2 file p) × Well file n towns (p + 2) → read file n p ≡ Ok towns)

-- a refusal is the first of all faults
abbrev pub RefusesFirst : Type 0
RefusesFirst = (file : List ℕ) (n p : ℕ) (e : Refusal) → read file n p ≡ Err e → First (Fault file n p) e
