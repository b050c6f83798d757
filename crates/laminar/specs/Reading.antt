-- How a rule of limits is read: the count of its groups at byte p, the groups behind it, and what is wrong with a rule.
use Rattle.std.specs.Prelude.{◌≡◌, ℕ, zero, suc, ◌+◌, ◌-◌, ◌*◌, ◌<◌, ◌≤◌, Bool, true, false, cond, ◌&&◌, ◌||◌, List, length, Ok, Err, Result, nat_le, nat_lt, slice_index}
use Rattle.sets.specs.declared.refusal.Refusal.{Refusal}
use Rattle.sets.specs.declared.refusal.Refusal.TheVariants.{Length, Range, Overlap}
use Rattle.sets.specs.declared.refusal.Source.TheVariants.{Offers}
use Rattle.sets.specs.Matroid.{Set, both, outside}
use Rattle.sets.specs.Refusals.{First}
use Rattle.sets.specs.Bits.{row_bytes}
use Rattle.laminar.specs.Limits.{group_bytes, group_at, limit, in_group, Well}

-- how many groups the byte at p says there are
abbrev pub count : List ℕ → ℕ → ℕ
count file p = slice_index file p

-- the place behind the rule, by what its header says
abbrev pub end : List ℕ → ℕ → ℕ → ℕ
end file n p = group_at n (p + 1) (count file p)

-- two groups share an offer, and each has one that the other lacks
abbrev pub Overlapping : ℕ → Set → Set → Type 0
Overlapping n a b =
    ((x : ℕ) × (x < n) × (a x ≡ true) × (b x ≡ true)) ×
    ((x : ℕ) × (x < n) × (a x ≡ true) × (b x ≡ false)) ×
    ((x : ℕ) × (x < n) × (a x ≡ false) × (b x ≡ true))

-- all that can be wrong with group g: its limit is too high, it overlaps an earlier group, a bit behind the last offer is set.
-- What is judged is wholly there
pub data GroupFault (file : List ℕ) (n at g : ℕ) : Refusal → Type 0 where
  high : group_at n at g + 2 ≤ length file → 600 < limit file n at g → GroupFault file n at g (Range Offers (group_at n at g))
  overlap : (h : ℕ) → h < g → group_at n at g + group_bytes n ≤ length file →
      Overlapping n (in_group file n at h) (in_group file n at g) → GroupFault file n at g (Overlap (group_at n at g))
  stray : (i : ℕ) → n ≤ i → i < 8 * row_bytes n → group_at n at g + group_bytes n ≤ length file →
      in_group file n at g i ≡ true → GroupFault file n at g (Range Offers (group_at n at g + 1 + row_bytes n))

-- all that can be wrong with the rule at p: the bytes end too early, there are too many groups, a group is in fault
pub data Fault (file : List ℕ) (n p : ℕ) : Refusal → Type 0 where
  cut : length file < end file n p → Fault file n p (Length Offers (length file))
  many : p < length file → 64 < count file p → Fault file n p (Range Offers p)
  group : (g : ℕ) (e : Refusal) → g < count file p → GroupFault file n (p + 1) g e → Fault file n p e

-- is an element below n in the set?
abbrev pub some : ℕ → Set → Bool
some zero s = false
some (suc n) s = s n || some n s

-- Overlapping as a test
abbrev pub overlaps : ℕ → Set → Set → Bool
overlaps n a b = some n (both a b) && (some n (outside a b) && some n (outside b a))

-- does group g overlap one of the first m groups?
abbrev pub overlaps_below : List ℕ → ℕ → ℕ → ℕ → ℕ → Bool
overlaps_below file n at g m = some m (λ h. overlaps n (in_group file n at h) (in_group file n at g))

-- is a bit behind the last offer set in group g?
abbrev pub has_stray : List ℕ → ℕ → ℕ → ℕ → Bool
has_stray file n at g = some (8 * row_bytes n - n) (λ k. in_group file n at g (n + k))

-- the first fault of group g, in the order of its bytes
abbrev pub read_group : List ℕ → ℕ → ℕ → ℕ → Result (Unit {0}) Refusal
read_group file n at g =
    cond (nat_lt (length file) (group_at n at g + 2)) (Err (Length Offers (length file)))
    (cond (nat_lt 600 (limit file n at g)) (Err (Range Offers (group_at n at g)))
    (cond (nat_lt (length file) (group_at n at g + group_bytes n)) (Err (Length Offers (length file)))
    (cond (overlaps_below file n at g g) (Err (Overlap (group_at n at g)))
    (cond (has_stray file n at g) (Err (Range Offers (group_at n at g + 1 + row_bytes n))) (Ok tt)))))

-- the first refusal of two, and else what the second gives
abbrev pub then : {A B : Type 0} → Result A Refusal → Result B Refusal → Result B Refusal
then (Ok _) r = r
then (Err e) r = Err e

-- the first fault of the first m groups
abbrev pub read_groups : List ℕ → ℕ → ℕ → ℕ → Result (Unit {0}) Refusal
read_groups file n at zero = Ok tt
read_groups file n at (suc m) = then (read_groups file n at m) (read_group file n at m)

-- what reading a rule at byte p answers: the number of its groups, or why it is refused
abbrev pub read : List ℕ → ℕ → ℕ → Result ℕ Refusal
read file n p =
    cond (nat_le (length file) p) (Err (Length Offers (length file)))
    (cond (nat_lt 64 (count file p)) (Err (Range Offers p)) (then (read_groups file n (p + 1) (count file p)) (Ok (count file p))))

-- a rule is read just where its header is there and it is well formed
abbrev pub ReadsWell : Type 0
ReadsWell =
    (file : List ℕ) (n p c : ℕ) →
    (read file n p ≡ Ok c → (p + 1 ≤ length file) × (c ≡ count file p) × Well file n c (p + 1)) ×
    (p + 1 ≤ length file → c ≡ count file p → Well file n c (p + 1) → read file n p ≡ Ok c)

-- what is refused is refused by the first of its faults
abbrev pub RefusesFirst : Type 0
RefusesFirst = (file : List ℕ) (n p : ℕ) (e : Refusal) → read file n p ≡ Err e → First (Fault file n p) e
