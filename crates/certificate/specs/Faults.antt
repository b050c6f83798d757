-- All that can be wrong with a certificate, and which fault is the first. Assumes nothing: these are definitions. n is the
-- number of offers, f and g are the tests of the two rules, w the weights.
use Rattle.std.specs.Prelude.{◌≡◌, ℕ, ◌+◌, ◌*◌, ◌/◌, ◌<◌, ◌≤◌, Bool, true, false, ◌⊎◌, List, length, ℤ, pos, ◌+ℤ◌, ◌<ℤ◌, ◌≢◌}
use Rattle.sets.specs.Bits.{row, row_bytes}
use Rattle.sets.specs.Matroid.{Set, size, both, outside, with, without}
use Rattle.sets.specs.declared.refusal.Refusal.{Refusal}
use Rattle.sets.specs.declared.refusal.Refusal.TheVariants.{Length, Range, Short, Refused, Dual, Split}
use Rattle.sets.specs.declared.refusal.Which.TheVariants.{First, Second}
use Rattle.sets.specs.declared.refusal.Source.TheVariants.{Certificate}
use Rattle.sets.specs.declared.refusal.Lent.TheVariants.{Work}
use Rattle.certificate.specs.Layout.{row_at, largest_set, dual_set, sized_set, count, needed, first_part, second_part}
use Rattle.certificate.specs.Validity.{work_length}

-- the row at a byte is not whole, or a bit from n on is set in it
pub data RowFault (n : ℕ) (sheet : List ℕ) (at : ℕ) : Refusal → Type 0 where
  missing : length sheet < at + row_bytes n → RowFault n sheet at (Length Certificate (length sheet))
  stray : (j : ℕ) → at + row_bytes n ≤ length sheet → n ≤ j → j < 8 * row_bytes n → row sheet at j ≡ true →
      RowFault n sheet at (Range Certificate (at + j / 8))

-- the bytes, with the byte in fault: there are too few or too many of them, or a bit from n on is set in a row that is whole
pub data ByteFault (n : ℕ) (sheet : List ℕ) : ℕ → Refusal → Type 0 where
  cut : length sheet < needed n sheet → ByteFault n sheet (length sheet) (Length Certificate (length sheet))
  longer : needed n sheet < length sheet → ByteFault n sheet (needed n sheet) (Length Certificate (needed n sheet))
  stray : (i j : ℕ) → i < count n sheet + 2 → row_at n i + row_bytes n ≤ length sheet → n ≤ j → j < 8 * row_bytes n →
      row sheet (row_at n i) j ≡ true → ByteFault n sheet (row_at n i + j / 8) (Range Certificate (row_at n i + j / 8))

-- a set that should have size k: it has another size or the first rule refuses it, or the second does
pub data SetFault (n : ℕ) (f g : Set → Bool) (k : ℕ) (s : Set) : ℕ → Refusal → Type 0 where
  wrong_size : size n s ≢ k → SetFault n f g k s 0 (Refused k First)
  first_refuses : f s ≡ false → SetFault n f g k s 0 (Refused k First)
  second_refuses : g s ≡ false → SetFault n f g k s 1 (Refused k Second)

-- offer x could be added on its side of the dual set u of s, by that side's rule
pub data Joins (f g : Set → Bool) (s u : Set) (x : ℕ) : Type 0 where
  within : u x ≡ true → s x ≡ false → f (with (both s u) x) ≡ true → Joins f g s u x
  beyond : u x ≡ false → s x ≡ false → g (with (outside s u) x) ≡ true → Joins f g s u x

-- the dual set, at its offers
abbrev pub DualFault : (n : ℕ) → (f g : Set → Bool) → (s u : Set) → ℕ → Refusal → Type 0
DualFault n f g s u x e = (x < n) × (e ≡ Dual x) × Joins f g s u x

-- an offer has a greater number than a chosen one, and it can come for that one
abbrev pub Outdoes : ℕ → (Set → Bool) → (ℕ → ℤ) → Set → ℕ → Type 0
Outdoes n f p s x = (y : ℕ) × (y < n) × (s y ≡ true) × (p y <ℤ p x) × (f (with (without s y) x) ≡ true)

-- the same, where it can be added or come for that one
abbrev pub Outbids : ℕ → (Set → Bool) → (ℕ → ℤ) → Set → ℕ → Type 0
Outbids n f p s x =
    (y : ℕ) × (y < n) × (s y ≡ true) × (p y <ℤ p x) × ((f (with s x) ≡ true) ⊎ (f (with (without s y) x) ≡ true))

-- offer x's numbers do not add up to its weight, or it is not chosen and outbids a chosen one by a rule and its number
pub data Misjudged (n : ℕ) (f g : Set → Bool) (w : ℕ → ℕ) (p q : ℕ → ℤ) (s : Set) (x : ℕ) : Type 0 where
  unequal : p x +ℤ q x ≢ pos (w x) → Misjudged n f g w p q s x
  first : s x ≡ false → Outbids n f p s x → Misjudged n f g w p q s x
  second : s x ≡ false → Outbids n g q s x → Misjudged n f g w p q s x

-- the numbers p and q of a set s of size k, at its offers
abbrev pub SplitFault : (n : ℕ) → (f g : Set → Bool) → (ℕ → ℕ) → (p q : ℕ → ℤ) → ℕ → Set → ℕ → Refusal → Type 0
SplitFault n f g w p q k s x e = (x < n) × (e ≡ Split k x) × Misjudged n f g w p q s x

-- faults of one stage: none, and the one with the least place
abbrev pub Clear : (ℕ → Refusal → Type 0) → Type 0
Clear fault = (p : ℕ) (e : Refusal) → fault p e → ⊥

abbrev pub Earliest : (ℕ → Refusal → Type 0) → Refusal → Type 0
Earliest fault e = (p : ℕ) × fault p e × ((q : ℕ) (d : Refusal) → fault q d → p ≤ q)

-- the set and the numbers of size k
abbrev pub SizedFault : (n : ℕ) → (f g : Set → Bool) → List ℕ → ℕ → ℕ → Refusal → Type 0
SizedFault n f g sheet k p e = (1 ≤ k) × (k ≤ count n sheet) × SetFault n f g k (sized_set n sheet k) p e

abbrev pub NumbersFault : (n : ℕ) → (f g : Set → Bool) → (ℕ → ℕ) → List ℕ → ℕ → ℕ → Refusal → Type 0
NumbersFault n f g w sheet k p e =
    (1 ≤ k) × (k ≤ count n sheet) × SplitFault n f g w (first_part n sheet k) (second_part n sheet k) k (sized_set n sheet k) p e

-- a size is right, or e is its first fault: in its set, or in its numbers
abbrev pub Right : (n : ℕ) → (f g : Set → Bool) → (ℕ → ℕ) → List ℕ → ℕ → Type 0
Right n f g w sheet k = Clear (SizedFault n f g sheet k) × Clear (NumbersFault n f g w sheet k)

abbrev pub Wrong : (n : ℕ) → (f g : Set → Bool) → (ℕ → ℕ) → List ℕ → ℕ → Refusal → Type 0
Wrong n f g w sheet k e =
    Earliest (SizedFault n f g sheet k) e ⊎ (Clear (SizedFault n f g sheet k) × Earliest (NumbersFault n f g w sheet k) e)

-- all sizes from 1 on below m are right, or e is the first fault of the first that is not
abbrev pub AllRight : (n : ℕ) → (f g : Set → Bool) → (ℕ → ℕ) → List ℕ → ℕ → Type 0
AllRight n f g w sheet m = (k : ℕ) → k < m → 1 ≤ k → Right n f g w sheet k

abbrev pub SomeWrong : (n : ℕ) → (f g : Set → Bool) → (ℕ → ℕ) → List ℕ → ℕ → Refusal → Type 0
SomeWrong n f g w sheet m e = (k : ℕ) × (1 ≤ k) × (k < m) × Wrong n f g w sheet k e × AllRight n f g w sheet k

-- the largest set, its dual set and all sizes are right, or e is the first fault of these
abbrev pub PartsRight : (n : ℕ) → (f g : Set → Bool) → (ℕ → ℕ) → List ℕ → Type 0
PartsRight n f g w sheet =
    Clear (SetFault n f g (count n sheet) (largest_set n sheet)) × Clear (DualFault n f g (largest_set n sheet) (dual_set n sheet)) ×
    AllRight n f g w sheet (count n sheet + 1)

abbrev pub PartsWrong : (n : ℕ) → (f g : Set → Bool) → (ℕ → ℕ) → List ℕ → Refusal → Type 0
PartsWrong n f g w sheet e =
    Earliest (SetFault n f g (count n sheet) (largest_set n sheet)) e ⊎
    (Clear (SetFault n f g (count n sheet) (largest_set n sheet)) ×
    (Earliest (DualFault n f g (largest_set n sheet) (dual_set n sheet)) e ⊎
    (Clear (DualFault n f g (largest_set n sheet) (dual_set n sheet)) × SomeWrong n f g w sheet (count n sheet + 1) e)))

-- the parts of a check, in their order
pub data Stage : Type 0 where
  bytes : Stage
  memory : Stage
  largest : Stage
  dual : Stage
  sized : ℕ → Stage
  numbers : ℕ → Stage

abbrev pub turn : Stage → ℕ
turn bytes = 0
turn memory = 1
turn largest = 2
turn dual = 3
turn (sized k) = 2 + 2 * k
turn (numbers k) = 3 + 2 * k

-- all that can be wrong, with its place in its stage; `words` is how much memory is lent
abbrev pub Fault : (n : ℕ) → (f g : Set → Bool) → (ℕ → ℕ) → List ℕ → ℕ → Stage → ℕ → Refusal → Type 0
Fault n f g w sheet words bytes p e = ByteFault n sheet p e
Fault n f g w sheet words memory p e = (words < work_length n) × (p ≡ 0) × (e ≡ Short Work)
Fault n f g w sheet words largest p e = SetFault n f g (count n sheet) (largest_set n sheet) p e
Fault n f g w sheet words dual p e = DualFault n f g (largest_set n sheet) (dual_set n sheet) p e
Fault n f g w sheet words (sized k) p e = SizedFault n f g sheet k p e
Fault n f g w sheet words (numbers k) p e = NumbersFault n f g w sheet k p e

-- the first fault of all: of the earliest stage, and there the one with the least place
abbrev pub FirstFault : (Stage → ℕ → Refusal → Type 0) → Refusal → Type 0
FirstFault fault e =
    (a : Stage) × Earliest (fault a) e × ((b : Stage) (q : ℕ) (d : Refusal) → fault b q d → turn a ≤ turn b)
