-- Two small matroids on the elements 0, 1 and 2, at which the theorems are used. Assumes nothing: definitions, and facts
-- whose proofs are owed by the functions that name them.
use Rattle.std.specs.Prelude.{◌≡◌, ℕ, zero, suc, ◌+◌, ◌<◌, ◌≤◌, Bool, true, false, not, ◌&&◌, ◌||◌, ℤ, pos, negsuc, ◌==◌, nat_le}
use Rattle.sets.specs.Matroid.{Set, size, weight, without, with, Within, Matroid}
use Rattle.sets.specs.Closure.{Closure, free}
use Rattle.matroid.specs.Optimal.{Dual, Best, Split, SignedSplit}
use Rattle.matroid.specs.Exchanges.{exchanged, Pairs, Tight, Made}

-- not both of 0 and 1, and not both of 1 and 2
abbrev pub left : Set → Bool
left s = not (s 0 && s 1)

abbrev pub right : Set → Bool
right s = not (s 1 && s 2)

-- the weights 2, 5 and 4; the set of 1, the set of 0 and 2, and the set of 0 and 1
abbrev pub price : ℕ → ℕ
price zero = 2
price (suc zero) = 5
price (suc (suc x)) = 4

abbrev pub middle : Set
middle x = x == 1

abbrev pub outer : Set
outer x = x == 0 || x == 2

abbrev pub lower : Set
lower x = x == 0 || x == 1

-- both tests are matroids
abbrev pub SmallMatroids : Type 0
SmallMatroids = Matroid 3 left × Matroid 3 right

-- the dual set of 0 and 1 shows that 0 and 2 are a largest choice
abbrev pub SmallLargest : Type 0
SmallLargest = Dual 3 left right outer lower × ((t : Set) → left t ≡ true → right t ≡ true → size 3 t ≤ 2)

-- all of the weight in the first part shows that 1 is a heaviest choice of one element
abbrev pub SmallHeaviest : Type 0
SmallHeaviest =
    Split 3 left right price price (λ x. 0) middle ×
    ((t : Set) → left t ≡ true → right t ≡ true → size 3 t ≡ 1 → weight 3 price t ≤ 5)

-- numbers of either sign, 3 and -1, 3 and 2, 0 and 4, show that 0 and 2 are a heaviest choice of two elements
abbrev pub plus : ℕ → ℤ
plus zero = pos 3
plus (suc zero) = pos 3
plus (suc (suc x)) = pos 0

abbrev pub minus : ℕ → ℤ
minus zero = negsuc 0
minus (suc zero) = pos 2
minus (suc (suc x)) = pos 4

abbrev pub SmallSigned : Type 0
SmallSigned =
    SignedSplit 3 left right price plus minus outer ×
    ((t : Set) → left t ≡ true → right t ≡ true → size 3 t ≡ 2 → weight 3 price t ≤ 6)

-- potentials 3, 3 and 0
abbrev pub level : ℕ → ℕ
level zero = 3
level (suc zero) = 3
level (suc (suc x)) = 0

-- where 1 is chosen, 2 is added and 0 comes for 1
abbrev pub SmallExchange : Type 0
SmallExchange =
    Tight 3 left level middle (λ i. 1) (λ i. 0) 1 (λ i. i) × Made 3 left level (exchanged (with middle 2) (λ i. 1) (λ i. 0) 1) 2 3

-- whatever two elements are chosen, they gain no more over 1 than 1 over nothing
abbrev pub SmallGains : Type 0
SmallGains = (t : Set) → left t ≡ true → right t ≡ true → size 3 t ≡ 2 → weight 3 price t + 0 ≤ 5 + 5

-- every element depends on any other: the closure of the sets of at most one element
abbrev pub any : Set → Set
any s x = s 0 || s 1 || s 2

abbrev pub SmallClosure : Type 0
SmallClosure = Closure 3 any × Matroid 3 (free 3 any) × (free 3 any middle ≡ true) × (free 3 any outer ≡ false)

-- one matroid: 1 can be filled up from 0 and 2; 1 can come where 2 stays; 0 and 2 weigh by the levels as much as 1 and 2,
-- which are a best set, and so are best too; 2 goes with 0 as it goes with 1
abbrev pub upper : Set
upper x = x == 1 || x == 2

abbrev pub SmallSteps : Type 0
SmallSteps =
    ((r : Set) × (left r ≡ true) × Within 3 middle r × (size 3 r ≡ 2)) ×
    ((y : ℕ) × (y < 3) × (outer y ≡ true) × ((y == 2) ≡ false) × (left (with (without outer y) 1) ≡ true)) ×
    ((t : Set) → left t ≡ true → size 3 t ≡ 2 → weight 3 level t ≤ 3) ×
    Best 3 left level outer ×
    (left (with (with (without middle 1) 0) 2) ≡ true)

-- on four elements: at most two, and not both of 0 and 2
abbrev pub twins : Set → Bool
twins s = not (s 0 && s 2) && nat_le (size 4 s) 2

-- where 0 and 1 are chosen, 3 comes for 1 and 2 for 0, in this order: 3 could come for 0 too
abbrev pub goes : ℕ → ℕ
goes zero = 1
goes (suc i) = 0

abbrev pub comes : ℕ → ℕ
comes zero = 3
comes (suc i) = 2

abbrev pub SmallPairs : Type 0
SmallPairs =
    Matroid 4 twins × Pairs 4 twins lower goes comes 2 × (twins (with (without lower 0) 3) ≡ true) ×
    (twins (exchanged lower goes comes 2) ≡ true) × (size 4 (exchanged lower goes comes 2) ≡ 2)
