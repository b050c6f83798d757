-- What the inner functions keep: who looks after whom, from which offers a volunteer is come to, and rows that are closed.
use Rattle.std.specs.Prelude.{◌≡◌, ℕ, ◌+◌, ◌<◌, ◌≤◌, Bool, true, false, ◌&&◌, ◌||◌, List, Some, None, Option, nat_le, nat_lt, slice_index, slice_index_or, unwrap_or, All, IfSome}
use Rattle.sets.specs.Bits.{row_words}
use Rattle.sets.specs.Matroid.{Set}
use Rattle.transversal.specs.Volunteers.{in_row, some}

-- what a list of numbers holds at a place
abbrev pub at : List ℕ → ℕ → ℕ
at xs i = slice_index xs i

-- whom a table names at a place: 600 where it names nobody
abbrev pub named : List (Option ℕ) → ℕ → ℕ
named xs i = unwrap_or (slice_index_or xs i None) 600

-- volunteer v can look after offer x, by the volunteers' rows behind the rows of the offers
abbrev pub can_by : List ℕ → ℕ → ℕ → ℕ → ℕ → Bool
can_by rows n width v x = in_row rows width (n + 1 + v) x

-- the same for rows of as many words as n offers need
abbrev pub by_rows : List ℕ → ℕ → ℕ → ℕ → Bool
by_rows rows n = can_by rows n (row_words n)

-- the offers that have a volunteer
abbrev pub matched : ℕ → (ℕ → ℕ) → Set
matched volunteers f x = nat_lt (f x) volunteers

-- f says who looks after each offer that has a volunteer, and o says whom a volunteer looks after (n or more: nobody)
pub record Paired (can : ℕ → ℕ → Bool) (n volunteers : ℕ) (f o : ℕ → ℕ) : Type 0 where
  pub able : (x : ℕ) → x < n → f x < volunteers → can (f x) x ≡ true
  pub owned : (x : ℕ) → x < n → f x < volunteers → o (f x) ≡ x
  pub back : (v : ℕ) → v < volunteers → o v < n → f (o v) ≡ v

-- two tables hold such pairs by the rows, and name only volunteers, and offers, that are there
pub record Holds (rows : List ℕ) (n volunteers : ℕ) (tends owner : List (Option ℕ)) : Type 0 where
  pub pairs : Paired (by_rows rows n) n volunteers (named tends) (named owner)
  pub helpers : All (λ o. IfSome o (λ v. v < volunteers)) tends
  pub helped : All (λ o. IfSome o (λ x. x < n)) owner

-- the first len places of the queue hold the free volunteers below m
pub record Queued (n m : ℕ) (o queue : ℕ → ℕ) (len : ℕ) : Type 0 where
  pub few : len ≤ m
  pub low : (k : ℕ) → k < len → (queue k < m) × (n ≤ o (queue k))
  pub all : (v : ℕ) → v < m → n ≤ o v → (k : ℕ) × (k < len) × (queue k ≡ v)

-- an offer that is come to has a volunteer of the queue who can look after it; each of the first `top` volunteers of the
-- queue is free, or looks after an offer that is come to by an earlier one
pub record Led (can : ℕ → ℕ → Bool) (n volunteers : ℕ) (o : ℕ → ℕ) (reached : Set) (queue via : ℕ → ℕ) (len top : ℕ) : Type 0 where
  pub short : len ≤ 1200
  pub low : (k : ℕ) → k < len → queue k < volunteers
  pub by : (y : ℕ) → y < n → reached y ≡ true → (via y < len) × (can (queue (via y)) y ≡ true)
  pub known : (k : ℕ) → k < top → o (queue k) < n → (reached (o (queue k)) ≡ true) × (via (o (queue k)) < k)

-- the queue leads from offer x to a free volunteer
abbrev pub Leads : (ℕ → ℕ → Bool) → ℕ → ℕ → (ℕ → ℕ) → (ℕ → ℕ) → (ℕ → ℕ) → ℕ → Type 0
Leads can n volunteers o queue via x =
    (reached : Set) × (len : ℕ) × Led can n volunteers o reached queue via len len × (reached x ≡ true)

-- whoever can be looked after by a free volunteer, or by that of an offer of the set, is in the set
pub record Shut (can : ℕ → ℕ → Bool) (n volunteers : ℕ) (f o : ℕ → ℕ) (reached : Set) : Type 0 where
  pub open_hands : (v x : ℕ) → v < volunteers → n ≤ o v → x < n → can v x ≡ true → reached x ≡ true
  pub next_hands : (z x : ℕ) → z < n → reached z ≡ true → f z < volunteers → x < n → can (f z) x ≡ true → reached x ≡ true

-- no free volunteer is come to from offer x
abbrev pub Stuck : (ℕ → ℕ → Bool) → ℕ → ℕ → (ℕ → ℕ) → (ℕ → ℕ) → ℕ → Type 0
Stuck can n volunteers f o x = (reached : Set) × Shut can n volunteers f o reached × (reached x ≡ false)

-- a free volunteer who can look after x, where one is named
abbrev pub Hands : (ℕ → ℕ → Bool) → ℕ → ℕ → (ℕ → ℕ) → ℕ → Option ℕ → Type 0
Hands can n volunteers o x None = Unit {0}
Hands can n volunteers o x (Some v) = (v < volunteers) × (n ≤ o v) × (can v x ≡ true)

-- x is come to from row k along rows of offers below n
pub data Chain (n : ℕ) (t : ℕ → ℕ → Bool) : ℕ → ℕ → Type 0 where
  one : {k x : ℕ} → t k x ≡ true → Chain n t k x
  more : {k z x : ℕ} → z < n → Chain n t k z → Chain n t z x → Chain n t k x

-- row y of an offer with a volunteer is that volunteer's row, row n is those of the free volunteers together
abbrev pub start : (ℕ → ℕ → Bool) → ℕ → (ℕ → ℕ) → ℕ → ℕ → Bool
start can volunteers f y x = matched volunteers f y && can (f y) x

abbrev pub start_free : (ℕ → ℕ → Bool) → ℕ → ℕ → (ℕ → ℕ) → ℕ → Bool
start_free can n volunteers o x = some volunteers (λ v. nat_le n (o v) && can v x)

-- row k with what is come to through offer j
abbrev pub through : (ℕ → ℕ → Bool) → ℕ → ℕ → ℕ → Bool
through t j k x = t k x || (t k j && t j x)
