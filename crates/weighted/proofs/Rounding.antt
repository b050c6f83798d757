-- What the loop over the rounds keeps: calls that fit and add up, memory behind what is written as it was.
use Rattle.std.proofs.Common.{◌≡◌, ℕ, suc, ◌+◌, ◌-◌, ◌*◌, ◌<◌, ◌≤◌, Bool, false, List, get_or, None, Option, sym, refl, ap, ◌∙◌, subst, inr, mul-le-mul_right, add-mul, mul-le-mul, one-mul, add-one, arith, MatchOption}
use Rattle.sets.specs.Bits.{row_bytes, SameBut}
use Rattle.sets.specs.Matroid.{Set, size, none, Matroid}
use Rattle.sets.proofs.FiniteSets.{size_same, size_none, size_bound}
use Rattle.sets.proofs.Stretches.{members_outside}
use Rattle.exchange.specs.Round.{top, Closed}
use Rattle.exchange.proofs.DualSets.{dual_by_closed}
use Rattle.weighted.specs.Choice.{round_calls, all_calls, largest_set, dual_set, sized_set, first_part, second_part, Chosen}
use Rattle.weighted.specs.Next.{Added}
use Rattle.weighted.proofs.Progress.{Kept, Progress, state_none}
use Rattle.weighted.proofs.Chosen.{chosen}
use Rattle.weighted.proofs.Written.{signed_along}

-- a round asks no more than so many exchanges
pub asked_few : (n k : ℕ) → n ≤ 600 → k ≤ n → round_calls n k ≤ 720000
asked_few n k a b =
    let h : 2 * k ≤ 1200 = omega arith in
    let i : n - k ≤ 600 = omega arith in
    let j : 2 * k * (n - k) ≤ 1200 * 600 = mul-le-mul h i in
    j

-- k rounds and one more
pub calls_few : (n k calls asked : ℕ) → n ≤ 600 → k ≤ n → calls ≤ k * 720000 → asked ≡ round_calls n k → calls + asked ≤ (k + 1) * 720000
calls_few n k calls asked a b h e =
    let i = asked_few n k a b in
    let j : (k + 1) * 720000 ≡ k * 720000 + 720000 = add-mul k 1 720000 in
    omega arith

pub calls_fit : (n k calls asked : ℕ) → n ≤ 600 → k ≤ n → calls ≤ k * 720000 → asked ≡ round_calls n k → calls + asked ≤ 432720000
calls_fit n k calls asked a b h e =
    let i = calls_few n k calls asked a b h e in
    let c : k + 1 ≤ 601 = omega arith in
    let j : (k + 1) * 720000 ≤ 601 * 720000 = mul-le-mul_right 720000 c in
    omega arith

-- the calls of all rounds so far, and of the next one
pub calls_next : (n k calls asked : ℕ) → asked ≡ round_calls n k → calls + round_calls n k ≡ all_calls n k →
    calls + asked + round_calls n (k + 1) ≡ all_calls n (k + 1)
calls_next n k calls asked e h =
    let p : calls + asked ≡ all_calls n k = ap (λ (z : ℕ). calls + z) e ∙ h in
    let q : calls + asked + round_calls n (suc k) ≡ all_calls n (suc k) = ap (λ (z : ℕ). z + round_calls n (suc k)) p in
    subst (λ (z : ℕ). calls + asked + round_calls n z ≡ all_calls n z) (sym (add-one k)) q

-- numbers behind those of size k + 1 are as they were
pub numbers_rest : (n k : ℕ) (old xs ys : List ℕ) → ((p : ℕ) → 2 * (k * n) ≤ p → get_or xs p 0 ≡ get_or old p 0) →
    SameBut (2 * (k * n)) (2 * n) xs ys → (p : ℕ) → 2 * ((k + 1) * n) ≤ p → get_or ys p 0 ≡ get_or old p 0
numbers_rest n k old xs ys h s p l =
    let e : (k + 1) * n ≡ k * n + 1 * n = add-mul k 1 n in
    let o : 1 * n ≡ n = one-mul n in
    s p (inr (omega arith)) ∙ h p (omega arith)

-- bytes behind the set of size k + 1 are as they were
pub sets_rest : (b k : ℕ) (old xs ys : List ℕ) → ((p : ℕ) → (k + 2) * b ≤ p → get_or xs p 0 ≡ get_or old p 0) →
    SameBut ((k + 2) * b) b xs ys → (p : ℕ) → (k + 1 + 2) * b ≤ p → get_or ys p 0 ≡ get_or old p 0
sets_rest b k old xs ys h s p l =
    let q : k + 1 + 2 ≡ k + 2 + 1 = omega arith in
    let e : (k + 1 + 2) * b ≡ (k + 2) * b + 1 * b = ap (λ (z : ℕ). z * b) q ∙ add-mul (k + 2) 1 b in
    let o : 1 * b ≡ b = one-mul b in
    s p (inr (omega arith)) ∙ h p (omega arith)

-- one offer more is still below n
pub one_more : (n k : ℕ) (f g : Set → Bool) (w a : ℕ → ℕ) (loss : ℕ) (s t : Set) → size n s ≡ k → Added n f g w a loss s t → k < n
one_more n k f g w a loss s t e h = let b : size n t ≤ n = size_bound n t in let c : size n t ≡ suc (size n s) = h.sized in omega arith

-- there is room for the set and the numbers of one size more
pub set_room : (n k b m : ℕ) → k < n → (n + 2) * b ≤ m → (k + 2) * b + b ≤ m
set_room n k b m l h =
    let e : (k + 2 + 1) * b ≡ (k + 2) * b + 1 * b = add-mul (k + 2) 1 b in
    let o : 1 * b ≡ b = one-mul b in
    let i : k + 2 + 1 ≤ n + 2 = omega arith in
    let j : (k + 2 + 1) * b ≤ (n + 2) * b = mul-le-mul_right b i in
    omega arith

pub number_room : (n k m : ℕ) → k < n → 2 * (n * n) ≤ m → 2 * ((k + 1) * n) ≤ m
number_room n k m l h = let i : k + 1 ≤ n = omega arith in let j : (k + 1) * n ≤ n * n = mul-le-mul_right n i in omega arith

-- before the first round
pub progress_none : {n : ℕ} {f g : Set → Bool} → Matroid n f → Matroid n g → (w a : ℕ → ℕ) (s : Set) (sets numbers : List ℕ) →
    ((x : ℕ) → x < n → s x ≡ false) → ((x : ℕ) → x < n → a x ≡ 0) → ((x : ℕ) → x < n → w x ≤ top) → Progress n f g w a 0 s sets numbers 0
progress_none {n} mf mg w a s sets numbers e ea light =
    record {
      state = state_none mf mg w a s e ea light;
      counted = size_same n s none e ∙ size_none n;
      low = omega arith;
      each = λ j l. absurd (omega arith);
    }

-- what a round says where it found no path
pub no_end : (o : Option ℕ) (P : Type 0) (Q : ℕ → Type 0) → o ≡ None → MatchOption o P Q → P
no_end o P Q e h = subst (λ (v : Option ℕ). MatchOption v P Q) e h

-- what a round asked, by the number of offers in its set
pub asked_is : (n k asked : ℕ) (s : Set) → size n s ≡ k → asked ≡ 2 * size n s * (n - size n s) → asked ≡ round_calls n k
asked_is n k asked s c e = e ∙ ap (λ (z : ℕ). 2 * z * (n - z)) c

-- the row of size j + 1 after the first two rows were written
row_behind : (n j : ℕ) (xs ys : List ℕ) → SameBut 0 (2 * row_bytes n) xs ys → (x : ℕ) → x < n → sized_set n ys j x ≡ sized_set n xs j x
row_behind n j xs ys h x l =
    let e : (j + 2) * row_bytes n ≡ j * row_bytes n + 2 * row_bytes n = add-mul j 2 (row_bytes n) in
    members_outside 0 (2 * row_bytes n) xs ys h (8 * ((j + 2) * row_bytes n) + x) (inr (omega arith))

-- what was kept of a size stays, where the first two rows are written
kept_behind : {n : ℕ} {f g : Set → Bool} → Matroid n f → Matroid n g → (w : ℕ → ℕ) (sets sets' numbers : List ℕ) (j : ℕ) →
    SameBut 0 (2 * row_bytes n) sets sets' → Kept n f g w sets numbers j → Kept n f g w sets' numbers j
kept_behind {n} mf mg w sets sets' numbers j h k =
    let same = row_behind n j sets sets' h in
    record {
      sized = size_same n (sized_set n sets' j) (sized_set n sets j) same ∙ k.sized;
      split =
          signed_along mf mg w (first_part n numbers j) (second_part n numbers j) (first_part n numbers j) (second_part n numbers j)
          (sized_set n sets j) (sized_set n sets' j) same (λ x l. refl) (λ x l. refl) k.split;
    }

-- after the last round, once the largest set and its dual set are written
pub finished : {n : ℕ} {f g : Set → Bool} → Matroid n f → Matroid n g → (w a : ℕ → ℕ) (loss : ℕ) (s u : Set) (sets sets' numbers : List ℕ) (k : ℕ) →
    Progress n f g w a loss s sets numbers k → Closed n f g s u → ((x : ℕ) → x < n → largest_set sets' x ≡ s x) →
    ((x : ℕ) → x < n → dual_set n sets' x ≡ u x) → SameBut 0 (2 * row_bytes n) sets sets' → Chosen n f g w sets' numbers k
finished {n} {f} {g} mf mg w a loss s u sets sets' numbers k p c es eu h =
    chosen mf mg w s u sets' numbers k p.counted (dual_by_closed n f g s u mf mg p.state.first p.state.second c) es eu
    (λ j l. kept_behind mf mg w sets sets' numbers j h (p.each j l))

-- bytes behind all sets are as they were, once the first two rows are written
pub all_rest : (b k : ℕ) (old xs ys : List ℕ) → ((p : ℕ) → (k + 2) * b ≤ p → get_or xs p 0 ≡ get_or old p 0) → SameBut 0 (2 * b) xs ys →
    (p : ℕ) → (k + 2) * b ≤ p → get_or ys p 0 ≡ get_or old p 0
all_rest b k old xs ys h s p l =
    let e : (k + 2) * b ≡ k * b + 2 * b = add-mul k 2 b in
    s p (inr (omega arith)) ∙ h p l

-- a number of offers and one more
pub step_up : (P : ℕ → Type 0) (k : ℕ) → P (suc k) → P (k + 1)
step_up P k h = subst P (sym (add-one k)) h
