-- The arcs of the exchange graph, by the side on which the tail stands.
use Rattle.std.proofs.Common.{◌≡◌, ℕ, suc, ◌+◌, ◌-◌, ◌*◌, ◌≤◌, Bool, true, false, not, ◌&&◌, sym, refl, ap, ◌∙◌, ⊎_elim, add-mul, one-mul, add-one, arith}
use mathlib.Core.Bool.{beq}
use Rattle.std.proofs.lemmas.Nat.{mul-le}
use Rattle.std.proofs.lemmas.Bool.{cases_Bool}
use Rattle.sets.specs.Matroid.{pick, Set, with, without, size}
use Rattle.exchange.specs.Graph.{arc, addable}
use Rattle.exchange.proofs.Counting.{size_le}

-- an arc from inside, from outside, and none between elements of one side
pub arc_inside : (f g : Set → Bool) (s : Set) (v u : ℕ) (r : Bool) → s v ≡ true → s u ≡ false → r ≡ f (with (without s v) u) → r ≡ arc f g s v u
unfolding arc
arc_inside f g s v u r p q h =
    h ∙ sym (ap (λ (b : Bool). pick b (not (s u) && f (with (without s v) u)) (s u && g (with (without s u) v))) p
    ∙ ap (λ (b : Bool). not b && f (with (without s v) u)) q)

-- .. from outside
pub arc_outside : (f g : Set → Bool) (s : Set) (v u : ℕ) (r : Bool) → s v ≡ false → s u ≡ true → r ≡ g (with (without s u) v) → r ≡ arc f g s v u
unfolding arc
arc_outside f g s v u r p q h =
    h ∙ sym (ap (λ (b : Bool). pick b (not (s u) && f (with (without s v) u)) (s u && g (with (without s u) v))) p
    ∙ ap (λ (b : Bool). b && g (with (without s u) v)) q)

-- .. and none between elements of one side
pub arc_none : (f g : Set → Bool) (s : Set) (v u : ℕ) → s u ≡ s v → arc f g s v u ≡ false
unfolding arc
arc_none f g s v u p = none (s v) (s u) (f (with (without s v) u)) (g (with (without s u) v)) p
  where
    none : (b c x y : Bool) → c ≡ b → pick b (not c && x) (c && y) ≡ false
    none true c x y h = ap (λ (z : Bool). not z && x) h
    none false c x y h = ap (λ (z : Bool). z && y) h

-- only the test of the tail's side counts
pub arc_by_first : (f g : Set → Bool) (s : Set) (v u : ℕ) → s v ≡ true → arc f f s v u ≡ arc f g s v u
unfolding arc
arc_by_first f g s v u p =
    ap (λ (b : Bool). pick b (not (s u) && f (with (without s v) u)) (s u && f (with (without s u) v))) p
    ∙ sym (ap (λ (b : Bool). pick b (not (s u) && f (with (without s v) u)) (s u && g (with (without s u) v))) p)

-- .. from outside only the second
pub arc_by_second : (f g : Set → Bool) (s : Set) (v u : ℕ) → s v ≡ false → arc g g s v u ≡ arc f g s v u
unfolding arc
arc_by_second f g s v u p =
    ap (λ (b : Bool). pick b (not (s u) && g (with (without s v) u)) (s u && g (with (without s u) v))) p
    ∙ sym (ap (λ (b : Bool). pick b (not (s u) && f (with (without s v) u)) (s u && g (with (without s u) v))) p)

-- how many of the first u elements are on the other side
abbrev pub others : Set → Bool → ℕ → ℕ
others s inside u = pick inside (u - size u s) (size u s)

-- how many are in the set with one element more
counted : (s : Set) (u : ℕ) (b : Bool) → s u ≡ b → size (suc u) s ≡ pick b 1 0 + size u s
counted s u b p = ap {B = ℕ} (λ (x : Bool). pick x 1 0 + size u s) p

-- one element more, on the other side and on the same side
others_in : (s : Set) (inside : Bool) (u : ℕ) → s u ≡ not inside → others s inside (suc u) ≡ others s inside u + 1
others_in s true u p = let l = size_le u s in let e = counted s u false p in omega (arith, e)
others_in s false u p = let e = counted s u true p in omega (arith, e)

-- .. and on the same side
others_out : (s : Set) (inside : Bool) (u : ℕ) → s u ≡ inside → others s inside (suc u) ≡ others s inside u
others_out s true u p = let l = size_le u s in let e = counted s u true p in omega (arith, e)
others_out s false u p = let e = counted s u false p in omega (arith, e)

-- the count so far goes on where one more is on the other side
pub others_more : (s : Set) (inside : Bool) (u asked : ℕ) → s u ≡ not inside → asked ≡ others s inside u → asked + 1 ≡ others s inside (u + 1)
others_more s inside u asked p q = ap (λ (x : ℕ). x + 1) q ∙ sym (others_in s inside u p) ∙ ap (others s inside) (sym (add-one u))

-- .. and stays where it is on the same side
pub others_same : (s : Set) (inside : Bool) (u asked : ℕ) → s u ≡ inside → asked ≡ others s inside u → asked ≡ others s inside (u + 1)
others_same s inside u asked p q = q ∙ sym (others_out s inside u p) ∙ ap (others s inside) (sym (add-one u))

-- no more than there are elements
pub others_le : (s : Set) (inside : Bool) (u : ℕ) → others s inside u ≤ u
others_le s true u = omega arith
others_le s false u = size_le u s

-- two Bools are the same or each the other's opposite
pub sides_differ : (a b : Bool) → not (beq a b) ≡ true → a ≡ not b
sides_differ true true h = sym h
sides_differ true false h = refl
sides_differ false true h = refl
sides_differ false false h = h

-- .. where they do not differ they are the same
pub sides_agree : (a b : Bool) → not (beq a b) ≡ false → a ≡ b
sides_agree true true h = refl
sides_agree true false h = h
sides_agree false true h = sym h
sides_agree false false h = refl

-- how many exchanges the first v rows ask, of n elements with k inside
abbrev pub rows_ask : Set → ℕ → ℕ → ℕ → ℕ
rows_ask s n k v = size v s * (n - k) + (v - size v s) * k

-- one row more
rows_next : (s : Set) (n k v : ℕ) → rows_ask s n k (suc v) ≡ rows_ask s n k v + pick (s v) (n - k) k
rows_next s n k v =
    ⊎_elim
    (λ (p : s v ≡ true).
    let e : size (suc v) s ≡ 1 + size v s = counted s v true p in
    let a : size (suc v) s * (n - k) ≡ (n - k) + size v s * (n - k) = ap (λ (x : ℕ). x * (n - k)) e ∙ add-mul 1 (size v s) (n - k) ∙ ap (λ (x : ℕ). x + size v s * (n - k)) (one-mul (n - k)) in
    let d : suc v - size (suc v) s ≡ v - size v s = omega (arith, e) in
    let b : (suc v - size (suc v) s) * k ≡ (v - size v s) * k = ap (λ (x : ℕ). x * k) d in
    let c : pick (s v) (n - k) k ≡ n - k = ap (λ (x : Bool). pick x (n - k) k) p in
    omega (arith, a, b, c))
    (λ (p : s v ≡ false).
    let e : size (suc v) s ≡ 0 + size v s = counted s v false p in
    let f : size (suc v) s ≡ size v s = omega (arith, e) in
    let l = size_le v s in
    let a : size (suc v) s * (n - k) ≡ size v s * (n - k) = ap (λ (x : ℕ). x * (n - k)) f in
    let d : suc v - size (suc v) s ≡ 1 + (v - size v s) = omega (arith, f) in
    let b : (suc v - size (suc v) s) * k ≡ k + (v - size v s) * k = ap (λ (x : ℕ). x * k) d ∙ add-mul 1 (v - size v s) k ∙ ap (λ (x : ℕ). x + (v - size v s) * k) (one-mul k) in
    let c : pick (s v) (n - k) k ≡ k = ap (λ (x : Bool). pick x (n - k) k) p in
    omega (arith, a, b, c))
    (cases_Bool (s v))

-- the count goes on by one row
pub rows_more : (s : Set) (n k v asked r : ℕ) → asked ≡ rows_ask s n k v → r ≡ pick (s v) (n - k) k → asked + r ≡ rows_ask s n k (v + 1)
rows_more s n k v asked r p q =
    ap (λ (x : ℕ). x + r) p ∙ ap (λ (x : ℕ). rows_ask s n k v + x) q ∙ sym (rows_next s n k v) ∙ ap (rows_ask s n k) (sym (add-one v))

-- no count is large
pub rows_small : (s : Set) (n k v : ℕ) → n ≤ 600 → k ≤ n → v ≤ n → rows_ask s n k v ≤ 720000
rows_small s n k v p q r =
    let l = size_le v s in
    let a : size v s * (n - k) ≤ 600 * 600 = mul-le (size v s) (n - k) 600 600 (omega arith) (omega arith) in
    let b : (v - size v s) * k ≤ 600 * 600 = mul-le (v - size v s) k 600 600 (omega arith) (omega arith) in
    omega arith

-- nor is the count of one row
pub pick_small : (b : Bool) (n k : ℕ) → n ≤ 600 → k ≤ n → pick b (n - k) k ≤ 600
pick_small true n k p q = omega arith
pick_small false n k p q = omega arith

-- what can be added, by the answer of the test
pub addable_said : (f : Set → Bool) (s : Set) (x : ℕ) (r : Bool) → s x ≡ false → r ≡ f (with s x) → r ≡ addable f s x
unfolding addable
addable_said f s x r p q = q ∙ sym (ap (λ (b : Bool). not b && f (with s x)) p)

-- .. and an element of the set cannot be added
pub addable_not : (f : Set → Bool) (s : Set) (x : ℕ) → s x ≡ true → addable f s x ≡ false
unfolding addable
addable_not f s x p = ap (λ (b : Bool). not b && f (with s x)) p
