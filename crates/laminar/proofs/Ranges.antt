-- What a chain over a range of numbers answers, said of sets.
use Rattle.std.proofs.Common.{◌≡◌, ℕ, zero, suc, ◌+◌, ◌-◌, Bool, true, false, ◌||◌, cond, List, ◌∷◌, length, Option, refl, sym, ◌∙◌, ap, ap₂, arith}
use Rattle.std.specs.Fn.{Called}
use Rattle.std.specs.Iterator.{YieldsThen}
use Rattle.std.specs.List.{FoldsTo, filter, range_with_len, list_any}
use Rattle.std.specs.Option.{MatchOption}
use Rattle.std.specs.declared.ops.Range.{Range}
use Rattle.std.proofs.iter.Yields.{nat_range_steps}
use Rattle.std.proofs.lemmas.Iterator.{YieldsList-from_range}
use Rattle.std.proofs.lemmas.Iterator.Search.{any_from_yields_List}
use denote.Param.Members.{Mut}
use Rattle.sets.specs.Matroid.{Set, pick, size}
use Rattle.laminar.specs.Reading.{some}

-- an element of a set is its first or a later one
some_front : (n : ℕ) (s : Set) → some (suc n) s ≡ (s 0 || some n (λ k. s (suc k)))
some_front zero s = refl
some_front (suc n) s = turn (s (suc n)) (s 0) (some n (λ k. s (suc k))) _ (some_front n s)
  where
    turn : (a b c d : Bool) → d ≡ (b || c) → (a || d) ≡ (b || (a || c))
    turn a b c d e = grind arith

-- is one of the n numbers from a on in the set?
some_listed : (a n : ℕ) (s t : Set) → ((k : ℕ) → t k ≡ s (a + k)) → list_any s (range_with_len a n) ≡ some n t
some_listed a zero s t h = refl
some_listed a (suc n) s t h =
    let z : a + 0 ≡ a = omega arith in
    let r = some_listed (a + 1) n s (λ k. t (suc k)) (λ k. let z : a + suc k ≡ a + 1 + k = omega arith in h (suc k) ∙ ap s z) in
    ap₂ ◌||◌ (sym (h 0 ∙ ap s z)) r ∙ sym (some_front n t)

-- `any` over the n numbers from a on, with a closure that tests whether a number is in the set
pub some_any : {F : Type 0} {g : Mut F (ℕ × Unit {0}) Bool} (a b n : ℕ) (s t : Set) (u : Range ℕ) (f : F) (r : Bool) →
    ((xs : List ℕ) × (o : Option ℕ) × (j : F) × YieldsThen nat_range_steps (record { start = a; end = b }) xs o u ×
    FoldsTo (λ p x q. Called g p (x, tt) false q) f xs j ×
    MatchOption o (r ≡ false) (λ x. (r ≡ true) × ((h : F) × Called g j (x, tt) true h))) →
    b - a ≡ n → ((x : ℕ) (y : Bool) (q : F) → Called g f (x, tt) y q → (q ≡ f) × (y ≡ s x)) → ((k : ℕ) → t k ≡ s (a + k)) →
    r ≡ some n t
some_any a b n s t u f r ran e called h =
    any_from_yields_List s u f r ran (YieldsList-from_range a b n refl e) called ∙ some_listed a n s t h

-- the size of a set is that of its first element and of the later ones
size_front : (n : ℕ) (s : Set) → size (suc n) s ≡ pick (s 0) 1 0 + size n (λ k. s (suc k))
size_front zero s = refl
size_front (suc n) s = let e = size_front n s in omega arith

-- how many of the n numbers from a on are in the set?
pub size_listed : (a n : ℕ) (s t : Set) → ((k : ℕ) → t k ≡ s (a + k)) → length (filter s (range_with_len a n)) ≡ size n t
size_listed a zero s t h = refl
size_listed a (suc n) s t h =
    let z : a + 0 ≡ a = omega arith in
    let r = size_listed (a + 1) n s (λ k. t (suc k)) (λ k. let z : a + suc k ≡ a + 1 + k = omega arith in h (suc k) ∙ ap s z) in
    first (s a) (t 0) (filter s (range_with_len (a + 1) n)) _ (sym (h 0 ∙ ap s z)) r ∙ sym (size_front n t)
  where
    first : (p q : Bool) (xs : List ℕ) (m : ℕ) → p ≡ q → length xs ≡ m → length (cond p (a ∷ xs) xs) ≡ pick q 1 0 + m
    first true q xs m e l = rw (← e) (omega arith)
    first false q xs m e l = rw (← e) (omega arith)
