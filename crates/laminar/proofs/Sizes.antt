-- Sizes of the part of a set that lies in a group.
use Rattle.std.proofs.Common.{◌≡◌, ℕ, ◌+◌, ◌<◌, true, false, ◌∙◌, ⊎_elim, arith}
use Rattle.std.proofs.lemmas.Bool.{cases_Bool}
use Rattle.sets.specs.Matroid.{Set, pick, size, both, with, without, none}
use Rattle.sets.proofs.FiniteSets.{size_same, size_none, size_with, size_without}

-- a set with no element below n has size 0
pub size_empty : (n : ℕ) (a : Set) → ((x : ℕ) → x < n → a x ≡ false) → size n a ≡ 0
size_empty n a h = size_same n a none h ∙ size_none n

-- one element more: the part in a grows where a holds it
pub part_with : (n : ℕ) (a s : Set) (x : ℕ) → x < n → s x ≡ false → size n (both a (with s x)) ≡ size n (both a s) + pick (a x) 1 0
part_with n a s x l e =
    ⊎_elim
    (λ (c : a x ≡ true).
    let p = size_same n (both a (with s x)) (with (both a s) x) (λ z k. grind arith) in
    let q = size_with n (both a s) x l (grind arith) in
    grind arith)
    (λ (c : a x ≡ false).
    let p = size_same n (both a (with s x)) (both a s) (λ z k. grind arith) in
    grind arith)
    (cases_Bool (a x))

-- one element less: the part in a shrinks where a holds it
pub part_without : (n : ℕ) (a s : Set) (x : ℕ) → x < n → s x ≡ true → size n (both a (without s x)) + pick (a x) 1 0 ≡ size n (both a s)
part_without n a s x l e =
    ⊎_elim
    (λ (c : a x ≡ true).
    let p = size_same n (both a (without s x)) (without (both a s) x) (λ z k. grind arith) in
    let q = size_without n (both a s) x l (grind arith) in
    grind arith)
    (λ (c : a x ≡ false).
    let p = size_same n (both a (without s x)) (both a s) (λ z k. grind arith) in
    grind arith)
    (cases_Bool (a x))
