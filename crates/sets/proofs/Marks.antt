-- A write of one number, and a count that looks at one element more.
use Rattle.std.proofs.Common.{◌≡◌, ℕ, ◌+◌, ◌<◌, ◌≤◌, Bool, true, false, List, set, sym, ap, ◌∙◌, ⊎_elim, add-one, arith}
use Rattle.std.proofs.lemmas.List.{get_or-set_other}
use Rattle.sets.specs.Bits.{SameBut}
use Rattle.sets.specs.Matroid.{Set, size, pick}

-- a write changes one place
pub set_same_but : (xs : List ℕ) (p v : ℕ) → SameBut p 1 xs (set xs p v)
set_same_but xs p v k h =
    let ne : k ≡ p → ⊥ = λ e. ⊎_elim (λ (l : k < p). omega arith) (λ (l : p + 1 ≤ k). omega arith) h in get_or-set_other xs p k v 0 ne

-- the size below i + 1, from the size below i
pub size_more : (s : Set) (i : ℕ) → size (i + 1) s ≡ pick (s i) 1 0 + size i s
size_more s i = rw add-one

-- a count steps over an element that is in the set, as a test b says
pub count_in : (s : Set) (i total new : ℕ) (b : Bool) → (total ≡ size i s) × (total ≤ i) → b ≡ s i → b ≡ true → new ≡ total + 1 → (new ≡ size (i + 1) s) × (new ≤ i + 1)
count_in s i total new b (e, l) r h f =
    let m = size_more s i in
    let p = ap (λ (c : Bool). pick {A = ℕ} c 1 0) (sym r ∙ h) in
    (omega arith, omega arith)

-- and over one that is not
pub count_out : (s : Set) (i total new : ℕ) (b : Bool) → (total ≡ size i s) × (total ≤ i) → b ≡ s i → b ≡ false → new ≡ total → (new ≡ size (i + 1) s) × (new ≤ i + 1)
count_out s i total new b (e, l) r h f =
    let m = size_more s i in
    let p = ap (λ (c : Bool). pick {A = ℕ} c 1 0) (sym r ∙ h) in
    (omega arith, omega arith)
