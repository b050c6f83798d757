-- When a set is not free: some element depends on the others.
use Rattle.std.proofs.Common.{◌≡◌, ℕ, zero, suc, ◌<◌, Bool, true, false, not, ◌&&◌, refl, ⊎_elim, arith}
use Rattle.std.proofs.lemmas.Bool.{cases_Bool, both_ways}
use Rattle.sets.proofs.ClosureTheorem.{free_each}
use Rattle.sets.specs.Closure.{free}
use Rattle.sets.specs.Matroid.{Set, without}

-- a set that is not free has an element that depends on the others
pub free_fails : (m : ℕ) (cl : Set → Set) (s : Set) → free m cl s ≡ false → (x : ℕ) × (x < m) × (s x ≡ true) × (cl (without s x) x ≡ true)
free_fails zero cl s h = absurd (both_ways true h refl)
free_fails (suc m) cl s h =
    ⊎_elim (λ e. let p = here (s m) (cl (without s m) m) (free m cl s) e h in (m, omega arith, p.0, p.1))
    (λ e. let r = free_fails m cl s e in (r.0, omega arith, r.2, r.3)) (cases_Bool (free m cl s))
  where
    here : (a b c : Bool) → c ≡ true → (not (a && b) && c) ≡ false → (a ≡ true) × (b ≡ true)
    here a b c p q = (grind arith, grind arith)

-- an element that depends on the others stops a set from being free
pub free_not : (m : ℕ) (cl : Set → Set) (s : Set) (x : ℕ) → x < m → s x ≡ true → cl (without s x) x ≡ true → free m cl s ≡ false
free_not m cl s x l h k =
    ⊎_elim (λ e. absurd (both_ways (cl (without s x) x) (free_each m cl s e x l h) k)) (λ e. e) (cases_Bool (free m cl s))
