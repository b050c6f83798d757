-- Sets that agree below n: a matroid says the same of both, with an element more or one in the place of another.
use Rattle.std.proofs.Common.{◌≡◌, ℕ, ◌<◌, Bool, not, ◌&&◌, ◌||◌, eqb, ap}
use Rattle.sets.specs.Matroid.{Set, with, without, Matroid}
use Rattle.sets.proofs.MatroidLaws.{allowed_same}

-- sets that agree with one element more are allowed alike
pub with_alike : {n : ℕ} {f : Set → Bool} → Matroid n f → (s t : Set) (x : ℕ) → ((v : ℕ) → v < n → t v ≡ s v) → f (with t x) ≡ f (with s x)
with_alike m s t x e = allowed_same m (with t x) (with s x) (λ v l. ap (λ (b : Bool). b || eqb v x) (e v l))

-- and so with one in the place of another
pub swap_alike : {n : ℕ} {f : Set → Bool} → Matroid n f → (s t : Set) (y x : ℕ) → ((v : ℕ) → v < n → t v ≡ s v) →
    f (with (without t y) x) ≡ f (with (without s y) x)
swap_alike m s t y x e =
    allowed_same m (with (without t y) x) (with (without s y) x) (λ v l. ap (λ (b : Bool). (b && not (eqb v y)) || eqb v x) (e v l))
