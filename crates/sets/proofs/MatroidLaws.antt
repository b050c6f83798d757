-- The laws of a matroid as lemmas. They are shut in the record, so that they enter a proof only where they are named.
use Rattle.std.proofs.Common.{◌≡◌, ℕ, ◌<◌, Bool, true, false, sym, ◌∙◌, ⊎_elim, arith}
use Rattle.std.proofs.lemmas.Bool.{cases_Bool}
use Rattle.sets.specs.Matroid.{Set, size, with, none, Within, Hereditary, Augmentable, Matroid}

-- what lies in an allowed set is allowed
pub allowed_within : {n : ℕ} {f : Set → Bool} → Matroid n f → (s t : Set) → Within n s t → f t ≡ true → f s ≡ true
unfolding Hereditary
allowed_within m s t h e = m.hereditary s t h e

-- what holds a refused set is refused
pub refused_within : {n : ℕ} {f : Set → Bool} → Matroid n f → (s t : Set) → Within n s t → f s ≡ false → f t ≡ false
refused_within {n} {f} m s t h e =
    ⊎_elim (λ p. let q : f s ≡ true = allowed_within m s t h p in grind arith) (λ p. p) (cases_Bool (f t))

-- sets that agree below n are both allowed or both refused
pub allowed_same : {n : ℕ} {f : Set → Bool} → Matroid n f → (s t : Set) → ((x : ℕ) → x < n → s x ≡ t x) → f s ≡ f t
allowed_same {n} {f} m s t h =
    ⊎_elim
    (λ p. p ∙ sym (allowed_within m t s (λ x q e. h x q ∙ e) p))
    (λ p. p ∙ sym (refused_within m s t (λ x q e. sym (h x q) ∙ e) p))
    (cases_Bool (f s))

-- a smaller allowed set can take an element from a larger one
pub augment : {n : ℕ} {f : Set → Bool} → Matroid n f → (s t : Set) → f s ≡ true → f t ≡ true → size n s < size n t →
    (x : ℕ) × (x < n) × (t x ≡ true) × (s x ≡ false) × (f (with s x) ≡ true)
unfolding Augmentable
augment m s t d e h = m.augmentable s t d e h

-- the record from its laws
pub matroid : (n : ℕ) (f : Set → Bool) → f none ≡ true → ((s t : Set) → Within n s t → f t ≡ true → f s ≡ true) →
    ((s t : Set) → f s ≡ true → f t ≡ true → size n s < size n t →
    (x : ℕ) × (x < n) × (t x ≡ true) × (s x ≡ false) × (f (with s x) ≡ true)) →
    Matroid n f
unfolding Hereditary Augmentable
matroid n f e h a = record { empty = e; hereditary = h; augmentable = a }
