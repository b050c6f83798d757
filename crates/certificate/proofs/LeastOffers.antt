-- The least offer in fault.
use Rattle.std.proofs.Common.{◌≡◌, ℕ, ◌<◌, ◌≤◌, refl, ⊎_elim, arith}
use Rattle.std.proofs.lemmas.Bool.{cases_lt}
use Rattle.sets.specs.declared.refusal.Refusal.{Refusal}
use Rattle.certificate.specs.Faults.{Earliest, Clear}

-- an offer in fault behind offers that are not is the first
pub least_offer : (n : ℕ) (P : ℕ → Type 0) (e : ℕ → Refusal) (x : ℕ) → (0 ≤ x) × (x < n) × P x × ((z : ℕ) → 0 ≤ z → z < x → P z → ⊥) →
    Earliest (λ y d. (y < n) × (d ≡ e y) × P y) (e x)
least_offer n P e x f =
    (x, (f.1, refl, f.2), λ q d g. ⊎_elim (λ (h : q < x). absurd (f.3 q (omega arith) h g.2)) (λ (h : x ≤ q). h) (cases_lt q x))

-- offers of which none is in fault
pub no_offer : (n : ℕ) (P : ℕ → Type 0) (e : ℕ → Refusal) → ((z : ℕ) → 0 ≤ z → z < n → P z → ⊥) → Clear (λ y d. (y < n) × (d ≡ e y) × P y)
no_offer n P e f q d g = f q (omega arith) g.0 g.2
