-- When the numbers of an offer are in fault.
use Rattle.std.proofs.Common.{◌≡◌, ℕ, Bool, true, false, ℤ, pos, ◌+ℤ◌, Decides, refl, inr, ⊎_elim, arith}
use Rattle.std.proofs.lemmas.Bool.{both_ways, false≢true}
use Rattle.sets.specs.Matroid.{Set, with, without, Matroid}
use Rattle.sets.proofs.MatroidLaws.{allowed_within}
use Rattle.certificate.specs.Faults.{Outdoes, Outbids, Misjudged, unequal, first, second}

-- what can be added can come for any chosen one, so to outbid is to outdo
pub outbids_outdoes : (n : ℕ) (f : Set → Bool) (p : ℕ → ℤ) (s : Set) (x : ℕ) → Matroid n f → Outbids n f p s x → Outdoes n f p s x
outbids_outdoes n f p s x m o = (
  o.0,
  o.1,
  o.2,
  o.3,
  ⊎_elim
      (λ (a : f (with s x) ≡ true). allowed_within m (with (without s o.0) x) (with s x) (λ v l u. grind arith) a)
      (λ (a : f (with (without s o.0) x) ≡ true). a)
      o.4,
)

-- to outdo is to outbid
pub outdoes_outbids : (n : ℕ) (f : Set → Bool) (p : ℕ → ℤ) (s : Set) (x : ℕ) → Outdoes n f p s x → Outbids n f p s x
outdoes_outbids n f p s x o = (o.0, o.1, o.2, o.3, inr o.4)

module _ (n : ℕ) (f g : Set → Bool) (w : ℕ → ℕ) (p q : ℕ → ℤ) (s : Set) (x : ℕ) where
  -- the sum decides where it is wrong
  pub judged_by_sum : (r : Bool) → Decides r (p x +ℤ q x ≡ pos (w x)) → r ≡ false → Decides true (Misjudged n f g w p q s x)
  judged_by_sum r d e = (λ _. unequal (λ h. both_ways r e (d.1 h)), λ _. refl)

  -- a chosen offer has its sum alone to be judged by
  chosen_right : s x ≡ true → p x +ℤ q x ≡ pos (w x) → Misjudged n f g w p q s x → ⊥
  chosen_right i e (unequal h) = h e
  chosen_right i e (first o b) = both_ways (s x) o i
  chosen_right i e (second o b) = both_ways (s x) o i

  -- so a chosen offer whose sum is right is not in fault
  pub judged_chosen : s x ≡ true → p x +ℤ q x ≡ pos (w x) → Decides false (Misjudged n f g w p q s x)
  judged_chosen i e = (λ h. absurd (false≢true h), λ m. absurd (chosen_right i e m))

  -- where an offer does not outdo a chosen one by the first rule, the second decides
  left_second : Matroid n f → Matroid n g → p x +ℤ q x ≡ pos (w x) → (Outdoes n f p s x → ⊥) → Misjudged n f g w p q s x → Outdoes n g q s x
  left_second mf mg e no_first (unequal h) = absurd (h e)
  left_second mf mg e no_first (first o b) = absurd (no_first (outbids_outdoes n f p s x mf b))
  left_second mf mg e no_first (second o b) = outbids_outdoes n g q s x mg b

  -- an offer that the first rule leaves is in fault where it outdoes a chosen one by the second
  pub judged_second : Matroid n f → Matroid n g → s x ≡ false → p x +ℤ q x ≡ pos (w x) → (Outdoes n f p s x → ⊥) → (r : Bool) →
      Decides r (Outdoes n g q s x) → Decides r (Misjudged n f g w p q s x)
  judged_second mf mg o e no_first r d =
      (λ h. second o (outdoes_outbids n g q s x (d.0 h)), λ m. d.1 (left_second mf mg e no_first m))
