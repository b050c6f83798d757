-- The two sides of a dual set: what a set has inside of it and what it has outside.
use Rattle.std.proofs.Common.{◌≡◌, ℕ, Bool, true, false, Decides, sym, ◌∙◌}
use Rattle.std.proofs.lemmas.Bool.{both_ways}
use Rattle.sets.specs.Matroid.{Set, both, outside, with}
use Rattle.certificate.specs.Faults.{Joins, within, beyond}

module _ (f g : Set → Bool) (s u : Set) (x : ℕ) where
  -- on either side the rule of that side decides
  by_inner : u x ≡ true → Joins f g s u x → f (with (both s u) x) ≡ true
  by_inner i (within a o h) = h
  by_inner i (beyond a o h) = absurd (both_ways (u x) a i)

  -- inside of the dual set the first rule decides
  pub joins_within : u x ≡ true → s x ≡ false → (r : Bool) → r ≡ f (with (both s u) x) → Decides r (Joins f g s u x)
  joins_within i o r e = (λ h. within i o (sym e ∙ h), λ j. e ∙ by_inner i j)

  -- the same outside, by the second rule
  by_outer : u x ≡ false → Joins f g s u x → g (with (outside s u) x) ≡ true
  by_outer i (within a o h) = absurd (both_ways (u x) i a)
  by_outer i (beyond a o h) = h

  -- outside of the dual set the second rule decides
  pub joins_beyond : u x ≡ false → s x ≡ false → (r : Bool) → r ≡ g (with (outside s u) x) → Decides r (Joins f g s u x)
  joins_beyond i o r e = (λ h. beyond i o (sym e ∙ h), λ j. e ∙ by_outer i j)
