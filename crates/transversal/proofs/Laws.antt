-- The natural reading and the test say the same, and a rule of volunteers is a matroid.
use Rattle.std.proofs.Common.{◌≡◌, ℕ, true, List, refl, arith}
use Rattle.sets.specs.Matroid.{Set, with, none, Hereditary, Augmentable}
use Rattle.transversal.specs.Volunteers.{can_tend, Allowed, allows, ReadingAgrees, VolunteersMatroid}
use Rattle.transversal.proofs.Matchings.{placed_tends, tends_placed, part_tends}
use Rattle.transversal.proofs.Augment.{grows}

-- where each offer has a volunteer of its own the test passes
pub allowed_passes : (file : List ℕ) (n volunteers at : ℕ) (s : Set) → Allowed file n volunteers at s → allows file n volunteers at s ≡ true
unfolding allows
allowed_passes file n volunteers at s a = tends_placed (can_tend file n at) volunteers n none s a.0 a.1 (λ x h p. refl)

-- where the test passes each offer has a volunteer of its own
pub passes_allowed : (file : List ℕ) (n volunteers at : ℕ) (s : Set) → allows file n volunteers at s ≡ true → Allowed file n volunteers at s
unfolding allows
passes_allowed file n volunteers at s e = let r = placed_tends (can_tend file n at) volunteers n none s e in (r.0, r.1)

-- the natural reading and the test say the same
pub natural : ReadingAgrees
natural file n volunteers at s = (allowed_passes file n volunteers at s, passes_allowed file n volunteers at s)

-- a rule of volunteers is a matroid
pub rule_matroid : VolunteersMatroid
unfolding Hereditary Augmentable
rule_matroid file n volunteers at w = record { empty = empty; hereditary = hereditary; augmentable = augmentable }
  where
    empty : allows file n volunteers at none ≡ true
    empty = allowed_passes file n volunteers at none
        (λ x. 0, record { there = λ x h p. absurd (grind arith); able = λ x h p. absurd (grind arith); apart = λ x y h k p. absurd (grind arith) })

    hereditary : Hereditary n (allows file n volunteers at)
    hereditary s t into e =
        let a = passes_allowed file n volunteers at t e in
        allowed_passes file n volunteers at s (a.0, part_tends (can_tend file n at) n volunteers t s a.0 a.1 into)

    augmentable : Augmentable n (allows file n volunteers at)
    augmentable s t es et less =
        let a = passes_allowed file n volunteers at s es in
        let b = passes_allowed file n volunteers at t et in
        let r = grows (can_tend file n at) n volunteers s t a.0 b.0 a.1 b.1 less in
        (r.0, r.1, r.2, r.3, allowed_passes file n volunteers at (with s r.0) r.4)
