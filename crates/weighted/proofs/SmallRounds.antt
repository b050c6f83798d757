-- The theorems on rounds at two small matroids on three elements.
use Rattle.std.proofs.Common.{true, refl, arith}
use Rattle.sets.specs.Matroid.{none}
use Rattle.matroid.specs.Examples.{left, right, price, middle, outer}
use Rattle.matroid.proofs.SmallMatroids.{small_matroids}
use Rattle.exchange.specs.Examples.{costs, steps, earlier, coming, going}
use Rattle.exchange.proofs.SmallPaths.{light, small_labelled, small_path, small_dual}
use Rattle.weighted.specs.Examples.{SmallRound, SmallState, SmallExistence, SmallConverses}
use Rattle.weighted.proofs.Converses.{heaviest_splits, paths_augment, no_path_largest}
use Rattle.weighted.proofs.Existence.{states_exist, dual_exists, heaviest_gains_never_rise}
use Rattle.weighted.proofs.LabelsExist.{labels_exist}
use Rattle.weighted.proofs.Rounds.{round, best_next, state_splits, state_heaviest}

-- the round after 1 is chosen, and the same by its path
pub small_round : SmallRound
small_round = (
  round 3 left right price (λ x. 0) 999995 middle (λ x. true) costs steps earlier 0 small_matroids.0 small_matroids.1 light
      small_labelled.0 small_labelled.1 small_labelled.2,
  best_next 3 left right price (λ x. 0) 999995 middle (λ x. true) costs steps earlier 0 1 coming going small_matroids.0 small_matroids.1 light
      small_labelled.0 small_labelled.1 small_labelled.2 small_path.0,
)

-- what the state of 1 says
pub small_state : SmallState
small_state = (
  state_splits 3 left right price (λ x. 0) 999995 middle small_matroids.0 small_matroids.1 small_labelled.0,
  (λ t lt rt same. state_heaviest 3 left right price (λ x. 0) 999995 middle t small_matroids.0 small_matroids.1 small_labelled.0 lt rt same),
)

-- what exists at the two small matroids, and their gains
pub small_existence : SmallExistence
small_existence = (
  labels_exist 3 left right price (λ x. 0) 999995 middle small_labelled.0,
  states_exist 3 left right price outer small_matroids.0 small_matroids.1 light refl refl 2 (omega arith),
  dual_exists 3 left right small_matroids.0 small_matroids.1,
  heaviest_gains_never_rise 3 left right price none middle outer small_matroids.0 small_matroids.1 light refl refl refl refl refl refl refl refl
      small_state.1,
)

-- what a heaviest and a largest choice must have
pub small_converses : SmallConverses
small_converses = (
  heaviest_splits 3 left right price middle small_matroids.0 small_matroids.1 light refl refl small_state.1,
  paths_augment 3 left right middle 1 coming going small_matroids.0 small_matroids.1 refl refl small_path.0.path,
  (λ t lt rt. no_path_largest 3 left right outer t small_matroids.0 small_matroids.1 refl refl small_dual.0 lt rt),
)
