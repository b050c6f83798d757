use Rattle.std.proofs.Common.{◌≡◌, ℕ, ◌<◌, get_or}
use Rattle.matroid.specs.Problem.{weight_of}
use Rattle.weighted.proofs.parts.load_weights.Given as goal

abbrev pub invariant-loop-x : goal.invariant-loop-x
invariant-loop-x l = (k : ℕ) → k < l.x → get_or l.weights k 0 ≡ weight_of l.offers.file.now k
