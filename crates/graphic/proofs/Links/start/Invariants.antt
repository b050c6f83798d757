use Rattle.std.proofs.Common.{◌≡◌, ℕ, ◌<◌}
use Rattle.graphic.specs.Links.{label}
use Rattle.graphic.proofs.Links.start.Given as goal

-- the towns before t have their labels
abbrev pub invariant-loop-t : goal.invariant-loop-t
invariant-loop-t l = (u : ℕ) → u < l.t → label l.label-items u ≡ u
