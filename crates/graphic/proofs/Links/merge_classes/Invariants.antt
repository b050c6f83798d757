use Rattle.graphic.proofs.Merging.{Merging}
use Rattle.graphic.proofs.Links.merge_classes.Given as goal

-- the towns below t are done, the others as they were
abbrev pub invariant-loop-t : goal.invariant-loop-t
invariant-loop-t l = Merging l.self.n l.old l.new l.t l.initial.state l.state
