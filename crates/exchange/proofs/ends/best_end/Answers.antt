use Rattle.std.proofs.Common.{ℕ, ◌+◌, Option, sym, ◌∙◌, subst}
use Rattle.std.proofs.lemmas.Bool.{and_from, and_left, and_right}
use Rattle.sets.specs.Bits.{marked}
use Rattle.sets.specs.Matroid.{both}
use Rattle.exchange.specs.Round.{lost}
use Rattle.exchange.specs.Graph.{at}
use Rattle.exchange.proofs.Leasts.{SoFar, passed, stays, moves}
use Rattle.exchange.proofs.ends.best_end.Goals as goal
use Rattle.exchange.proofs.ends.best_end.Goals.{then-holds+then-holds-2+then-better_end, else-holds, else-holds-via-then-holds+then-holds-2+else-better_end, else-holds-via-then-holds+else-holds-2, else-holds-via-else-holds}

pub loop-x-preserved : goal.loop-x-preserved
loop-x-preserved c =
    let i = c.loop-x.x in
    let among = both (marked c.args.sinks.now) (marked c.args.reached.now) in
    let d = lost (at c.args.prices.now.weights.now) (at c.args.prices.now.potentials.now) (at c.args.costs.now) in
    let k = at c.args.steps.now in
    let Q : Option ℕ → Type 0 = SoFar (i + 1) among d k in
    let sink = marked c.args.sinks.now i in
    let there = marked c.args.reached.now i in
    elim c.if-holds.branch [
      | then-holds+then-holds-2+then-better_end w ↦
          subst Q (sym w.best-is)
          (moves i among d k c.loop-x.best w.better_end.result w.better_end.ensures w.if-better_end.true
          (and_from sink there (sym c.holds.ensures ∙ w.if-holds.true) (sym w.holds-then-holds.ensures ∙ w.if-holds-2.true))
          c.loop-x.invariant)
      | else-holds w ↦
          subst Q (sym w.best-is)
          (elim w.else-holds.branch [
            | else-holds-via-then-holds+then-holds-2+else-better_end w' ↦
                stays i among d k c.loop-x.best w'.better_end.result w'.better_end.ensures w'.if-better_end.false c.loop-x.invariant
            | else-holds-via-then-holds+else-holds-2 w' ↦
                passed i among d k c.loop-x.best (and_right sink there (sym w'.holds-then-holds.ensures ∙ w'.if-holds-2.false)) c.loop-x.invariant
            | else-holds-via-else-holds w' ↦
                passed i among d k c.loop-x.best (and_left sink there (sym c.holds.ensures ∙ w'.if-holds.false)) c.loop-x.invariant
          ])
    ]
