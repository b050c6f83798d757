use Rattle.std.proofs.Common.{not, ap, ◌∙◌}
use Rattle.matroid.specs.Rules.{allows}
use Rattle.sets.specs.Bits.{marked}
use Rattle.exchange.proofs.Arcs.{arc_inside, arc_outside}
use Rattle.exchange.proofs.tables.exchanged.Goals as goal

pub returns-then-inside : goal.returns-then-inside
returns-then-inside c =
    let f = allows c.args.oracle.now.file.now c.args.oracle.now.n c.args.oracle.now.rule in
    arc_inside f f (marked c.args.set.now) c.args.v c.args.u _ (c.requires.sides.0 ∙ c.if-inside.true)
    (c.requires.sides.1 ∙ ap not c.if-inside.true) c.can_exchange.ensures

pub returns-else-inside : goal.returns-else-inside
returns-else-inside c =
    let f = allows c.args.oracle.now.file.now c.args.oracle.now.n c.args.oracle.now.rule in
    arc_outside f f (marked c.args.set.now) c.args.v c.args.u _ (c.requires.sides.0 ∙ c.if-inside.false)
    (c.requires.sides.1 ∙ ap not c.if-inside.false) c.can_exchange-else-inside.ensures
