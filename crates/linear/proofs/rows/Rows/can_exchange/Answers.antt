-- Whether x can be added, and else the functional of y, tell.
use Rattle.std.proofs.Common.{not, eqb, sym, ap, ◌∙◌}
use Rattle.sets.specs.Bits.{marked}
use Rattle.linear.proofs.Answered.{exchanges, or_first, or_second}
use Rattle.linear.proofs.rows.Rows.can_exchange.Goals as goal

pub returns-then-can_add : goal.returns-then-can_add
returns-then-can_add c =
    let r = c.args.self.now in
    c.can_add.ensures
    ∙ or_first _ _ _ (sym c.can_add.ensures ∙ c.if-can_add.true)
    (exchanges r.file.now r.n r.prime r.len r.at r.well (marked c.args.set.now) c.args.state.now c.args.x c.args.y
    c.requires.ready c.requires.offers.0 c.requires.outside c.requires.offers.1 c.requires.inside)

pub returns-else-can_add : goal.returns-else-can_add
returns-else-can_add c =
    let r = c.args.self.now in
    ap (λ v. not (eqb v 0)) c.value.ensures
    ∙ or_second _ _ _ (sym c.can_add.ensures ∙ c.if-can_add.false)
    (exchanges r.file.now r.n r.prime r.len r.at r.well (marked c.args.set.now) c.args.state.now c.args.x c.args.y
    c.requires.ready c.requires.offers.0 c.requires.outside c.requires.offers.1 c.requires.inside)
