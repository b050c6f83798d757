-- The write changes one bit of one number.
use Rattle.std.proofs.Common.{◌+◌, ◌/◌, ◌%◌, ap}
use Rattle.sets.proofs.Cells.{element_with}
use Rattle.sets.proofs.bits.insert.Goals as goal

pub returns-clause-members : goal.returns-clause-members
returns-clause-members g c =
    let at = c.args.at in
    let i = c.args.i in
    let cell = g.T.Cell in
    let law = g.met.T.Cell in
    element_with cell.bit cell.EMPTY cell.BITS cell.element law.elements law.wide c.args.set.now at i _ _ _ _ c.requires (ap (λ w. at + i / w) c.BITS.ensures)
    (ap (λ w. i % w) c.BITS-2.ensures) c.index-set-k.is c.with.ensures
