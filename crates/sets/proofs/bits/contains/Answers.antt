-- The number and the bit of i in the row are those of T.BITS * at + i.
use Rattle.std.proofs.Common.{◌+◌, ◌/◌, ◌%◌, ap}
use Rattle.sets.proofs.Cells.{element_read}
use Rattle.sets.proofs.bits.contains.Goals as goal

pub returns : goal.returns
returns g c =
    let at = c.args.at in
    let i = c.args.i in
    let cell = g.T.Cell in
    let law = g.met.T.Cell in
    element_read cell.bit cell.EMPTY cell.BITS cell.element law.elements law.wide c.args.set.now at i _ _ _ _ c.requires (ap (λ w. at + i / w) c.BITS.ensures)
    (ap (λ w. i % w) c.BITS-2.ensures) c.index-set-at.is c.has.ensures
