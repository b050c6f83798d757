-- Rows of the same numbers have the same elements.
use Rattle.std.proofs.Common.{rules}
use Rattle.std.proofs.lemmas.List.{places}
use Rattle.sets.proofs.Cells.{row_same}
use Rattle.sets.proofs.bits.copy.Goals as goal

pub returns-clause-members : goal.returns-clause-members
returns-clause-members g c =
    let cell = g.T.Cell in
    let law = g.met.T.Cell in
    row_same cell.bit cell.EMPTY cell.BITS cell.element law.elements law.wide c.args.from.now _ c.args.at c.args.to c.args.len (λ p h. search (rules, places))
