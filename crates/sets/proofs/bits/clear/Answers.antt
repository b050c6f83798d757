-- A row of empty numbers has no elements.
use Rattle.std.proofs.Common.{rules}
use Rattle.std.proofs.lemmas.List.{places}
use Rattle.sets.proofs.Cells.{row_empty}
use Rattle.sets.proofs.bits.clear.Goals as goal

pub fill-requires : goal.fill-requires
fill-requires g c = (g.met.T.Cell.copies _).0

pub returns-clause-zeros : goal.returns-clause-zeros
returns-clause-zeros g c = let e = c.fill.ensures.after (g.met.T.Cell.copies _).1 in search (rules, places)

pub returns-clause-members : goal.returns-clause-members
returns-clause-members g c =
    let cell = g.T.Cell in
    let law = g.met.T.Cell in
    let e = c.fill.ensures.after (law.copies _).1 in
    row_empty cell.bit cell.EMPTY cell.BITS cell.element law.elements law.wide _ c.args.at c.args.len law.blank (λ p h. search (rules, places))
