-- The front is a repeated number.
use Rattle.std.proofs.Common.{rules}
use Rattle.std.proofs.lemmas.List.{places}
use Rattle.exchange.proofs.labelling.fill_front.Goals as goal

pub returns-clause-front : goal.returns-clause-front
returns-clause-front c = let e = c.fill.ensures.after (λ y h. h) in search (rules, places)
