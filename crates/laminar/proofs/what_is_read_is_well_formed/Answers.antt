use Rattle.std.proofs.Common.{ℕ, ◌+◌, Ok, sym, ap, ◌∙◌, subst}
use Rattle.laminar.specs.Limits.{Well}
use Rattle.laminar.proofs.Reading.{ok_well, well_ok}
use Rattle.laminar.proofs.what_is_read_is_well_formed.Goals as goal

pub returns : goal.returns
returns c file n p groups = (
  ok_well file n p groups,
  λ l e w. let P : ℕ → Type 0 = λ k. Well file n k (p + 1) in well_ok file n p l (subst P e w) ∙ ap Ok (sym e),
)
