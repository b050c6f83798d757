-- Lent memory that is as long as before has as much room.
use Rattle.std.proofs.Common.{ℕ, ◌≤◌, sym, subst}
use Rattle.sets.specs.Bits.{row_words}
use Rattle.exchange.specs.declared.labelling.Labelling.{Labelling}
use Rattle.exchange.specs.Labelling.{LabelsFit, SameMemory}

-- room for labels, in the same memory
pub labels_still_fit : (n : ℕ) (l m : Labelling) → LabelsFit n l → SameMemory l m → LabelsFit n m
labels_still_fit n l m fit same = (
  subst (λ (z : ℕ). row_words n ≤ z) (sym same.5) fit.0,
  subst (λ (z : ℕ). row_words n ≤ z) (sym same.6) fit.1,
  subst (λ (z : ℕ). n ≤ z) (sym same.7) fit.2,
  subst (λ (z : ℕ). n ≤ z) (sym same.8) fit.3,
  subst (λ (z : ℕ). n ≤ z) (sym same.9) fit.4,
)
