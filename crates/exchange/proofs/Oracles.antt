-- What is said by the fields of an oracle is said by what they hold.
use Rattle.std.proofs.Common.{◌≡◌, ℕ, List, subst}
use Rattle.matroid.specs.declared.rule.Rule.{Rule}

pub by_fields : (P : List ℕ → ℕ → Rule → Type 0) (file' file : List ℕ) (n' n : ℕ) (rule' rule : Rule) → file' ≡ file → n' ≡ n → rule' ≡ rule →
    P file' n' rule' → P file n rule
by_fields P file' file n' n rule' rule d e r h =
    subst (λ x. P x n rule) d (subst (λ x. P file' x rule) e (subst (λ x. P file' n' x) r h))
