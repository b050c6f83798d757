-- The byte that stands for each kind of rule in a file.
use Rattle.std.specs.Prelude.{◌≡◌, ℕ, ◌<◌, ◌⊎◌, Result, MatchResult}
use Rattle.matroid.specs.declared.rule.Kind.{Kind}
use Rattle.matroid.specs.declared.rule.Kind.TheVariants.{Limits, Volunteers, Links, Rows}
use Rattle.matroid.specs.declared.rule.UnknownKind.{UnknownKind}

abbrev pub byte_of : Kind → ℕ
byte_of Limits = 1
byte_of Volunteers = 2
byte_of Links = 3
byte_of Rows = 4

-- the kind with this byte, or no kind has it
abbrev pub Coded : ℕ → Result Kind UnknownKind → Type 0
Coded byte result = MatchResult result (λ kind. byte ≡ byte_of kind) (λ e. (byte ≡ 0) ⊎ (4 < byte))
