-- What a rule of a file allows, by its kind, and what is kept of a set between questions.
use Rattle.std.specs.Prelude.{◌≡◌, ℕ, ◌+◌, ◌*◌, ◌≤◌, Bool, true, List, length}
use Rattle.sets.specs.Bits.{row_words}
use Rattle.sets.specs.Matroid.{Set, Matroid}
use Rattle.matroid.specs.declared.rule.Rule.{Rule}
use Rattle.matroid.specs.declared.rule.Rule.TheVariants.{Limits, Volunteers, Links, Rows}
use Rattle.laminar.specs.Limits as laminar
use Rattle.transversal.specs.Volunteers as transversal
use Rattle.graphic.specs.Links as graphic
use Rattle.linear.specs.Rows as linear
use Rattle.linear.specs.Kept as linear_kept

-- the rule is well-formed in the file
abbrev pub Well : List ℕ → ℕ → Rule → Type 0
Well file n (Limits groups at) = laminar.Well file n groups at
Well file n (Volunteers volunteers at) = transversal.Well file n volunteers at
Well file n (Links towns at) = graphic.Well file n towns at
Well file n (Rows prime long at) = linear.Well file n prime long at

-- the rule allows the set, in the words of its kind
abbrev pub Allowed : List ℕ → ℕ → Rule → Set → Type 0
Allowed file n (Limits groups at) s = laminar.Allowed file n groups at s
Allowed file n (Volunteers volunteers at) s = transversal.Allowed file n volunteers at s
Allowed file n (Links towns at) s = graphic.Allowed file n towns at s
Allowed file n (Rows prime long at) s = linear.Allowed file n prime long at s

-- the same as a test
abbrev pub allows : List ℕ → ℕ → Rule → Set → Bool
allows file n (Limits groups at) s = laminar.allows file n groups at s
allows file n (Volunteers volunteers at) s = transversal.allows file n volunteers at s
allows file n (Links towns at) s = graphic.allows file n towns at s
allows file n (Rows prime long at) s = linear.allows file n prime long at s

-- how many words are kept for a set of n offers: enough for each kind
abbrev pub kept_length : ℕ → ℕ
kept_length n = 600 + 65 * n + (n + 601) * row_words n

-- what is kept is right for the set, by the rule's kind
abbrev pub Kept : List ℕ → ℕ → Rule → Set → List ℕ → Type 0
Kept file n (Limits groups at) s state = laminar.Ready file n groups at s state
Kept file n (Volunteers volunteers at) s state = transversal.Ready file n volunteers at s state
Kept file n (Links towns at) s state = graphic.Ready file n towns at s state
Kept file n (Rows prime long at) s state = linear_kept.Ready file n prime long at s state

-- and there is room for it
abbrev pub Ready : List ℕ → ℕ → Rule → Set → List ℕ → Type 0
Ready file n rule s state = (kept_length n ≤ length state) × Kept file n rule s state

-- every well-formed rule is a matroid
abbrev pub RulesMatroid : Type 0
RulesMatroid = (file : List ℕ) (n : ℕ) (rule : Rule) → Well file n rule → Matroid n (allows file n rule)

-- the test says what the rule allows in the words of its kind
abbrev pub RulesNatural : Type 0
RulesNatural =
    (file : List ℕ) (n : ℕ) (rule : Rule) (s : Set) → Well file n rule →
    (Allowed file n rule s → allows file n rule s ≡ true) × (allows file n rule s ≡ true → Allowed file n rule s)
