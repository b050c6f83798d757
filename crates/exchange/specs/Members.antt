-- The elements of one row outside of another, one by one.
use Rattle.std.specs.Prelude.{◌≡◌, ℕ, ◌+◌, IfSome, Option}
use Rattle.exchange.specs.Rows.{First}
use Rattle.exchange.specs.declared.rows.Members.{Members}
use Rattle.sets.specs.Bits.{marked, word_row}
use Rattle.sets.specs.Matroid.{Set, outside}

-- what the rows say of an element
abbrev pub members_of : Members → Set
members_of s = outside (word_row s.row.now s.at) (marked s.other.now)

-- the next one, or that there is none; the rows stay
abbrev pub NextMember : Members → Option ℕ → Members → Type 0
NextMember s r t =
    (t.row ≡ s.row) × (t.at ≡ s.at) × (t.other ≡ s.other) × (t.n ≡ s.n)
    × First (members_of s) s.from s.n r × IfSome r (λ x. t.from ≡ x + 1)
