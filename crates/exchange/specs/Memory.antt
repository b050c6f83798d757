-- Lent memory: that it is long enough for n elements, and that it is the same as before.
use Rattle.std.specs.Prelude.{◌≡◌, ℕ, ◌+◌, ◌*◌, ◌≤◌, length}
use Rattle.sets.specs.Bits.{row_words}
use Rattle.matroid.specs.Rules.{kept_length}
use Rattle.matroid.specs.declared.offers.States.{States}
use Rattle.exchange.specs.declared.tables.ExchangeTables.{ExchangeTables}
use Rattle.exchange.specs.declared.paths.Workspace.{Workspace}
use Rattle.exchange.specs.Labelling.{LabelsFit, SameMemory}

-- room for the arcs, the sources and the sinks of a round
abbrev pub TablesFit : ℕ → ExchangeTables → Type 0
TablesFit n tables =
    (row_words n * n ≤ length tables.arcs.now) × (row_words n ≤ length tables.sources.now) × (row_words n ≤ length tables.sinks.now)

-- room for what is kept of a set by each of two rules
abbrev pub StatesFit : ℕ → States → Type 0
StatesFit n states = (kept_length n ≤ length states.first.now) × (kept_length n ≤ length states.second.now)

-- room for a whole round
pub record SpaceFits (n : ℕ) (space : Workspace) : Type 0 where
  pub states : StatesFit n space.states
  pub tables : TablesFit n space.tables
  pub labels : LabelsFit n space.labels
  pub dual : row_words n ≤ length space.dual.now

-- how many words that is
abbrev pub space_words : ℕ → ℕ
space_words n = 3 * n + (n + 5) * row_words n + 2 * kept_length n

-- the same lent memory, as long as before
abbrev pub SameTables : ExchangeTables → ExchangeTables → Type 0
SameTables s t =
    (t.arcs.ghost_name ≡ s.arcs.ghost_name) × (t.sources.ghost_name ≡ s.sources.ghost_name) × (t.sinks.ghost_name ≡ s.sinks.ghost_name) ×
    (length t.arcs.now ≡ length s.arcs.now) × (length t.sources.now ≡ length s.sources.now) × (length t.sinks.now ≡ length s.sinks.now)

abbrev pub SameStates : States → States → Type 0
SameStates s t =
    (t.first.ghost_name ≡ s.first.ghost_name) × (t.second.ghost_name ≡ s.second.ghost_name) ×
    (length t.first.now ≡ length s.first.now) × (length t.second.now ≡ length s.second.now)

pub record SameSpace (s t : Workspace) : Type 0 where
  pub states : SameStates s.states t.states
  pub tables : SameTables s.tables t.tables
  pub labels : SameMemory s.labels t.labels
  pub dual : (t.dual.ghost_name ≡ s.dual.ghost_name) × (length t.dual.now ≡ length s.dual.now)
