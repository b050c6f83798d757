-- The exchange graph as a struct has it, and the lent words of a labelling. Assumes nothing: these are definitions.
use Rattle.std.specs.Prelude.{◌≡◌, ℕ, ◌≤◌, Bool, length}
use Rattle.sets.specs.Bits.{marked, row_words}
use Rattle.exchange.specs.declared.graph.Graph.{Graph}
use Rattle.exchange.specs.declared.labelling.Labelling.{Labelling}
use Rattle.exchange.specs.Graph.{at, cost, table}

-- the arcs of a graph, and what they cost
abbrev pub arcs_of : Graph → ℕ → ℕ → Bool
arcs_of g = table g.n g.arcs.now

abbrev pub costs_of : Graph → ℕ → ℕ → ℕ
costs_of g = cost (marked g.set.now) (at g.prices.weights.now) (at g.prices.potentials.now)

-- there is room for the labels of n elements
abbrev pub LabelsFit : ℕ → Labelling → Type 0
LabelsFit n l =
    (row_words n ≤ length l.reached.now) × (row_words n ≤ length l.settled.now) × (n ≤ length l.costs.now) × (n ≤ length l.steps.now) ×
    (n ≤ length l.back.now)

-- the same lent memory, as long as before
abbrev pub SameMemory : Labelling → Labelling → Type 0
SameMemory l m =
    (m.reached.ghost_name ≡ l.reached.ghost_name) × (m.settled.ghost_name ≡ l.settled.ghost_name) ×
    (m.costs.ghost_name ≡ l.costs.ghost_name) × (m.steps.ghost_name ≡ l.steps.ghost_name) × (m.back.ghost_name ≡ l.back.ghost_name) ×
    (length m.reached.now ≡ length l.reached.now) × (length m.settled.now ≡ length l.settled.now) ×
    (length m.costs.now ≡ length l.costs.now) × (length m.steps.now ≡ length l.steps.now) × (length m.back.now ≡ length l.back.now)
