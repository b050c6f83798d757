use Rattle.std.proofs.Common.{◌≡◌, ℕ, ◌+◌, ◌-◌, ◌<◌, ◌≤◌, Bool, List, sym, ap, ◌∙◌, arith}
use Rattle.matroid.specs.Rules.{allows}
use Rattle.matroid.specs.TwoRules.{by_first, by_second}
use Rattle.matroid.specs.declared.rule.Rule.{Rule}
use Rattle.sets.specs.Bits.{marked}
use Rattle.sets.specs.Matroid.{size, pick, Set}
use Rattle.exchange.specs.Graph.{table, arc}
use Rattle.exchange.proofs.Arcs.{arc_by_first, arc_by_second, rows_ask, rows_more, rows_small, pick_small}
use Rattle.exchange.proofs.Cells.{row_more}
use Rattle.exchange.proofs.Counting.{size_le}
use Rattle.exchange.proofs.Oracles.{by_fields}
use Rattle.exchange.proofs.tables.all_arcs.Goals as goal
use Rattle.exchange.proofs.tables.all_arcs.Goals.{then-holds, else-holds}

-- the count so far and one row's are small together
small : (s : Set) (n m v asked r : ℕ) → m ≡ n → n ≤ 600 → v < n → asked ≡ rows_ask s n (size n s) v →
    r ≡ pick (s v) (m - size m s) (size m s) → asked + r ≤ 720600
small s n m v asked r d p q h e =
    let one : r ≡ pick (s v) (n - size n s) (size n s) = rw d at e in
    let k = size_le n s in
    let a = rows_small s n (size n s) v p k (omega arith) in
    let b = pick_small (s v) n (size n s) p k in
    omega arith

pub overflow_add-asked : goal.overflow_add-asked
overflow_add-asked c =
    let l = small (marked c.args.set.now) c.args.offers.now.problem.n _ c.loop-v.v c.loop-v.asked c.arcs_from-asked.result
    c.first-first.ensures.count c.args.offers.now.few c.loop-v-test.true c.loop-v.invariant.1 c.arcs_from-asked.ensures.asked in
    omega arith

pub overflow_add-asked-else-holds : goal.overflow_add-asked-else-holds
overflow_add-asked-else-holds c =
    let l = small (marked c.args.set.now) c.args.offers.now.problem.n _ c.loop-v.v c.loop-v.asked c.arcs_from-asked-else-holds.result
    c.second-second.ensures.count c.args.offers.now.few c.loop-v-test.true c.loop-v.invariant.1 c.arcs_from-asked-else-holds.ensures.asked in
    omega arith

-- one row asked by a rule
abbrev Asked : Set → ℕ → List ℕ → List ℕ → ℕ → List ℕ → ℕ → Rule → Type 0
Asked s v old new r file n rule =
    ((u : ℕ) → u < n → table n new v u ≡ arc (allows file n rule) (allows file n rule) s v u)
    × ((i u : ℕ) → i < n → u < n → (i ≡ v → ⊥) → table n new i u ≡ table n old i u)
    × (r ≡ pick (s v) (n - size n s) (size n s))

-- the invariant with one row more, where the table and the count go by other names
step : (n : ℕ) (f g : Set → Bool) (s : Set) (v : ℕ) (old new now : List ℕ) (asked r total : ℕ) → v < n → now ≡ new → total ≡ asked + r →
    ((u : ℕ) → u < n → table n new v u ≡ arc f g s v u) →
    ((i u : ℕ) → i < n → u < n → (i ≡ v → ⊥) → table n new i u ≡ table n old i u) →
    r ≡ pick (s v) (n - size n s) (size n s) →
    ((i u : ℕ) → i < v → u < n → table n old i u ≡ arc f g s i u) × (asked ≡ rows_ask s n (size n s) v) →
    ((i u : ℕ) → i < v + 1 → u < n → table n now i u ≡ arc f g s i u) × (total ≡ rows_ask s n (size n s) (v + 1))
step n f g s v old new now asked r total p e t here rest asks inv = (
  λ i u q h. ap (λ (x : List ℕ). table n x i u) e ∙ row_more n old new v (arc f g s) p here rest inv.0 i u q h,
  t ∙ rows_more s n (size n s) v asked r inv.1 asks,
)

pub loop-v-preserved : goal.loop-v-preserved
loop-v-preserved c =
    let n = c.args.offers.now.problem.n in
    let f = by_first c.args.offers.now.file.now c.args.offers.now.problem in
    let g = by_second c.args.offers.now.file.now c.args.offers.now.problem in
    let s = marked c.args.set.now in
    let v = c.loop-v.v in
    elim c.if-holds.branch [
      | then-holds w ↦
          let row = by_fields (Asked s v c.loop-v.arcs w.arcs_from-asked.new.arcs w.arcs_from-asked.result) _ _ _ _ _ _
          c.first-first.ensures.file c.first-first.ensures.count c.first-first.ensures.rule
          (w.arcs_from-asked.ensures.row, w.arcs_from-asked.ensures.rest, w.arcs_from-asked.ensures.asked) in
          step n f g s v c.loop-v.arcs w.arcs_from-asked.new.arcs c.if-holds.arcs c.loop-v.asked w.arcs_from-asked.result
          c.if-holds.asked c.loop-v-test.true w.arcs-is w.asked-is
          (λ u p. row.0 u p ∙ arc_by_first f g s v u (sym c.holds.ensures ∙ w.if-holds.true))
          row.1 row.2 c.loop-v.invariant
      | else-holds w ↦
          let row = by_fields (Asked s v c.loop-v.arcs w.arcs_from-asked-else-holds.new.arcs w.arcs_from-asked-else-holds.result) _ _ _ _ _ _
          c.second-second.ensures.file c.second-second.ensures.count c.second-second.ensures.rule
          (w.arcs_from-asked-else-holds.ensures.row, w.arcs_from-asked-else-holds.ensures.rest, w.arcs_from-asked-else-holds.ensures.asked) in
          step n f g s v c.loop-v.arcs w.arcs_from-asked-else-holds.new.arcs c.if-holds.arcs c.loop-v.asked
          w.arcs_from-asked-else-holds.result c.if-holds.asked c.loop-v-test.true w.arcs-is w.asked-is
          (λ u p. row.0 u p ∙ arc_by_second f g s v u (sym c.holds.ensures ∙ w.if-holds.false))
          row.1 row.2 c.loop-v.invariant
    ]
