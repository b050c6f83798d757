-- The labels stay small while they are made.
use Rattle.std.proofs.Common.{◌≡◌, ℕ, ◌+◌, ◌-◌, ◌*◌, ◌<◌, ◌≤◌, Bool, true, false, sym, ap, ◌∙◌, ⊎_elim, arith}
use Rattle.std.proofs.lemmas.Bool.{cases_Bool}
use Rattle.sets.specs.Matroid.{pick, Set}
use Rattle.exchange.specs.Round.{top, no_worse}
use Rattle.exchange.specs.Graph.{cost, bettered, Changed, Priced, SmallLabels}
use Rattle.exchange.proofs.Settling.{pick_true, pick_false, better_parts, or_false}

-- an arc's cost keeps the bound
pub arc_bound : (n : ℕ) (to : ℕ → ℕ → Bool) (s : Set) (w a : ℕ → ℕ) (m u d k : ℕ) → Priced n to s w a → m < n → u < n → to m u ≡ true →
    d + a m ≤ w m + k * top → d + cost s w a m u + a u ≤ w u + (k + 1) * top
unfolding cost
arc_bound n to s w a m u d k h p q t b =
    ⊎_elim
    (λ (i : s m ≡ true).
    let o = h.outward m u p q i t in
    let x : pick (s m) (a m - a u) ((w u + a m) - (w m + a u)) ≡ a m - a u = ap (λ (y : Bool). pick y (a m - a u) ((w u + a m) - (w m + a u))) i in
    omega (arith, h.light m p))
    (λ (i : s m ≡ false).
    let o = h.inward m u p q i t in
    let x : pick (s m) (a m - a u) ((w u + a m) - (w m + a u)) ≡ (w u + a m) - (w m + a u) = ap (λ (y : Bool). pick y (a m - a u) ((w u + a m) - (w m + a u))) i in
    omega arith)
    (cases_Bool (s m))

-- a turn keeps the bounds, with one element more settled
pub small_turn : (n : ℕ) (to : ℕ → ℕ → Bool) (s : Set) (w a : ℕ → ℕ) (done reached after : Set) (d k back e l ahead : ℕ → ℕ) (m p : ℕ) →
    Priced n to s w a → m < n → reached m ≡ true →
    ((u : ℕ) → u < n → Changed (λ u. d m + cost s w a m u) (k m + 1) m (bettered to (cost s w a) done reached d k m) reached after d k back e l ahead u) →
    SmallLabels n w a reached d k p → SmallLabels n w a after e l (p + 1)
small_turn n to s w a done reached after d k back e l ahead m p h below found each small u q r =
    let x = each u q in
    let which = bettered to (cost s w a) done reached d k m u in
    ⊎_elim
    (λ (b : which ≡ true).
    let parts = better_parts (to m u) (done u) (reached u) (no_worse (d u) (k u) (d m + cost s w a m u) (k m + 1)) b in
    let c : e u ≡ d m + cost s w a m u = pick_true which _ _ _ b x.costs in
    let f : l u ≡ k m + 1 = pick_true which _ _ _ b x.steps in
    let o = small m below found in
    let y = arc_bound n to s w a m u (d m) (k m) h below q parts.0 o.0 in
    (omega (arith, y, c, f), omega (arith, o.1, f)))
    (λ (b : which ≡ false).
    let c : e u ≡ d u = pick_false which _ _ _ b x.costs in
    let f : l u ≡ k u = pick_false which _ _ _ b x.steps in
    let o = small u q (sym (or_false (reached u) which (after u) b x.marks) ∙ r) in
    (omega (arith, o.0, c, f), omega (arith, o.1, f)))
    (cases_Bool which)
