-- Dual sets: sets closed backwards from the sinks, and the elements that lead to a sink.
use Rattle.std.proofs.Common.{◌≡◌, ℕ, zero, suc, ◌<◌, ◌≤◌, Bool, true, false, not, ◌&&◌, ◌⊎◌, sym, refl, subst, inl, inr, ⊎_elim, arith}
use Rattle.std.proofs.lemmas.Bool.{cases_lt, both_ways}
use Rattle.sets.specs.Matroid.{Set, size, both, outside, without, with, Within, Matroid}
use Rattle.sets.proofs.FiniteSets.{part_as_large}
use Rattle.sets.proofs.MatroidLaws.{allowed_within}
use Rattle.matroid.proofs.OneMatroid.{exchange}
use Rattle.exchange.specs.Round.{Closed}
use Rattle.exchange.specs.Paths.{Augmenting, DualByClosed, LeadsOutside, LeadsInside, Leading, DualByNoPath}

-- what can be added to a part of a set can be added to the set, or come for an element outside of the part
part_exchange : (n : ℕ) (f : Set → Bool) (s part : Set) (x : ℕ) → Matroid n f → f s ≡ true → Within n part s → s x ≡ false →
    f (with part x) ≡ true → (f (with s x) ≡ true) ⊎ ((y : ℕ) × (y < n) × (s y ≡ true) × (part y ≡ false) × (f (with (without s y) x) ≡ true))
part_exchange n f s part x law allowed inside out h = ⊎_elim
    (λ (small : size n part < size n s). inr (exchange n f s part x law allowed inside small out h))
    (λ (large : size n s ≤ size n part).
    let whole : Within n s part = part_as_large n part s inside large in
    inl (allowed_within law (with s x) (with part x) (λ v l e. more v l e (whole v l)) h))
    (cases_lt (size n part) (size n s))
  where
    more : (v : ℕ) → v < n → with s x v ≡ true → (s v ≡ true → part v ≡ true) → with part x v ≡ true
    more v l e h = grind arith

-- a set closed backwards from the sinks, with no source in it, is a dual set
pub dual_by_closed : DualByClosed
dual_by_closed n f g s u first second fs gs closed = record {
  first = fs;
  second = gs;
  full_in = λ x h inu out. refute (f (with (both s u) x)) (λ yes'. ⊎_elim
      (λ (source : f (with s x) ≡ true). both_ways (u x) (closed.no_source x h out source) inu)
      (λ e. let held : s e.0 ≡ true = e.2 in
      let rest : (s e.0 && u e.0) ≡ false = e.3 in
      let in' : u e.0 ≡ true = closed.by_first e.0 x e.1 h e.2 out inu e.4 in
      clash (s e.0) (u e.0) held in' rest)
      (part_exchange n f s (both s u) x first fs (λ v l p. front (s v) (u v) p) out yes'));
  full_out = λ x h outu out. refute (g (with (outside s u) x)) (λ yes'. ⊎_elim
      (λ (sink : g (with s x) ≡ true). both_ways (u x) outu (closed.sinks x h out sink))
      (λ e. let held : s e.0 ≡ true = e.2 in
      let rest : (s e.0 && not (u e.0)) ≡ false = e.3 in
      let in' : u x ≡ true = closed.by_second e.0 x e.1 h e.2 out (stays (s e.0) (u e.0) held rest) e.4 in
      both_ways (u x) outu in')
      (part_exchange n g s (outside s u) x second gs (λ v l p. front (s v) (not (u v)) p) out yes'));
}
  where
    refute : (b : Bool) → (b ≡ true → ⊥) → b ≡ false
    refute b h = grind arith

    front : (p q : Bool) → (p && q) ≡ true → p ≡ true
    front p q h = grind arith

    clash : (p q : Bool) → p ≡ true → q ≡ true → (p && q) ≡ false → ⊥
    clash p q h l e = grind arith

    stays : (p q : Bool) → p ≡ true → (p && not q) ≡ false → q ≡ true
    stays p q h e = grind arith

-- one element in front of a sequence
abbrev ahead : ℕ → (ℕ → ℕ) → ℕ → ℕ
ahead z x zero = z
ahead z x (suc i) = x i

module _ (n : ℕ) (f g : Set → Bool) (s : Set) where
  -- a sink leads to itself
  pub sink_leads : (z : ℕ) → z < n → s z ≡ false → g (with s z) ≡ true → LeadsOutside n f g s z
  sink_leads z h out sink = (
    0,
    (λ i. z),
    (λ i. z),
    record {
      x_below = λ i l. h;
      x_fresh = λ i l. out;
      y_below = λ i l. h;
      y_held = λ i l. absurd (omega arith);
      by_second = λ i l. absurd (omega arith);
      by_first = λ i l. absurd (omega arith);
      sink = sink;
    },
    refl,
  )

  -- an element of the set leads where one outside leads that can come for it by the first matroid
  pub inside_by : (z v : ℕ) → f (with (without s z) v) ≡ true → LeadsOutside n f g s v → LeadsInside n f g s z
  inside_by z v arc way = (way.0, way.1, way.2, way.3, subst (λ u. f (with (without s z) u) ≡ true) (sym way.4) arc)

  -- an element outside leads where one of the set leads for which it can come by the second
  pub outside_by : (z v : ℕ) → z < n → v < n → s z ≡ false → s v ≡ true → g (with (without s v) z) ≡ true → LeadsInside n f g s v → LeadsOutside n f g s z
  outside_by z v hz hv out held arc way = (
    suc way.0,
    ahead z way.1,
    ahead v way.2,
    record {
      x_below = elim [ zero ↦ λ l. hz | suc i ↦ λ l. way.3.x_below i (omega arith) ];
      x_fresh = elim [ zero ↦ λ l. out | suc i ↦ λ l. way.3.x_fresh i (omega arith) ];
      y_below = elim [ zero ↦ λ l. hv | suc i ↦ λ l. way.3.y_below i (omega arith) ];
      y_held = elim [ zero ↦ λ l. held | suc i ↦ λ l. way.3.y_held i (omega arith) ];
      by_second = elim [ zero ↦ λ l. arc | suc i ↦ λ l. way.3.by_second i (omega arith) ];
      by_first = elim [ zero ↦ λ l. way.4 | suc i ↦ λ l. way.3.by_first i (omega arith) ];
      sink = way.3.sink;
    },
    refl,
  )

  -- where there is no path, what leads to a sink is closed and has no source
  pub leading_closed : (u : Set) → ((k : ℕ) (x y : ℕ → ℕ) → Augmenting n f g s k x y → ⊥) → Leading n f g s u → Closed n f g s u
  leading_closed u never lead = record {
    sinks = λ x h out sink. lead.all_outside x h out (sink_leads x h out sink);
    by_first = λ y x hy hx held out inu arc. lead.all_inside y hy held (inside_by y x arc (lead.outside_leads x hx out inu));
    by_second = λ y x hy hx held out inu arc. lead.all_outside x hx out (outside_by x y hx hy out held arc (lead.inside_leads y hy held inu));
    no_source = λ x h out source. refute (u x) (λ inu.
        let way = lead.outside_leads x h out inu in
        never way.0 way.1 way.2 (record { source = subst (λ v. f (with s v) ≡ true) (sym way.4) source; route = way.3 }));
  }
    where
      refute : (b : Bool) → (b ≡ true → ⊥) → b ≡ false
      refute b h = grind arith

-- where there is no augmenting path, what leads to a sink is a dual set
pub dual_by_no_path : DualByNoPath
dual_by_no_path n f g s u first second fs gs never lead = dual_by_closed n f g s u first second fs gs (leading_closed n f g s u never lead)
