-- Cheapest labels of the exchange graph are complete labels of a round.
use Rattle.std.proofs.Common.{◌≡◌, ℕ, ◌+◌, ◌-◌, ◌<◌, ◌≤◌, Bool, true, false, not, ◌&&◌, ap, subst, ⊎_elim, arith}
use Rattle.std.proofs.lemmas.Bool.{cases_lt, both_ways}
use Rattle.sets.specs.Matroid.{pick, Set, without, with}
use Rattle.exchange.specs.Round.{State, no_worse, Labels}
use Rattle.exchange.specs.Graph.{arc, addable, cost, Cheapest}

-- the order of labels stays where both costs grow by the same
before_lifted : (d k e l p q : ℕ) → q ≤ p → no_worse d k (e + (p - q)) l ≡ true → no_worse (d + q) k (e + p) l ≡ true
before_lifted d k e l p q h b = grind arith

module _ (n : ℕ) (f g : Set → Bool) (w a : ℕ → ℕ) (loss : ℕ) (s : Set) (state : State n f g w a loss s) where
  -- which arcs there are
  arc_out : (x y : ℕ) → s x ≡ false → s y ≡ true → g (with (without s y) x) ≡ true → arc f g s x y ≡ true
  unfolding arc
  arc_out x y hx hy h = plain (s x) (s y) (f (with (without s x) y)) (g (with (without s y) x)) hx hy h
    where
      plain : (p q a b : Bool) → p ≡ false → q ≡ true → b ≡ true → pick p (not q && a) (q && b) ≡ true
      plain p q a b h l i = grind arith

  -- out of the set by the first matroid
  arc_into : (y x : ℕ) → s y ≡ true → s x ≡ false → f (with (without s y) x) ≡ true → arc f g s y x ≡ true
  unfolding arc
  arc_into y x hy hx h = plain (s y) (s x) (f (with (without s y) x)) (g (with (without s x) y)) hy hx h
    where
      plain : (p q a b : Bool) → p ≡ true → q ≡ false → a ≡ true → pick p (not q && a) (q && b) ≡ true
      plain p q a b h l i = grind arith

  -- an arc into the set comes from outside, by the second matroid
  arc_from_out : (v y : ℕ) → s y ≡ true → arc f g s v y ≡ true → (s v ≡ false) × (g (with (without s y) v) ≡ true)
  unfolding arc
  arc_from_out v y hy h = plain (s v) (s y) (f (with (without s v) y)) (g (with (without s y) v)) hy h
    where
      plain : (p q a b : Bool) → q ≡ true → pick p (not q && a) (q && b) ≡ true → (p ≡ false) × (b ≡ true)
      plain p q a b h l = (grind arith, grind arith)

  -- an arc out of the set comes from inside, by the first matroid
  arc_from_into : (v x : ℕ) → s x ≡ false → arc f g s v x ≡ true → (s v ≡ true) × (f (with (without s v) x) ≡ true)
  unfolding arc
  arc_from_into v x hx h = plain (s v) (s x) (f (with (without s v) x)) (g (with (without s x) v)) hx h
    where
      plain : (p q a b : Bool) → q ≡ false → pick p (not q && a) (q && b) ≡ true → (p ≡ true) × (a ≡ true)
      plain p q a b h l = (grind arith, grind arith)

  -- a source can be added by the first matroid
  addable_from : (x : ℕ) → s x ≡ false → f (with s x) ≡ true → addable f s x ≡ true
  unfolding addable
  addable_from x h l = plain (s x) (f (with s x)) h l
    where
      plain : (p q : Bool) → p ≡ false → q ≡ true → (not p && q) ≡ true
      plain p q h l = grind arith

  -- .. and only a source can
  addable_tells : (x : ℕ) → addable f s x ≡ true → (s x ≡ false) × (f (with s x) ≡ true)
  unfolding addable
  addable_tells x h = plain (s x) (f (with s x)) h
    where
      plain : (p q : Bool) → (not p && q) ≡ true → (p ≡ false) × (q ≡ true)
      plain p q h = (grind arith, grind arith)

  -- what they cost
  cost_out : (x y : ℕ) → s x ≡ false → cost s w a x y ≡ (w y + a x) - (w x + a y)
  unfolding cost
  cost_out x y h = ap (λ (p : Bool). pick p (a x - a y) ((w y + a x) - (w x + a y))) h

  -- .. and out of the set
  cost_into : (y x : ℕ) → s y ≡ true → cost s w a y x ≡ a y - a x
  unfolding cost
  cost_into y x h = ap (λ (p : Bool). pick p (a y - a x) ((w x + a y) - (w y + a x))) h

  module _ (reached : Set) (d k back : ℕ → ℕ) (short : Cheapest n (arc f g s) (cost s w a) (addable f s) reached d k back) where
    -- an element of the set is no source, so it has a predecessor
    inner_steps : (y : ℕ) → y < n → s y ≡ true → reached y ≡ true → 1 < k y
    inner_steps y h held r = ⊎_elim (λ (l : 1 < k y). l)
        (λ (l : k y ≤ 1). absurd (both_ways (s y) (addable_tells y (short.begun y h r l).0).0 held))
        (cases_lt 1 (k y))

    -- cheapest labels of the exchange graph are complete labels
    pub labels_of_cheapest : Labels n f g w a s reached d k back
    labels_of_cheapest = record {
      start = λ x h out source. short.start x h (addable_from x out source);
      out = λ x y hx hy out held r arc.
          let p = short.step x y hx hy r (arc_out x y out held arc) in (
            p.0,
            before_lifted (d y) (k y) (d x) (k x + 1) (w y + a x) (w x + a y) (state.second_best y x hy hx held out arc)
                (subst (λ c. no_worse (d y) (k y) (d x + c) (k x + 1) ≡ true) (cost_out x y out) p.1),
          );
      into = λ y x hy hx held out r arc.
          let p = short.step y x hy hx r (arc_into y x held out arc) in (
            p.0,
            before_lifted (d x) (k x) (d y) (k y + 1) (a y) (a x) (state.first_best y x hy hx held out arc)
                (subst (λ c. no_worse (d x) (k x) (d y + c) (k y + 1) ≡ true) (cost_into y x held) p.1),
          );
      from_second = λ y h held r.
          let p = short.along y h r (inner_steps y h held r) in
          let q = arc_from_out (back y) y held p.2 in (
            p.0,
            q.0,
            p.1,
            q.1,
            sums (d y) (d (back y)) (cost s w a (back y) y) (w y + a (back y)) (w (back y) + a y) p.3 (cost_out (back y) y q.0)
                (state.second_best y (back y) h p.0 held q.0 q.1),
            p.4,
          );
      from_first = λ x h out r more.
          let p = short.along x h r more in
          let q = arc_from_into (back x) x out p.2 in (
            p.0,
            q.0,
            p.1,
            q.1,
            sums (d x) (d (back x)) (cost s w a (back x) x) (a (back x)) (a x) p.3 (cost_into (back x) x q.0)
                (state.first_best (back x) x p.0 h q.0 out q.1),
            p.4,
          );
      from_start = λ x h out r few. let p = short.begun x h r few in ((addable_tells x p.0).1, p.1);
    }
      where
        sums : (dy db c p q : ℕ) → dy ≡ db + c → c ≡ p - q → q ≤ p → dy + q ≡ db + p
        sums dy db c p q h e l = omega arith
