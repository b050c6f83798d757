-- The labels of the graph are the labels of the round; its path; the closed set where no sink is reached.
use Rattle.std.proofs.Common.{◌≡◌, ℕ, zero, suc, ◌+◌, ◌-◌, ◌<◌, ◌≤◌, Bool, true, false, not, ◌&&◌, List, is_some, Some, None, Option, sym, refl, ap, ◌∙◌, ⊎_elim, arith, MatchOption}
use Rattle.std.proofs.lemmas.Bool.{cases_Bool, cases_lt, both_ways, and_parts}
use Rattle.sets.specs.Bits.{marked}
use Rattle.sets.specs.Matroid.{pick, Set, with, without, both}
use Rattle.exchange.specs.Round.{no_worse, Labels, lost, End, behind, Closed}
use Rattle.exchange.specs.Graph.{cost, table, Tables, Priced, Cheapest, Least, Reaching}
use Rattle.exchange.proofs.Rounds.{addable_from, to_out, to_in, to_sides, from_out, from_in, source_parts, is_end, unreached}

-- a cost that is a difference, put on both sides
shifted : (d k e l c p q : ℕ) → p ≤ q → c ≡ q - p → no_worse d k (e + c) l ≡ true → no_worse (d + p) k (e + q) l ≡ true
shifted d k e l c p q h r b = grind arith

-- the cost of an arc out of the set
cost_out : (s : Set) (w a : ℕ → ℕ) (v u : ℕ) → s v ≡ true → cost s w a v u ≡ a v - a u
unfolding cost
cost_out s w a v u e = ap (λ (b : Bool). pick b (a v - a u) ((w u + a v) - (w v + a u))) e

-- the cost of an arc into the set
cost_in : (s : Set) (w a : ℕ → ℕ) (v u : ℕ) → s v ≡ false → cost s w a v u ≡ (w u + a v) - (w v + a u)
unfolding cost
cost_in s w a v u e = ap (λ (b : Bool). pick b (a v - a u) ((w u + a v) - (w v + a u))) e

module _ (n : ℕ) (f g : Set → Bool) (s : Set) (arcs sources sinks : List ℕ) (holds : Tables n f g s arcs sources sinks)
    (w a : ℕ → ℕ) (reached : Set) (d k back : ℕ → ℕ)
    (labels : Cheapest n (table n arcs) (cost s w a) (marked sources) reached d k back) where
  -- a source stands in its row
  source_there : (x : ℕ) → x < n → s x ≡ false → f (with s x) ≡ true → marked sources x ≡ true
  source_there x p o h = holds.each_source x p ∙ addable_from f s x o h

  -- the labels of the round
  pub are_labels : Priced n (table n arcs) s w a → Labels n f g w a s reached d k back
  are_labels pr = record {
    start = λ x p o h. labels.start x p (source_there x p o h);
    out = λ x y p q o i r h.
        let t = from_in n f g s arcs sources sinks holds x y p q o i h in
        let z = labels.step x y p q r t in
        (z.0, shifted (d y) (k y) (d x) (k x + 1) (cost s w a x y) (w x + a y) (w y + a x) (pr.inward x y p q o t) (cost_in s w a x y o) z.1);
    into = λ y x p q i o r h.
        let t = from_out n f g s arcs sources sinks holds y x p q i o h in
        let z = labels.step y x p q r t in
        (z.0, shifted (d x) (k x) (d y) (k y + 1) (cost s w a y x) (a x) (a y) (pr.outward y x p q i t) (cost_out s w a y x i) z.1);
    from_second = λ y p i r.
        ⊎_elim
        (λ (l : 1 < k y). second y p i r l)
        (λ (l : k y ≤ 1). absurd (both_ways (s y) (source_parts n f g s arcs sources sinks holds y p (labels.begun y p r l).0).0 i))
        (cases_lt 1 (k y));
    from_first = λ x p o r l.
        let z = labels.along x p r l in
        let i : s (back x) ≡ true = to_sides n f g s arcs sources sinks holds (back x) x z.0 p z.2 ∙ ap not o in
        let y = to_out n f g s arcs sources sinks holds (back x) x z.0 p z.2 i in
        let e = cost_out s w a (back x) x i in
        let b = pr.outward (back x) x z.0 p i z.2 in
        let dx = z.3 in
        (z.0, i, z.1, y.1, omega arith, z.4);
    from_start = λ x p o r l. let z = labels.begun x p r l in ((source_parts n f g s arcs sources sinks holds x p z.0).1, z.1);
  }
    where
      second : (y : ℕ) → y < n → s y ≡ true → reached y ≡ true → 1 < k y →
          (back y < n) × (s (back y) ≡ false) × (reached (back y) ≡ true) × (g (with (without s y) (back y)) ≡ true) ×
          (d y + (w (back y) + a y) ≡ d (back y) + (w y + a (back y))) × (k y ≡ k (back y) + 1)
      second y p i r l =
          let z = labels.along y p r l in
          let o : s (back y) ≡ false = to_sides n f g s arcs sources sinks holds (back y) y z.0 p z.2 ∙ ap not i in
          let x = to_in n f g s arcs sources sinks holds (back y) y z.0 p z.2 o in
          let e = cost_in s w a (back y) y o in
          let b = pr.inward (back y) y z.0 p o z.2 in
          let dy = z.3 in
          (z.0, o, z.1, x.1, omega arith, z.4)

  -- the path by predecessors stays below n
  pub path_step : (t : ℕ) → t < n → reached t ≡ true → (j : ℕ) → j < k t →
      (behind back t j < n) × (reached (behind back t j) ≡ true) × (k (behind back t j) + j ≡ k t)
  path_step t p r zero l = (p, r, omega arith)
  path_step t p r (suc j) l =
      let h = path_step t p r j (omega arith) in
      let e = h.2 in
      let z = labels.along (behind back t j) h.0 h.1 (omega arith) in
      let y = z.4 in
      (z.0, z.1, omega arith)

  -- where no sink is reached, the set from which the sinks are reached is closed and has no source
  pub is_closed : (u : Set) → ((x : ℕ) → x < n → both (marked sinks) reached x ≡ false) → Reaching n (table n arcs) (marked sinks) u → Closed n f g s u
  is_closed u none lead = record {
    sinks = λ x p o h. lead.sinks x p (holds.each_sink x p ∙ addable_from g s x o h);
    by_first = λ y x p q i o b h. lead.backwards y x p q (from_out n f g s arcs sources sinks holds y x p q i o h) b;
    by_second = λ y x p q i o b h. lead.backwards x y q p (from_in n f g s arcs sources sinks holds x y q p o i h) b;
    no_source = λ x p o h.
        ⊎_elim
        (λ (b : u x ≡ true).
        absurd (both_ways (reached x) (flip_false (reached x) (lead.least (λ v. not (reached v)) never backward x p b)) (labels.start x p (source_there x p o h)).0))
        (λ (b : u x ≡ false). b)
        (cases_Bool (u x));
  }
    where
      flip_false : (b : Bool) → not b ≡ true → b ≡ false
      flip_false true e = sym e
      flip_false false e = refl

      never : (x : ℕ) → x < n → marked sinks x ≡ true → not (reached x) ≡ true
      never x p h = not_both (marked sinks x) (reached x) (none x p) h
        where
          not_both : (b c : Bool) → (b && c) ≡ false → b ≡ true → not c ≡ true
          not_both b c e q = grind arith

      backward : (v x : ℕ) → v < n → x < n → table n arcs v x ≡ true → not (reached x) ≡ true → not (reached v) ≡ true
      backward v x p q t h =
          ⊎_elim
          (λ (r : reached v ≡ true). absurd (both_ways (reached x) (flip_false (reached x) h) (labels.step v x p q r t).0))
          (λ (r : reached v ≡ false). ap not r)
          (cases_Bool (reached v))

  -- what was found: a least sink among the reached, or none
  abbrev pub Ended : Option ℕ → Type 0
  Ended o = MatchOption o ((x : ℕ) → x < n → both (marked sinks) reached x ≡ false) (λ t. Least n (both (marked sinks) reached) (lost w a d) k t)

  -- the closed set where there is none, and the end where there is one
  pub none_ends : (u : Set) (o : Option ℕ) → is_some o ≡ false → Ended o → Reaching n (table n arcs) (marked sinks) u →
      MatchOption o (Closed n f g s u) (λ t. End n g w a s reached d k t)
  none_ends u None e h lead = is_closed u h lead
  none_ends u (Some t) e h lead = absurd (both_ways true e refl)

  -- .. where there is an end
  pub some_ends : (u : Set) (o : Option ℕ) → is_some o ≡ true → Ended o → MatchOption o (Closed n f g s u) (λ t. End n g w a s reached d k t)
  some_ends u None e h = absurd (both_ways false refl e)
  some_ends u (Some t) e h = is_end n f g s arcs sources sinks holds w a reached d k t h

  -- no sink is reached, or the path stays below n
  pub ends_within : (o : Option ℕ) → Ended o →
      MatchOption o ((x : ℕ) → x < n → s x ≡ false → g (with s x) ≡ true → reached x ≡ false) (λ t. (j : ℕ) → j < k t → behind back t j < n)
  ends_within None h = unreached n f g s arcs sources sinks holds reached h
  ends_within (Some t) h = λ j l. (path_step t h.0 (and_parts (marked sinks t) (reached t) h.1).1 j l).0
