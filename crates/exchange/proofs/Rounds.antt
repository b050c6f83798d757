-- From what the tables and the labels of the graph hold to the labels, the end and the closed set of a round.
use Rattle.std.proofs.Common.{◌≡◌, ℕ, ◌*◌, ◌<◌, ◌≤◌, Bool, true, false, not, ◌&&◌, List, sym, refl, ap, ◌∙◌, ⊎_elim, arith}
use Rattle.std.proofs.lemmas.Bool.{cases_Bool, both_ways, and_parts, and_from}
use Rattle.sets.specs.Bits.{marked}
use Rattle.sets.specs.Matroid.{pick, Set, with, without, both}
use Rattle.exchange.specs.Round.{top, State, lost, End}
use Rattle.exchange.specs.Graph.{arc, addable, table, Tables, Priced, Least}

-- an addable element is outside and allowed, and so the other way round
addable_parts : (f : Set → Bool) (s : Set) (x : ℕ) → addable f s x ≡ true → (s x ≡ false) × (f (with s x) ≡ true)
unfolding addable
addable_parts f s x h = let p = and_parts (not (s x)) (f (with s x)) h in (opposite (s x) p.0, p.1)
  where
    opposite : (b : Bool) → not b ≡ true → b ≡ false
    opposite true e = sym e
    opposite false e = refl

-- an outside element that the test allows can be added
pub addable_from : (f : Set → Bool) (s : Set) (x : ℕ) → s x ≡ false → f (with s x) ≡ true → addable f s x ≡ true
unfolding addable
addable_from f s x p q = ap (λ (b : Bool). not b && f (with s x)) p ∙ q

-- an arc, taken apart by the side of its tail and of its head
out_parts : (b c x y : Bool) → pick b (not c && x) (c && y) ≡ true → b ≡ true → (c ≡ false) × (x ≡ true)
out_parts true true x y h e = absurd (both_ways false refl h)
out_parts true false x y h e = (refl, h)
out_parts false c x y h e = absurd (both_ways false refl e)

-- .. from outside
in_parts : (b c x y : Bool) → pick b (not c && x) (c && y) ≡ true → b ≡ false → (c ≡ true) × (y ≡ true)
in_parts true c x y h e = absurd (both_ways true e refl)
in_parts false true x y h e = (refl, h)
in_parts false false x y h e = absurd (both_ways false refl h)

-- tail and head are on different sides
tail_side : (b c x y : Bool) → pick b (not c && x) (c && y) ≡ true → b ≡ not c
tail_side true true x y h = sym h
tail_side true false x y h = refl
tail_side false true x y h = refl
tail_side false false x y h = h

module _ (n : ℕ) (f g : Set → Bool) (s : Set) (arcs sources sinks : List ℕ) (holds : Tables n f g s arcs sources sinks) where
  -- an arc of the table from inside
  pub to_out : (v u : ℕ) → v < n → u < n → table n arcs v u ≡ true → s v ≡ true → (s u ≡ false) × (f (with (without s v) u) ≡ true)
  unfolding arc
  to_out v u p q t e = out_parts (s v) (s u) (f (with (without s v) u)) (g (with (without s u) v)) (sym (holds.each_arc v u p q) ∙ t) e

  -- an arc of the table from outside
  pub to_in : (v u : ℕ) → v < n → u < n → table n arcs v u ≡ true → s v ≡ false → (s u ≡ true) × (g (with (without s u) v) ≡ true)
  unfolding arc
  to_in v u p q t e = in_parts (s v) (s u) (f (with (without s v) u)) (g (with (without s u) v)) (sym (holds.each_arc v u p q) ∙ t) e

  -- an arc of the table joins different sides
  pub to_sides : (v u : ℕ) → v < n → u < n → table n arcs v u ≡ true → s v ≡ not (s u)
  unfolding arc
  to_sides v u p q t = tail_side (s v) (s u) (f (with (without s v) u)) (g (with (without s u) v)) (sym (holds.each_arc v u p q) ∙ t)

  -- an exchange by the first test is an arc of the table
  pub from_out : (v u : ℕ) → v < n → u < n → s v ≡ true → s u ≡ false → f (with (without s v) u) ≡ true → table n arcs v u ≡ true
  unfolding arc
  from_out v u p q a b c =
      holds.each_arc v u p q ∙ ap (λ (x : Bool). pick x (not (s u) && f (with (without s v) u)) (s u && g (with (without s u) v))) a
      ∙ ap (λ (x : Bool). not x && f (with (without s v) u)) b ∙ c

  -- an exchange by the second test is an arc of the table
  pub from_in : (v u : ℕ) → v < n → u < n → s v ≡ false → s u ≡ true → g (with (without s u) v) ≡ true → table n arcs v u ≡ true
  unfolding arc
  from_in v u p q a b c =
      holds.each_arc v u p q ∙ ap (λ (x : Bool). pick x (not (s u) && f (with (without s v) u)) (s u && g (with (without s u) v))) a
      ∙ ap (λ (x : Bool). x && g (with (without s u) v)) b ∙ c

  -- a source of its row is outside and can be added
  pub source_parts : (x : ℕ) → x < n → marked sources x ≡ true → (s x ≡ false) × (f (with s x) ≡ true)
  source_parts x p h = addable_parts f s x (sym (holds.each_source x p) ∙ h)

  -- no arc of the tables has a negative cost, and the sources have no potential
  pub priced : (w a : ℕ → ℕ) (loss : ℕ) → State n f g w a loss s → loss ≤ 601 * top → ((x : ℕ) → x < n → w x ≤ top) → Priced n (table n arcs) s w a
  priced w a loss st l light = record {
    outward = λ v u p q e t. let x = to_out v u p q t e in st.first_best v u p q e x.0 x.1;
    inward = λ v u p q e t. let x = to_in v u p q t e in st.second_best u v q p x.0 e x.1;
    light = light;
    low = λ x p. let b = st.small x p in omega arith;
  }

  -- the sources have no potential
  pub sources_free : (w a : ℕ → ℕ) (loss : ℕ) → State n f g w a loss s → (x : ℕ) → x < n → marked sources x ≡ true → a x ≡ 0
  sources_free w a loss st x p h = let y = source_parts x p h in st.sources x p y.0 y.1

  -- the end of least loss
  pub is_end : (w a : ℕ → ℕ) (reached : Set) (d k : ℕ → ℕ) (t : ℕ) → Least n (both (marked sinks) reached) (lost w a d) k t →
      End n g w a s reached d k t
  is_end w a reached d k t h =
      let p = and_parts (marked sinks t) (reached t) h.1 in
      let q = addable_parts g s t (sym (holds.each_sink t h.0) ∙ p.0) in
      record {
        below = h.0;
        fresh = q.0;
        found = p.1;
        fits = q.1;
        least = λ x l o r b.
            h.2 x l (and_from (marked sinks x) (reached x) (holds.each_sink x l ∙ addable_from g s x o b) r);
      }

  -- where no sink is reached
  pub unreached : (reached : Set) → ((x : ℕ) → x < n → both (marked sinks) reached x ≡ false) →
      (x : ℕ) → x < n → s x ≡ false → g (with s x) ≡ true → reached x ≡ false
  unreached reached h x p o b =
      ⊎_elim
      (λ (r : reached x ≡ true).
      absurd (both_ways (marked sinks x && reached x) (h x p) (and_from (marked sinks x) (reached x) (holds.each_sink x p ∙ addable_from g s x o b) r)))
      (λ (r : reached x ≡ false). r)
      (cases_Bool (reached x))
