-- The chain of predecessors of a labelled end: it ends in a source, and its elements are those of a path.
use Rattle.std.proofs.Common.{◌≡◌, ℕ, zero, suc, ◌+◌, ◌<◌, ◌≤◌, Bool, true, false, refl, ⊎_elim, arith}
use Rattle.std.proofs.lemmas.Bool.{cases_lt}
use Rattle.sets.specs.Matroid.{Set, without, with}
use Rattle.exchange.specs.Round.{Labels, End, behind}
use Rattle.exchange.specs.Predecessors.{twice}

-- what `twice` says
pub twice_is : (i : ℕ) → twice i ≡ i + i
twice_is zero = refl
twice_is (suc i) = let r : twice i ≡ i + i = twice_is i in omega arith

-- the i-th element outside of the set, counted from the end of the path
abbrev pub mark : (ℕ → ℕ) → ℕ → ℕ → ℕ
mark back t i = behind back t (twice i)

-- what is known of it
pub record Outer (n : ℕ) (s reached : Set) (k back : ℕ → ℕ) (t i : ℕ) : Type 0 where
  pub below : mark back t i < n
  pub fresh : s (mark back t i) ≡ false
  pub found : reached (mark back t i) ≡ true
  pub steps : k (mark back t i) + twice i ≡ k t

-- what is known of the element before it, and of the one before that
pub record Inner (n : ℕ) (f g : Set → Bool) (w a : ℕ → ℕ) (s reached : Set) (d k back : ℕ → ℕ) (t i : ℕ) : Type 0 where
  pub below : back (mark back t i) < n
  pub held : s (back (mark back t i)) ≡ true
  pub by_first : f (with (without s (back (mark back t i))) (mark back t i)) ≡ true
  pub by_second : g (with (without s (back (mark back t i))) (mark back t (suc i))) ≡ true
  pub cost_first : d (mark back t i) + a (mark back t i) ≡ d (back (mark back t i)) + a (back (mark back t i))
  pub cost_second : d (back (mark back t i)) + (w (mark back t (suc i)) + a (back (mark back t i))) ≡
      d (mark back t (suc i)) + (w (back (mark back t i)) + a (mark back t (suc i)))
  pub steps : k (mark back t i) ≡ k (back (mark back t i)) + 1
  pub next : Outer n s reached k back t (suc i)

module _ (n : ℕ) (f g : Set → Bool) (w a : ℕ → ℕ) (s reached : Set) (d k back : ℕ → ℕ) (t : ℕ)
    (labels : Labels n f g w a s reached d k back) (end : End n g w a s reached d k t) where
  -- the end itself
  outer_end : Outer n s reached k back t 0
  outer_end = record { below = end.below; fresh = end.fresh; found = end.found; steps = omega arith }

  -- an element with more than one step has a predecessor, and this one has one
  inner : (i : ℕ) → Outer n s reached k back t i → 1 < k (mark back t i) → Inner n f g w a s reached d k back t i
  inner i o more = from (labels.from_first (mark back t i) o.below o.fresh o.found more)
    where
      from : (p : (back (mark back t i) < n) × (s (back (mark back t i)) ≡ true) × (reached (back (mark back t i)) ≡ true) × (f (with (without s (back (mark back t i))) (mark back t i)) ≡ true) ×
          (d (mark back t i) + a (mark back t i) ≡ d (back (mark back t i)) + a (back (mark back t i))) × (k (mark back t i) ≡ k (back (mark back t i)) + 1)) → Inner n f g w a s reached d k back t i
      from p =
          let q = labels.from_second (back (mark back t i)) p.0 p.1 p.2 in
          record {
            below = p.0;
            held = p.1;
            by_first = p.3;
            by_second = q.3;
            cost_first = p.4;
            cost_second = q.4;
            steps = p.5;
            next = record { below = q.0; fresh = q.1; found = q.2; steps = omega (arith, o.steps, p.5, q.5) };
          }

  -- a reached element outside of the set has at least one step
  one_step : (i : ℕ) → Outer n s reached k back t i → k (mark back t i) ≤ 1 → (k (mark back t i) ≡ 1) × (f (with s (mark back t i)) ≡ true) × (d (mark back t i) ≡ 0)
  one_step i o few =
      let p = labels.from_start (mark back t i) o.below o.fresh o.found few in
      let q = labels.start (mark back t i) o.below o.fresh p.0 in
      (q.2, p.0, p.1)

  -- the chain ends
  ends : (m i : ℕ) → k (mark back t i) < m → Outer n s reached k back t i → (j : ℕ) × (k t ≡ suc (twice j))
  ends zero i h o = absurd (omega arith)
  ends (suc m) i h o = ⊎_elim
      (λ (more : 1 < k (mark back t i)). let p = inner i o more in
      ends m (suc i) (omega (arith, p.next.steps, o.steps)) p.next)
      (λ (few : k (mark back t i) ≤ 1). (i, omega (arith, (one_step i o few).0, o.steps)))
      (cases_lt 1 (k (mark back t i)))

  -- so the path has an odd number of elements
  pub half : (m : ℕ) × (k t ≡ suc (twice m))
  half = ends (suc (k t)) 0 (omega arith) outer_end

  module _ (m : ℕ) (whole : k t ≡ suc (twice m)) where
    -- all of its elements
    pub inside : (i : ℕ) → Outer n s reached k back t i → i < m → Inner n f g w a s reached d k back t i
    inside i o h = inner i o (omega (arith, o.steps, twice_is i, twice_is m))

    -- the elements outside of the set
    pub outer : (i : ℕ) → i ≤ m → Outer n s reached k back t i
    outer zero h = outer_end
    outer (suc i) h = (inside i (outer i (omega arith)) (omega arith)).next

    -- the first is a source
    pub first_source : (k (mark back t m) ≡ 1) × (f (with s (mark back t m)) ≡ true) × (d (mark back t m) ≡ 0)
    first_source = let o = outer m (omega arith) in one_step m o (omega (arith, o.steps))
