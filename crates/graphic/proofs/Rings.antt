-- A set of links has a ring exactly if some link of it has its ends joined by others of it.
use Rattle.std.proofs.Common.{◌≡◌, ℕ, zero, suc, ◌+◌, ◌-◌, ◌<◌, ◌≤◌, true, false, ltb, sym, refl, ap, ◌∙◌, inl, inr, ⊎_elim, arith}
use Rattle.std.proofs.lemmas.Bool.{cases_Bool, cases_lt, both_ways}
use Rattle.sets.specs.Closure.{free}
use Rattle.sets.specs.Matroid.{Set, pick, without}
use Rattle.graphic.specs.Links.{Joins, Ring, joined, spanned}
use Rattle.graphic.proofs.Free.{free_not, free_fails}
use Rattle.graphic.proofs.Joined.{joined_refl, joined_sym, joined_trans, joined_link, joined_none, Ways, ways}

-- a chain of different links of a set, from one town to another
record Chain (from to : ℕ → ℕ) (n : ℕ) (s : Set) (u v : ℕ) : Type 0 where
  size : ℕ
  link : ℕ → ℕ
  town : ℕ → ℕ
  real : (i : ℕ) → i < size → link i < n
  inside : (i : ℕ) → i < size → s (link i) ≡ true
  joins : (i : ℕ) → i < size → Joins from to (link i) (town i) (town (suc i))
  different : (i j : ℕ) → i < j → j < size → link i ≡ link j → ⊥
  starts : town 0 ≡ u
  ends : town size ≡ v

-- one value in front of a sequence
abbrev before : ℕ → (ℕ → ℕ) → ℕ → ℕ
before a f zero = a
before a f (suc i) = f i

-- one sequence up to k, and another from there on
abbrev then : ℕ → (ℕ → ℕ) → (ℕ → ℕ) → ℕ → ℕ
then k f g i = pick (ltb i k) (f i) (g (i - k))

-- below k it is the first
then_low : (k : ℕ) (f g : ℕ → ℕ) (i : ℕ) → i < k → then k f g i ≡ f i
then_low k f g i l = grind arith

-- from k on it is the second
then_high : (k : ℕ) (f g : ℕ → ℕ) (i j : ℕ) → i ≡ k + j → then k f g i ≡ g j
then_high k f g i j e = let d : i - k ≡ j = omega arith in let q : g (i - k) ≡ g j = ap g d in grind arith

-- where two sequences meet, the first also holds at its end
then_edge : (k : ℕ) (f g : ℕ → ℕ) → f k ≡ g 0 → (i : ℕ) → i ≤ k → then k f g i ≡ f i
then_edge k f g h i l =
    ⊎_elim (λ q. then_low k f g i q) (λ q. let e : i ≡ k = omega arith in then_high k f g i 0 (omega arith) ∙ sym h ∙ ap f (sym e)) (cases_lt i k)

module _ (from to : ℕ → ℕ) where
  -- the ends of a link of a set are joined
  joins_joined : (n : ℕ) (s : Set) (x u v : ℕ) → x < n → s x ≡ true → Joins from to x u v → joined from to n s u v ≡ true
  joins_joined n s x u v l h j =
      ⊎_elim (λ d. rw (← d.0, ← d.1) (joined_link from to n s x l h))
      (λ d. rw (← d.0, ← d.1) (joined_sym from to n s (from x) (to x) (joined_link from to n s x l h))) j

  -- k steps along links of a set lead to a joined town
  walk_joined : (n : ℕ) (s : Set) (link town : ℕ → ℕ) (i k : ℕ) →
      ((j : ℕ) → i ≤ j → j < i + k → (link j < n) × (s (link j) ≡ true) × Joins from to (link j) (town j) (town (suc j))) →
      joined from to n s (town i) (town (i + k)) ≡ true
  walk_joined n s link town i zero h =
      let e : i + 0 ≡ i = omega arith in rw e (joined_refl from to n s (town i))
  walk_joined n s link town i (suc k) h =
      let e : i + suc k ≡ suc (i + k) = omega arith in
      let d = h (i + k) (omega arith) (omega arith) in
      rw e (joined_trans from to n s (town i) (town (i + k)) (town (suc (i + k)))
      (walk_joined n s link town i k (λ j a b. h j a (omega arith)))
      (joins_joined n s (link (i + k)) (town (i + k)) (town (suc (i + k))) d.0 d.1 d.2))

  -- a ring shows a link whose ends are joined by the others
  ring_refused : (n : ℕ) (s : Set) → Ring from to n s → free n (spanned from to n) s ≡ false
  ring_refused n s r =
      free_not n (spanned from to n) s x (r.real 0 r.some) (r.inside 0 r.some) (turn (r.joins 0 r.some))
    where
      x : ℕ
      x = r.link 0

      rest : joined from to n (without s (r.link 0)) (r.town 1) (r.town 0) ≡ true
      rest =
          let e : 1 + (r.size - 1) ≡ r.size = let p = r.some in omega arith in
          let w : joined from to n (without s (r.link 0)) (r.town 1) (r.town (1 + (r.size - 1))) ≡ true =
          walk_joined n (without s (r.link 0)) r.link r.town 1 (r.size - 1)
          (λ j a b. let l : j < r.size = omega arith in
          (r.real j l, other j (r.inside j l) (λ q. r.different 0 j (omega arith) l (sym q)), r.joins j l)) in
          let w2 : joined from to n (without s (r.link 0)) (r.town 1) (r.town r.size) ≡ true = rw e at w in
          rw r.closed at w2
        where
          other : (j : ℕ) → s (r.link j) ≡ true → (r.link j ≡ r.link 0 → ⊥) → without s (r.link 0) (r.link j) ≡ true
          other j h ne = grind arith

      turn : Joins from to (r.link 0) (r.town 0) (r.town 1) →
          joined from to n (without s (r.link 0)) (from (r.link 0)) (to (r.link 0)) ≡ true
      turn j =
          ⊎_elim (λ d. rw (d.0, d.1) (joined_sym from to n (without s (r.link 0)) (r.town 1) (r.town 0) rest))
          (λ d. rw (d.0, d.1) rest) j

  -- a link in front of a chain that does not have it
  prepend : (n : ℕ) (s : Set) (x u v w : ℕ) → x < n → s x ≡ true → Joins from to x u v → (c : Chain from to n s v w) →
      ((i : ℕ) → i < c.size → x ≡ c.link i → ⊥) → Chain from to n s u w
  prepend n s x u v w l h j c ne = record {
    size = suc c.size;
    link = before x c.link;
    town = before u c.town;
    real = real;
    inside = inside;
    joins = joins;
    different = different;
    starts = refl;
    ends = c.ends;
  }
    where
      real : (i : ℕ) → i < suc c.size → before x c.link i < n
      real zero _ = l
      real (suc i) k = c.real i (omega arith)

      inside : (i : ℕ) → i < suc c.size → s (before x c.link i) ≡ true
      inside zero _ = h
      inside (suc i) k = c.inside i (omega arith)

      joins : (i : ℕ) → i < suc c.size →
          Joins from to (before x c.link i) (before u c.town i) (before u c.town (suc i))
      joins zero _ = rw c.starts j
      joins (suc i) k = c.joins i (omega arith)

      different : (i k : ℕ) → i < k → k < suc c.size → before x c.link i ≡ before x c.link k → ⊥
      different zero zero a b e = omega arith
      different (suc i) zero a b e = omega arith
      different zero (suc k) a b e = ne k (omega arith) e
      different (suc i) (suc k) a b e = c.different i k (omega arith) (omega arith) e

  -- two chains with no link in common, one after the other
  append : (n : ℕ) (s : Set) (u v w : ℕ) (c : Chain from to n s u v) (d : Chain from to n s v w) →
      ((i k : ℕ) → i < c.size → k < d.size → c.link i ≡ d.link k → ⊥) → Chain from to n s u w
  append n s u v w c d apart = record {
    size = c.size + d.size;
    link = link;
    town = town;
    real = λ i l. ⊎_elim (λ a. rw (low i a) (c.real i a))
        (λ a. rw (high i (i - c.size) (omega arith)) (d.real (i - c.size) (omega arith))) (cases_lt i c.size);
    inside = λ i l. ⊎_elim (λ a. rw (low i a) (c.inside i a))
        (λ a. rw (high i (i - c.size) (omega arith)) (d.inside (i - c.size) (omega arith))) (cases_lt i c.size);
    joins = λ i l. ⊎_elim (λ a. rw (low i a, near i (omega arith), near (suc i) (omega arith)) (c.joins i a))
        (λ a. rw (high i (i - c.size) (omega arith), far i (i - c.size) (omega arith), far (suc i) (suc (i - c.size)) (omega arith))
        (d.joins (i - c.size) (omega arith))) (cases_lt i c.size);
    different = λ i k a b e. ⊎_elim
        (λ p. c.different i k a p (sym (low i (omega arith)) ∙ e ∙ low k p))
        (λ p. ⊎_elim (λ q. apart i (k - c.size) q (omega arith) (sym (low i q) ∙ e ∙ high k (k - c.size) (omega arith)))
        (λ q. d.different (i - c.size) (k - c.size) (omega arith) (omega arith)
        (sym (high i (i - c.size) (omega arith)) ∙ e ∙ high k (k - c.size) (omega arith))) (cases_lt i c.size)) (cases_lt k c.size);
    starts = near 0 (omega arith) ∙ c.starts;
    ends = far (c.size + d.size) d.size refl ∙ d.ends;
  }
    where
      link : ℕ → ℕ
      link = then c.size c.link d.link

      town : ℕ → ℕ
      town = then c.size c.town d.town

      low : (i : ℕ) → i < c.size → then c.size c.link d.link i ≡ c.link i
      low = then_low c.size c.link d.link

      high : (i k : ℕ) → i ≡ c.size + k → then c.size c.link d.link i ≡ d.link k
      high = then_high c.size c.link d.link

      near : (i : ℕ) → i ≤ c.size → then c.size c.town d.town i ≡ c.town i
      near = then_edge c.size c.town d.town (c.ends ∙ sym d.starts)

      far : (i k : ℕ) → i ≡ c.size + k → then c.size c.town d.town i ≡ d.town k
      far = then_high c.size c.town d.town

  -- the first k steps of a chain lead to a town that is joined with its start
  steps_joined : (n : ℕ) (s : Set) (u v : ℕ) (c : Chain from to n s u v) (k : ℕ) → k ≤ c.size → joined from to n s u (c.town k) ≡ true
  steps_joined n s u v c k l =
      let e : 0 + k ≡ k = omega arith in
      let w = walk_joined n s c.link c.town 0 k
      (λ j a b. let p : j < c.size = omega arith in (c.real j p, c.inside j p, c.joins j p)) in
      rw (c.starts, e) at w

  -- each link of a chain begins in a town that is joined with the chain's start
  link_joined : (n : ℕ) (s : Set) (u v : ℕ) (c : Chain from to n s u v) (i : ℕ) → i < c.size →
      joined from to n s u (from (c.link i)) ≡ true
  link_joined n s u v c i l =
      ⊎_elim (λ d. rw d.0 (steps_joined n s u v c i (omega arith)))
      (λ d. rw d.1 (steps_joined n s u v c (suc i) (omega arith))) (c.joins i l)

  -- more links may be there than a chain has
  wider : (n : ℕ) (s : Set) (u v : ℕ) → Chain from to n s u v → Chain from to (suc n) s u v
  wider n s u v c = record {
    size = c.size;
    link = c.link;
    town = c.town;
    real = λ i l. let k = c.real i l in omega arith;
    inside = c.inside;
    joins = c.joins;
    different = c.different;
    starts = c.starts;
    ends = c.ends;
  }

  -- two chains over links below m, with the link m between them, where no other links join its ends
  bridge : (m : ℕ) (s : Set) (u a b v : ℕ) → s m ≡ true → Joins from to m a b → joined from to m s a b ≡ false →
      Chain from to m s u a → Chain from to m s b v → Chain from to (suc m) s u v
  unfolding wider prepend
  bridge m s u a b v h j no_way c d =
      append (suc m) s u a v (wider m s u a c)
      (prepend (suc m) s m a b v (omega arith) h j (wider m s b v d) (λ i l e. let k = d.real i l in omega arith)) apart
    where
      meets : (i k : ℕ) → i < c.size → k < d.size → c.link i ≡ d.link k → joined from to m s a b ≡ true
      meets i k p q e =
          let x : joined from to m s u (from (d.link k)) ≡ true = rw e at (link_joined m s u a c i p) in
          let y : joined from to m s b (from (d.link k)) ≡ true = link_joined m s b v d k q in
          let z : joined from to m s u a ≡ true = rw c.ends at (steps_joined m s u a c c.size (omega arith)) in
          joined_trans from to m s a u b (joined_sym from to m s u a z)
          (joined_trans from to m s u (from (d.link k)) b x (joined_sym from to m s b (from (d.link k)) y))

      apart : (i k : ℕ) → i < c.size → k < suc d.size → c.link i ≡ before m d.link k → ⊥
      apart i zero p q e = let k = c.real i p in omega arith
      apart i (suc k) p q e = both_ways (joined from to m s a b) no_way (meets i k p (omega arith) e)

  -- towns that are joined have a chain of different links between them
  joined_chain : (m : ℕ) (s : Set) (u v : ℕ) → joined from to m s u v ≡ true → Chain from to m s u v
  joined_chain zero s u v h = record {
    size = 0;
    link = λ i. i;
    town = λ i. u;
    real = λ i l. absurd (omega arith);
    inside = λ i l. absurd (omega arith);
    joins = λ i l. absurd (omega arith);
    different = λ i j a b e. absurd (omega arith);
    starts = refl;
    ends = let k = joined_none from to s u v in grind arith;
  }
  joined_chain (suc m) s u v h = go (joined_chain m s) (ways from to m s u v h)
    where
      go : ((a b : ℕ) → joined from to m s a b ≡ true → Chain from to m s a b) → Ways from to m s u v →
          Chain from to (suc m) s u v
      go f w =
          ⊎_elim (λ d. wider m s u v (f u v d))
          (λ r. ⊎_elim
          (λ d. ⊎_elim
          (λ e. wider m s u v (f u v (joined_trans from to m s u (from m) v d.1 (joined_trans from to m s (from m) (to m) v e d.2))))
          (λ e. bridge m s u (from m) (to m) v d.0 (inl (refl, refl)) e (f u (from m) d.1) (f (to m) v d.2))
          (cases_Bool (joined from to m s (from m) (to m))))
          (λ d. ⊎_elim
          (λ e. wider m s u v (f u v (joined_trans from to m s u (to m) v d.1 (joined_trans from to m s (to m) (from m) v e d.2))))
          (λ e. bridge m s u (to m) (from m) v d.0 (inr (refl, refl)) e (f u (to m) d.1) (f (from m) v d.2))
          (cases_Bool (joined from to m s (to m) (from m)))) r) w

  -- a link whose ends have a chain of other links of the set between them closes a ring
  close : (n : ℕ) (s : Set) (x : ℕ) → x < n → s x ≡ true → Chain from to n (without s x) (from x) (to x) → Ring from to n s
  unfolding prepend
  close n s x l h c = record {
    size = suc c.size;
    link = ring.link;
    town = ring.town;
    some = omega arith;
    real = ring.real;
    inside = ring.inside;
    joins = ring.joins;
    different = ring.different;
    closed = ring.ends;
  }
    where
      inside : (i : ℕ) → i < c.size → s (c.link i) ≡ true
      inside i k = let e = c.inside i k in grind arith

      other : (i : ℕ) → i < c.size → x ≡ c.link i → ⊥
      other i k e = let q = c.inside i k in grind arith

      among : Chain from to n s (from x) (to x)
      among = record {
        size = c.size;
        link = c.link;
        town = c.town;
        real = c.real;
        inside = inside;
        joins = c.joins;
        different = c.different;
        starts = c.starts;
        ends = c.ends;
      }

      ring : Chain from to n s (to x) (to x)
      ring = prepend n s x (to x) (from x) (to x) l h (inr (refl, refl)) among other

  -- a refused set has a ring
  refused_ring : (n : ℕ) (s : Set) → free n (spanned from to n) s ≡ false → Ring from to n s
  refused_ring n s h =
      let w = free_fails n (spanned from to n) s h in
      close n s w.0 w.1 w.2 (joined_chain n (without s w.0) (from w.0) (to w.0) w.3)

  -- the natural reading and the test say the same
  pub no_ring : (n : ℕ) (s : Set) → ((Ring from to n s → ⊥) → free n (spanned from to n) s ≡ true)
      × (free n (spanned from to n) s ≡ true → Ring from to n s → ⊥)
  no_ring n s = (
    (λ h. ⊎_elim (λ e. e) (λ e. absurd (h (refused_ring n s e))) (cases_Bool (free n (spanned from to n) s))),
    (λ e r. both_ways (free n (spanned from to n) s) (ring_refused n s r) e),
  )
