-- The predecessors of a labelled end are a best path.
use Rattle.std.proofs.Common.{◌≡◌, ℕ, zero, suc, ◌+◌, ◌-◌, ◌<◌, ◌≤◌, Bool, true, false, not, ◌&&◌, ◌||◌, eqb, sym, ap, subst, arith}
use Rattle.std.proofs.lemmas.Bool.{eqb-true}
use Rattle.sets.specs.Matroid.{pick, Set, without, with}
use Rattle.matroid.specs.Exchanges.{among}
use Rattle.exchange.specs.Round.{top, State, no_worse, Labels, End, lost, toggled}
use Rattle.exchange.specs.Paths.{total, Augmenting, NoMore, AsMuch, BestPath, along}
use Rattle.exchange.specs.Predecessors.{twice, comes, goes, Predecessors, LabelsBest}
use Rattle.exchange.proofs.Along.{among_none, among_at, among_all, among_same}
use Rattle.exchange.proofs.Chains.{twice_is, mark, Outer, Inner, half, inside, outer, first_source}

-- what the order of labels says
pub no_worse_tells : (d k e l : ℕ) → no_worse d k e l ≡ true → (d ≤ e) × (d ≡ e → k ≤ l)
no_worse_tells d k e l h = (grind arith, λ s. grind arith)

module _ (n : ℕ) (f g : Set → Bool) (w a : ℕ → ℕ) (loss : ℕ) (s reached : Set) (d k back : ℕ → ℕ) (state : State n f g w a loss s)
    (labels : Labels n f g w a s reached d k back) where
  -- along any path the labels cost no more than the path
  abbrev Reached : ℕ → (ℕ → ℕ) → (ℕ → ℕ) → Type 0
  Reached j u v = (reached (u j) ≡ true) × (total w u j + (d (u j) + a (u j)) ≤ total w v j) ×
      (total w u j + (d (u j) + a (u j)) ≡ total w v j → k (u j) ≤ suc (twice j))

  -- by induction along the path
  walked : (l : ℕ) (u v : ℕ → ℕ) → Augmenting n f g s l u v → (j : ℕ) → j ≤ l → Reached j u v
  walked l u v path zero h =
      let p = labels.start (u 0) (path.route.x_below 0 h) (path.route.x_fresh 0 h) path.source in
      let z : a (u 0) ≡ 0 = state.sources (u 0) (path.route.x_below 0 h) (path.route.x_fresh 0 h) path.source in
      let zd : d (u 0) ≡ 0 = p.1 in
      let zk : k (u 0) ≡ 1 = p.2 in
      (p.0, omega arith, λ e. omega arith)
  walked l u v path (suc j) h =
      let r = walked l u v path j (omega arith) in
      let p = labels.out (u j) (v j) (path.route.x_below j (omega arith)) (path.route.y_below j h) (path.route.x_fresh j (omega arith))
      (path.route.y_held j h) r.0 (path.route.by_second j h) in
      let q = labels.into (v j) (u (suc j)) (path.route.y_below j h) (path.route.x_below (suc j) h) (path.route.y_held j h)
      (path.route.x_fresh (suc j) h) p.0 (path.route.by_first j h) in
      let lp = no_worse_tells (d (v j) + (w (u j) + a (v j))) (k (v j)) (d (u j) + (w (v j) + a (u j))) (k (u j) + 1) p.1 in
      let lq = no_worse_tells (d (u (suc j)) + a (u (suc j))) (k (u (suc j))) (d (v j) + a (v j)) (k (v j) + 1) q.1 in
      let s1 : total w u j + (d (u j) + a (u j)) ≤ total w v j = r.1 in
      let s2 : d (v j) + (w (u j) + a (v j)) ≤ d (u j) + (w (v j) + a (u j)) = lp.0 in
      let s3 : d (u (suc j)) + a (u (suc j)) ≤ d (v j) + a (v j) = lq.0 in (
        q.0,
        omega arith,
        λ e.
            let e1 : k (u j) ≤ suc (twice j) = r.2 (omega arith) in
            let e2 : k (v j) ≤ k (u j) + 1 = lp.1 (omega arith) in
            let e3 : k (u (suc j)) ≤ k (v j) + 1 = lq.1 (omega arith) in
            omega arith,
      )

  -- so the end of any path is reached
  pub path_reached : (l : ℕ) (u v : ℕ → ℕ) → Augmenting n f g s l u v → reached (u l) ≡ true
  path_reached l u v path = (walked l u v path l (omega arith)).0

module _ (n : ℕ) (f g : Set → Bool) (w a : ℕ → ℕ) (loss : ℕ) (s reached : Set) (d k back : ℕ → ℕ) (t : ℕ)
    (light : (x : ℕ) → x < n → w x ≤ top) (state : State n f g w a loss s)
    (labels : Labels n f g w a s reached d k back) (end : End n g w a s reached d k t) where
  module _ (m : ℕ) (whole : k t ≡ suc (twice m)) where
    -- the elements of the path outside of the set
    at : (i : ℕ) → i ≤ m → Outer n s reached k back t i
    at i h = outer n f g w a s reached d k back t labels end m whole i h

    -- the elements of the path in the set
    before : (i : ℕ) → i < m → Inner n f g w a s reached d k back t i
    before i h = inside n f g w a s reached d k back t labels end m whole i (at i (omega arith)) h

    -- from the start the places are counted the other way
    mirror : (i : ℕ) → i < m → suc (m - suc i) ≡ m - i
    mirror i h = omega arith

    -- the predecessors are a path
    path : Augmenting n f g s m (comes back t m) (goes back t m)
    path = record {
      source = subst (λ j. f (with s (mark back t j)) ≡ true) (from_zero m) (first_source n f g w a s reached d k back t labels end m whole).1;
      route = record {
        x_below = λ i h. (at (m - i) (omega arith)).below;
        x_fresh = λ i h. (at (m - i) (omega arith)).fresh;
        y_below = λ i h. (before (m - suc i) (omega arith)).below;
        y_held = λ i h. (before (m - suc i) (omega arith)).held;
        by_second = λ i h. subst (λ j. g (with (without s (goes back t m i)) (mark back t j)) ≡ true) (mirror i h)
            (before (m - suc i) (omega arith)).by_second;
        by_first = λ i h. (before (m - suc i) (omega arith)).by_first;
        sink = subst (λ j. g (with s (mark back t j)) ≡ true) (zeroed m) end.fits;
      };
    }
      where
        zeroed : (m : ℕ) → 0 ≡ m - m
        zeroed m = omega arith

        from_zero : (m : ℕ) → m ≡ m - 0
        from_zero m = omega arith

    -- what has come and gone so far, by the labels
    so_far : (j : ℕ) → j ≤ m → total w (comes back t m) j + (d (comes back t m j) + a (comes back t m j)) ≡ total w (goes back t m) j
    so_far zero h =
        let source : f (with s (comes back t m 0)) ≡ true = path.source in
        let z : a (comes back t m 0) ≡ 0 = state.sources (comes back t m 0) (path.route.x_below 0 h) (path.route.x_fresh 0 h) source in
        let e : d (comes back t m 0) ≡ 0 = (labels.start (comes back t m 0) (path.route.x_below 0 h) (path.route.x_fresh 0 h) source).1 in
        omega arith
    so_far (suc j) h =
        let r : total w (comes back t m) j + (d (comes back t m j) + a (comes back t m j)) ≡ total w (goes back t m) j = so_far j (omega arith) in
        let p = before (m - suc j) (omega arith) in
        let one : d (comes back t m (suc j)) + a (comes back t m (suc j)) ≡ d (goes back t m j) + a (goes back t m j) = p.cost_first in
        let two : d (goes back t m j) + (w (comes back t m j) + a (goes back t m j)) ≡ d (comes back t m j) + (w (goes back t m j) + a (comes back t m j)) =
        subst (λ q. d (goes back t m j) + (w (mark back t q) + a (goes back t m j)) ≡ d (mark back t q) + (w (goes back t m j) + a (mark back t q)))
        (mirror j h) p.cost_second in
        omega arith

    -- the path adds what the labels say
    path_adds : total w (comes back t m) (suc m) + lost w a d t ≡ total w (goes back t m) m + top
    path_adds =
        let last : comes back t m m ≡ t = ap (mark back t) (zeroed m) in
        let r : total w (comes back t m) m + (d (comes back t m m) + a (comes back t m m)) ≡ total w (goes back t m) m = so_far m (omega arith) in
        let l : w t ≤ top = light t end.below in
        sums (w (comes back t m m)) (w t) (d (comes back t m m)) (d t) (a (comes back t m m)) (a t)
        (total w (comes back t m) m) (total w (goes back t m) m) top (ap w last) (ap d last) (ap a last) r l
      where
        zeroed : (m : ℕ) → m - m ≡ 0
        zeroed m = omega arith

        sums : (w0 w1 d0 d1 a0 a1 p q top : ℕ) → w0 ≡ w1 → d0 ≡ d1 → a0 ≡ a1 → p + (d0 + a0) ≡ q → w1 ≤ top →
            w0 + p + (d1 + a1 + (top - w1)) ≡ q + top
        sums w0 w1 d0 d1 a0 a1 p q top ew ed ea h l = omega arith

    -- no path adds more, and one that adds as much has no fewer steps
    path_best : (l : ℕ) (u v : ℕ → ℕ) → Augmenting n f g s l u v →
        NoMore w l u v m (comes back t m) (goes back t m) × (AsMuch w l u v m (comes back t m) (goes back t m) → m ≤ l)
    path_best l u v other =
        let r = walked n f g w a loss s reached d k back state labels l u v other l (omega arith) in
        let p = no_worse_tells (lost w a d t) (k t) (lost w a d (u l)) (k (u l))
        (end.least (u l) (other.route.x_below l (omega arith)) (other.route.x_fresh l (omega arith)) r.0 other.route.sink) in
        let s1 : total w u l + (d (u l) + a (u l)) ≤ total w v l = r.1 in
        let s2 : lost w a d t ≤ lost w a d (u l) = p.0 in
        let s3 : total w (comes back t m) (suc m) + lost w a d t ≡ total w (goes back t m) m + top = path_adds in
        let s4 : w (u l) ≤ top = light (u l) (other.route.x_below l (omega arith)) in
        less (total w u l) (w (u l)) (total w v l) (d (u l) + a (u l)) (total w (comes back t m) (suc m)) (total w (goes back t m) m) (lost w a d t) top
        (k t) (k (u l)) m l whole s1 s2 s3 s4 p.1 r.2
      where
        less : (tu wu tv c tx ty lost top kt ku m l : ℕ) → kt ≡ suc (twice m) → tu + c ≤ tv → lost ≤ c + (top - wu) → tx + lost ≡ ty + top → wu ≤ top →
            (lost ≡ c + (top - wu) → kt ≤ ku) → (tu + c ≡ tv → ku ≤ suc (twice l)) →
            (wu + tu + ty ≤ tx + tv) × (wu + tu + ty ≡ tx + tv → m ≤ l)
        less tu wu tv c tx ty lost top kt ku m l e h1 h2 h3 h4 i1 i2 = (
          omega arith,
          λ same.
              let e1 : kt ≤ ku = i1 (omega arith) in
              let e2 : ku ≤ suc (twice l) = i2 (omega arith) in
              let tm : twice m ≡ m + m = twice_is m in
              let tl : twice l ≡ l + l = twice_is l in
              omega arith,
        )

    -- so it is a best one
    best_path : BestPath n f g w s m (comes back t m) (goes back t m)
    best_path = record {
      path = path;
      most = λ l u v other once. (path_best l u v other).0;
      fewest = λ l u v other once. (path_best l u v other).1;
    }

    -- the marks and their predecessors are different, since their steps are
    marks_differ : (i j : ℕ) → i ≤ m → j < i → mark back t j ≡ mark back t i → ⊥
    marks_differ i j h l e =
        let p : k (mark back t i) + twice i ≡ k t = (at i h).steps in
        let q : k (mark back t j) + twice j ≡ k t = (at j (omega arith)).steps in
        let same : k (mark back t j) ≡ k (mark back t i) = ap k e in
        omega (arith, twice_is i, twice_is j)

    -- .. and those in the set
    backs_differ : (i j : ℕ) → i < m → j < i → back (mark back t j) ≡ back (mark back t i) → ⊥
    backs_differ i j h l e =
        let p : k (mark back t i) + twice i ≡ k t = (at i (omega arith)).steps in
        let q : k (mark back t j) + twice j ≡ k t = (at j (omega arith)).steps in
        let r : k (mark back t i) ≡ k (back (mark back t i)) + 1 = (before i h).steps in
        let u : k (mark back t j) ≡ k (back (mark back t j)) + 1 = (before j (omega arith)).steps in
        let same : k (back (mark back t j)) ≡ k (back (mark back t i)) = ap k e in
        omega (arith, twice_is i, twice_is j)

    -- what was found among the first i predecessors was in the set, what was found among the marks was not
    backs_held : (i v : ℕ) → i ≤ m → among (λ j. back (mark back t j)) i v ≡ true → s v ≡ true
    backs_held i v h found = among_all (λ j. back (mark back t j)) i v s true (λ j l. (before j (omega arith)).held) found

    -- what was found among the marks was not in the set
    marks_fresh : (i v : ℕ) → i ≤ suc m → among (mark back t) i v ≡ true → s v ≡ false
    marks_fresh i v h found = among_all (mark back t) i v s false (λ j l. (at j (omega arith)).fresh) found

    -- the next mark is not among the marks so far
    marks_new : (i v : ℕ) → i ≤ m → eqb v (mark back t i) ≡ true → (s v ≡ false) × (among (mark back t) i v ≡ false)
    marks_new i v h e = subst (λ u. (s u ≡ false) × (among (mark back t) i u ≡ false)) (sym (eqb-true v (mark back t i) e))
        ((at i h).fresh, among_none (mark back t) i (mark back t i) (λ j l z. marks_differ i j h l z))

    -- the next predecessor is not among those so far
    backs_new : (i v : ℕ) → i < m → eqb v (back (mark back t i)) ≡ true → (s v ≡ true) × (among (λ j. back (mark back t j)) i v ≡ false)
    backs_new i v h e = subst (λ u. (s u ≡ true) × (among (λ j. back (mark back t j)) i u ≡ false)) (sym (eqb-true v (back (mark back t i)) e))
        ((before i h).held, among_none (λ j. back (mark back t j)) i (back (mark back t i)) (λ j l z. backs_differ i j h l z))

    -- the set with an even number of elements changed
    changed_pairs : (i : ℕ) → i ≤ m → (v : ℕ) →
        toggled s back t (twice i) v ≡ ((s v && not (among (λ j. back (mark back t j)) i v)) || among (mark back t) i v)
    changed_pairs zero h v = plain (s v)
      where
        plain : (p : Bool) → p ≡ ((p && not false) || false)
        plain p = grind arith
    changed_pairs (suc i) h v = flips (s v) (among (λ j. back (mark back t j)) i v) (among (mark back t) i v)
        (eqb v (mark back t i)) (eqb v (back (mark back t i))) (toggled s back t (twice i) v)
        (changed_pairs i (omega arith) v) (backs_held i v (omega arith)) (marks_fresh i v (omega arith))
        (λ e. (marks_new i v (omega arith) e).0) (λ e. (marks_new i v (omega arith) e).1)
        (λ e. (backs_new i v h e).0) (λ e. (backs_new i v h e).1)
      where
        flips : (p q r e b o : Bool) → o ≡ ((p && not q) || r) → (q ≡ true → p ≡ true) → (r ≡ true → p ≡ false) →
            (e ≡ true → p ≡ false) → (e ≡ true → r ≡ false) → (b ≡ true → p ≡ true) → (b ≡ true → q ≡ false) →
            pick b (not (pick e (not o) o)) (pick e (not o) o) ≡ ((p && not (b || q)) || (e || r))
        flips p q r e b o h1 h2 h3 h4 h5 h6 h7 = grind arith

    -- .. and with the whole path changed
    changed_all : (v : ℕ) → toggled s back t (suc (twice m)) v ≡ ((s v && not (among (λ j. back (mark back t j)) m v)) || among (mark back t) (suc m) v)
    changed_all v = flips (s v) (among (λ j. back (mark back t j)) m v) (among (mark back t) m v)
        (eqb v (mark back t m)) (toggled s back t (twice m) v)
        (changed_pairs m (omega arith) v) (backs_held m v (omega arith)) (marks_fresh m v (omega arith))
        (λ e. (marks_new m v (omega arith) e).0) (λ e. (marks_new m v (omega arith) e).1)
      where
        flips : (p q r e o : Bool) → o ≡ ((p && not q) || r) → (q ≡ true → p ≡ true) → (r ≡ true → p ≡ false) →
            (e ≡ true → p ≡ false) → (e ≡ true → r ≡ false) → pick e (not o) o ≡ ((p && not q) || (e || r))
        flips p q r e o h1 h2 h3 h4 h5 = grind arith

    -- counted from the start or from the end, the elements are the same
    same_marks : (v : ℕ) → among (comes back t m) (suc m) v ≡ among (mark back t) (suc m) v
    same_marks v = among_same (comes back t m) (mark back t) (suc m) v
        (λ i h. among_at (mark back t) (suc m) (m - i) (omega arith))
        (λ i h. subst (λ j. among (comes back t m) (suc m) (mark back t j) ≡ true) (over i h) (among_at (comes back t m) (suc m) (m - i) (omega arith)))
      where
        over : (i : ℕ) → i < suc m → m - (m - i) ≡ i
        over i h = omega arith

    -- likewise for those that go
    same_backs : (v : ℕ) → among (goes back t m) m v ≡ among (λ j. back (mark back t j)) m v
    same_backs v = among_same (goes back t m) (λ j. back (mark back t j)) m v
        (λ i h. among_at (λ j. back (mark back t j)) m (m - suc i) (omega arith))
        (λ i h. subst (λ j. among (goes back t m) m (back (mark back t j)) ≡ true) (over i h) (among_at (goes back t m) m (m - suc i) (omega arith)))
      where
        over : (i : ℕ) → i < m → m - suc (m - suc i) ≡ i
        over i h = omega arith

    -- the predecessors of the end
    predecessors : Predecessors n f g w a s d k back t m
    predecessors = record {
      steps = whole;
      best = best_path;
      adds = path_adds;
      changed = λ v. subst (λ j. toggled s back t j v ≡ along s (comes back t m) (goes back t m) m v) (sym whole)
          (joined (s v) (toggled s back t (suc (twice m)) v) (changed_all v) (same_backs v) (same_marks v));
    }
      where
        joined : (p o : Bool) {q q' r r' : Bool} → o ≡ ((p && not q) || r) → q' ≡ q → r' ≡ r → o ≡ ((p && not q') || r')
        joined p o h1 h2 h3 = cc

-- complete labels give a best path
pub labels_best : LabelsBest
labels_best n f g w a loss s reached d k back t light state labels end =
    let h = half n f g w a s reached d k back t labels end in
    (h.0, predecessors n f g w a loss s reached d k back t light state labels end h.0 h.1)
