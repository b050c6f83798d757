-- A path that repeats an element can be shortened without losing weight, where the set has a weight splitting.
use Rattle.std.proofs.Common.{◌≡◌, ℕ, zero, suc, ◌+◌, ◌-◌, ◌<◌, ◌≤◌, Bool, true, ◌⊎◌, sym, ap, ◌∙◌, subst, subst₂, inl, inr, ⊎_elim, arith}
use Rattle.std.proofs.lemmas.Bool.{cases_lt, cases_eq}
use Rattle.sets.specs.Matroid.{Set, without, with}
use Rattle.matroid.specs.Optimal.{Split}
use Rattle.exchange.specs.Paths.{total, Augmenting, Distinct, NoMore}
use Rattle.exchange.proofs.Cuts.{cut, later, total_cut}
use Rattle.exchange.proofs.Cycles.{cycle_first, cycle_second}
use Rattle.exchange.proofs.Shortcuts.{shortcut_first, shortcut_second}

-- a value is met among the first m of a sequence, or it is not
meets : (z : ℕ → ℕ) (v m : ℕ) → ((i : ℕ) → i < m → z i ≡ v → ⊥) ⊎ ((i : ℕ) × (i < m) × (z i ≡ v))
meets z v zero = inl (λ i h e. omega arith)
meets z v (suc m) = ⊎_elim
    (λ (here : z m ≡ v). inr (m, omega arith, here))
    (λ (here : z m ≡ v → ⊥). ⊎_elim
    (λ (never : (i : ℕ) → i < m → z i ≡ v → ⊥). inl (λ i h e. ⊎_elim
    (λ (l : i < m). never i l e)
    (λ (l : m ≤ i). let same : i ≡ m = omega arith in here (subst (λ j. z j ≡ v) same e))
    (cases_lt i m)))
    (λ (once : (i : ℕ) × (i < m) × (z i ≡ v)). let small : once.0 < m = once.1 in inr (once.0, omega arith, once.2))
    (meets z v m))
    (cases_eq (z m) v)

-- the first m of a sequence are different, or two of them are equal
pub repeats : (z : ℕ → ℕ) (m : ℕ) →
    ((i j : ℕ) → i < m → j < m → z i ≡ z j → i ≡ j) ⊎ ((i : ℕ) × (d : ℕ) × (suc i + d < m) × (z i ≡ z (suc i + d)))
repeats z zero = inl (λ i j h l e. omega arith)
repeats z (suc m) = ⊎_elim
    (λ (once : (i j : ℕ) → i < m → j < m → z i ≡ z j → i ≡ j). ⊎_elim
    (λ (never : (i : ℕ) → i < m → z i ≡ z m → ⊥). inl (λ i j h l e. different once never i j h l e))
    (λ (met : (i : ℕ) × (i < m) × (z i ≡ z m)).
    let small : met.0 < m = met.1 in
    let last : suc met.0 + (m - suc met.0) ≡ m = omega arith in
    inr (met.0, m - suc met.0, omega arith, subst (λ j. z met.0 ≡ z j) (sym last) met.2))
    (meets z (z m) m))
    (λ (twice : (i : ℕ) × (d : ℕ) × (suc i + d < m) × (z i ≡ z (suc i + d))).
    let small : suc twice.0 + twice.1 < m = twice.2 in
    inr (twice.0, twice.1, omega arith, twice.3))
    (repeats z m)
  where
    different : ((i j : ℕ) → i < m → j < m → z i ≡ z j → i ≡ j) → ((i : ℕ) → i < m → z i ≡ z m → ⊥) →
        (i j : ℕ) → i < suc m → j < suc m → z i ≡ z j → i ≡ j
    different once never i j h l e = ⊎_elim
        (λ (a : i < m). ⊎_elim
        (λ (b : j < m). once i j a b e)
        (λ (b : m ≤ j). let q : j ≡ m = omega arith in absurd (never i a (subst (λ r. z i ≡ z r) q e)))
        (cases_lt j m))
        (λ (a : m ≤ i). let p : i ≡ m = omega arith in ⊎_elim
        (λ (b : j < m). absurd (never j b (subst (λ r. z j ≡ z r) p (sym e))))
        (λ (b : m ≤ j). omega arith)
        (cases_lt j m))
        (cases_lt i m)

-- what a path with a part left out weighs
pub cut_weighs : (w x : ℕ → ℕ) (k d e p : ℕ) → k ≡ d + e → p ≤ e → total w (cut x p d) e + total w (later x p) d ≡ total w x k
cut_weighs w x k d e p h l = let c : total w (cut x p d) e + total w (later x p) d ≡ total w x (d + e) = total_cut w x p d e l in
    let same : total w x k ≡ total w x (d + e) = ap (total w x) h in
    omega arith

-- a path of different elements, with fewer steps, that adds no less
pub record Shorter (n : ℕ) (f g : Set → Bool) (w : ℕ → ℕ) (s : Set) (k : ℕ) (x y : ℕ → ℕ) : Type 0 where
  pub steps : ℕ
  pub comes : ℕ → ℕ
  pub goes : ℕ → ℕ
  pub path : Augmenting n f g s steps comes goes
  pub fewer : steps < k
  pub adds : NoMore w k x y steps comes goes

module _ (n : ℕ) (f g : Set → Bool) (w a b : ℕ → ℕ) (s : Set) (split : Split n f g w a b s) where
  -- an element that comes twice
  shorter_x : (k : ℕ) (x y : ℕ → ℕ) (i d : ℕ) → Augmenting n f g s k x y → suc i + d ≤ k → x i ≡ x (suc i + d) → Shorter n f g w s k x y
  shorter_x k x y i d path h same =
      let e : ℕ = k - suc d in
      let whole : k ≡ suc d + e = omega arith in
      let there : suc d + i ≡ suc i + d = omega arith in
      let cx : total w (cut x (suc i) (suc d)) (suc e) + total w (later x (suc i)) (suc d) ≡ total w x (suc k) =
      cut_weighs w x (suc k) (suc d) (suc e) (suc i) (omega arith) (omega arith) in
      let cy : total w (cut y i (suc d)) e + total w (later y i) (suc d) ≡ total w y k =
      cut_weighs w y k (suc d) e i whole (omega arith) in
      let less : total w (later x (suc i)) (suc d) ≤ total w (later y i) (suc d) =
      cycle_second n f g w a b s k x y split path.route i d (omega arith)
      (subst (λ v. g (with (without s (y i)) v) ≡ true) same (path.route.by_second i (omega arith))) in
      record {
        steps = e;
        comes = cut x (suc i) (suc d);
        goes = cut y i (suc d);
        path = shortcut_second n f g s (suc d) e i x y (omega arith) (subst (λ q. Augmenting n f g s q x y) whole path)
            (λ l. subst (λ v. g (with (without s (y (suc d + i))) v) ≡ true) (ap x there ∙ sym same) (path.route.by_second (suc d + i) (omega arith)))
            (λ l. let last : k ≡ suc i + d = omega arith in
            subst (λ v. g (with s v) ≡ true) (ap x last ∙ sym same) path.route.sink);
        fewer = omega arith;
        adds = omega arith;
      }

  -- an element that goes twice
  shorter_y : (k : ℕ) (x y : ℕ → ℕ) (i d : ℕ) → Augmenting n f g s k x y → suc i + d < k → y i ≡ y (suc i + d) → Shorter n f g w s k x y
  shorter_y k x y i d path h same =
      let e : ℕ = k - suc d in
      let whole : k ≡ suc d + e = omega arith in
      let there : suc (suc i + d) ≡ suc d + suc i = omega arith in
      let cx : total w (cut x (suc i) (suc d)) (suc e) + total w (later x (suc i)) (suc d) ≡ total w x (suc k) =
      cut_weighs w x (suc k) (suc d) (suc e) (suc i) (omega arith) (omega arith) in
      let cy : total w (cut y (suc i) (suc d)) e + total w (later y (suc i)) (suc d) ≡ total w y k =
      cut_weighs w y k (suc d) e (suc i) whole (omega arith) in
      let less : total w (later x (suc i)) (suc d) ≤ total w (later y (suc i)) (suc d) =
      cycle_first n f g w a b s k x y split path.route (suc i) d h
      (subst (λ v. f (with (without s v) (x (suc i))) ≡ true) same (path.route.by_first i (omega arith))) in
      record {
        steps = e;
        comes = cut x (suc i) (suc d);
        goes = cut y (suc i) (suc d);
        path = shortcut_first n f g s (suc d) e (suc i) x y (omega arith) (subst (λ q. Augmenting n f g s q x y) whole path)
            (λ z. absurd (omega arith))
            (λ j z. let at : i ≡ j = omega arith in
            subst₂ (λ u q. f (with (without s u) (x q)) ≡ true) (sym same ∙ ap y at) there (path.route.by_first (suc i + d) h));
        fewer = omega arith;
        adds = omega arith;
      }

  -- where an element is repeated there is a shorter path
  pub distinct_or_shorter : (k : ℕ) (x y : ℕ → ℕ) → Augmenting n f g s k x y → Distinct k x y ⊎ Shorter n f g w s k x y
  distinct_or_shorter k x y path = ⊎_elim
      (λ xs. ⊎_elim
      (λ ys. inl (record { comes_once = λ i j h l e. xs i j (omega arith) (omega arith) e; goes_once = ys }))
      (λ twice. inr (shorter_y k x y twice.0 twice.1 path twice.2 twice.3))
      (repeats y k))
      (λ twice. let small : suc twice.0 + twice.1 < suc k = twice.2 in
      inr (shorter_x k x y twice.0 twice.1 path (omega arith) twice.3))
      (repeats x (suc k))

  -- .. and one that repeats none
  pub shorten : (m k : ℕ) (x y : ℕ → ℕ) → k < m → Augmenting n f g s k x y →
      Distinct k x y ⊎ ((r : Shorter n f g w s k x y) × Distinct r.steps r.comes r.goes)
  shorten zero k x y h path = absurd (omega arith)
  shorten (suc m) k x y h path = ⊎_elim inl
      (λ (r : Shorter n f g w s k x y). inr (join r (shorten m r.steps r.comes r.goes (omega arith) r.path)))
      (distinct_or_shorter k x y path)
    where
      join : (r : Shorter n f g w s k x y) →
          Distinct r.steps r.comes r.goes ⊎ ((q : Shorter n f g w s r.steps r.comes r.goes) × Distinct q.steps q.comes q.goes) →
          (q : Shorter n f g w s k x y) × Distinct q.steps q.comes q.goes
      join r = elim [
        | inl once ↦ (r, once)
        | inr more ↦ (
          record {
            steps = more.0.steps;
            comes = more.0.comes;
            goes = more.0.goes;
            path = more.0.path;
            fewer = omega (arith, more.0.fewer, r.fewer);
            adds = omega (arith, more.0.adds, r.adds);
          },
          more.1,
        )
      ]
