-- Best paths lead to allowed sets, where the set has a weight splitting.
use Rattle.std.proofs.Common.{◌≡◌, ℕ, suc, ◌+◌, ◌-◌, ◌<◌, ◌≤◌, Bool, true, false, ◌⊎◌, sym, ap, ◌∙◌, subst, subst₂, inl, inr, ⊎_elim, arith}
use Rattle.std.proofs.lemmas.Bool.{cases_lt, cases_Bool, cases_order}
use Rattle.sets.specs.Matroid.{Set, size, without, with, Matroid}
use Rattle.sets.proofs.MatroidLaws.{allowed_within, allowed_same}
use Rattle.sets.proofs.FiniteSets.{size_same}
use Rattle.matroid.specs.Optimal.{Split}
use Rattle.matroid.specs.Exchanges.{exchanged, Falling, ManyExchangesByKeysAndOne}
use Rattle.exchange.specs.Paths.{total, Augmenting, Distinct, NoMore, AsMuch, BestPath, along, Augmented, BestAugments, BestOfAll}
use Rattle.exchange.proofs.Cuts.{cut, later, total_parts}
use Rattle.exchange.proofs.Cycles.{cycle_first, cycle_second}
use Rattle.exchange.proofs.Shortcuts.{shortcut_first, shortcut_second, shortcut_distinct}
use Rattle.exchange.proofs.Shorten.{Shorter, shorten, cut_weighs}
use Rattle.exchange.proofs.Along.{along_first, along_second, along_weighs}

-- what stands between two places, with the places as they come
pub total_between : (w x : ℕ → ℕ) (p d q : ℕ) → q ≡ p + d → total w x q ≡ total w x p + total w (later x p) d
total_between w x p d q h =
    let parts : total w x (p + d) ≡ total w x p + total w (later x p) d = total_parts w x p d in
    let same : total w x q ≡ total w x (p + d) = ap (total w x) h in
    omega arith

-- an element that can be added can come for any other
pub comes_for : (n : ℕ) (f : Set → Bool) (s : Set) (y x : ℕ) → Matroid n f → f (with s x) ≡ true → f (with (without s y) x) ≡ true
comes_for n f s y x law h = allowed_within law (with (without s y) x) (with s x) (λ v l e. grind arith) h

-- keys in falling order, or equal keys
falls : (p q i j : ℕ) → p ≤ q → i < j → (p < q) ⊎ ((p ≡ q) × (i < j))
falls p q i j h l = ⊎_elim (λ (b : p < q). inl b) (λ (b : q ≤ p). inr (omega arith, l)) (cases_lt p q)

module _ (n : ℕ) (f g : Set → Bool) (w a b : ℕ → ℕ) (s : Set) (k : ℕ) (x y : ℕ → ℕ) (split : Split n f g w a b s) (best : BestPath n f g w s k x y) where
  -- a best path repeats no element
  pub best_distinct : Distinct k x y
  best_distinct = ⊎_elim (λ once. once)
      (λ r. absurd (refute r.0 r.1))
      (shorten n f g w a b s split (suc k) k x y (omega arith) best.path)
    where
      refute : (r : Shorter n f g w s k x y) → Distinct r.steps r.comes r.goes → ⊥
      refute r once =
          let up : NoMore w r.steps r.comes r.goes k x y = best.most r.steps r.comes r.goes r.path once in
          let down : NoMore w k x y r.steps r.comes r.goes = r.adds in
          let few : k ≤ r.steps = best.fewest r.steps r.comes r.goes r.path once (omega arith) in
          let fewer : r.steps < k = r.fewer in
          omega arith

  -- it is best among all paths
  pub best_of_all : (l : ℕ) (u v : ℕ → ℕ) → Augmenting n f g s l u v → NoMore w l u v k x y × (AsMuch w l u v k x y → k ≤ l)
  best_of_all l u v path = ⊎_elim
      (λ (once : Distinct l u v). (best.most l u v path once, best.fewest l u v path once))
      (λ r. behind r.0 r.1)
      (shorten n f g w a b s split (suc l) l u v (omega arith) path)
    where
      behind : (r : Shorter n f g w s l u v) → Distinct r.steps r.comes r.goes → NoMore w l u v k x y × (AsMuch w l u v k x y → k ≤ l)
      behind r once =
          let up : NoMore w r.steps r.comes r.goes k x y = best.most r.steps r.comes r.goes r.path once in
          let down : NoMore w l u v r.steps r.comes r.goes = r.adds in
          let fewer : r.steps < l = r.fewer in (
            omega arith,
            λ same.
                let few : k ≤ r.steps = best.fewest r.steps r.comes r.goes r.path once (omega arith) in
                omega arith,
          )

  -- a shortcut has fewer steps, so it loses weight
  loses : (d e p q : ℕ) → k ≡ suc d + e → p ≤ suc e → q ≤ e → Augmenting n f g s e (cut x p (suc d)) (cut y q (suc d)) →
      total w (later y q) (suc d) < total w (later x p) (suc d)
  loses d e p q whole px qy path = ⊎_elim (λ (l : total w (later y q) (suc d) < total w (later x p) (suc d)). l)
      (λ (l : total w (later x p) (suc d) ≤ total w (later y q) (suc d)).
      let once : Distinct e (cut x p (suc d)) (cut y q (suc d)) =
      shortcut_distinct (suc d) e p q x y (subst (λ m. Distinct m x y) whole best_distinct) in
      let cx : total w (cut x p (suc d)) (suc e) + total w (later x p) (suc d) ≡ total w x (suc k) =
      cut_weighs w x (suc k) (suc d) (suc e) p (omega arith) px in
      let cy : total w (cut y q (suc d)) e + total w (later y q) (suc d) ≡ total w y k = cut_weighs w y k (suc d) e q whole qy in
      let up : NoMore w e (cut x p (suc d)) (cut y q (suc d)) k x y = best.most e (cut x p (suc d)) (cut y q (suc d)) path once in
      let few : k ≤ e = best.fewest e (cut x p (suc d)) (cut y q (suc d)) path once (omega arith) in
      absurd (omega arith))
      (cases_lt (total w (later y q) (suc d)) (total w (later x p) (suc d)))

  -- a shortcut by the first matroid loses weight
  loses_first : (d e p : ℕ) → k ≡ suc d + e → p ≤ e → (p ≡ 0 → f (with s (x (suc d))) ≡ true) →
      ((i : ℕ) → suc i ≡ p → f (with (without s (y i)) (x (suc d + p))) ≡ true) →
      total w (later y p) (suc d) < total w (later x p) (suc d)
  loses_first d e p whole h start step = loses d e p p whole (omega arith) h
      (shortcut_first n f g s (suc d) e p x y h (subst (λ m. Augmenting n f g s m x y) whole best.path) start step)

  -- a shortcut by the second matroid loses weight
  loses_second : (d e p : ℕ) → k ≡ suc d + e → p ≤ e → (p < e → g (with (without s (y (suc d + p))) (x p)) ≡ true) →
      (p ≡ e → g (with s (x p)) ≡ true) → total w (later y p) (suc d) < total w (later x (suc p)) (suc d)
  loses_second d e p whole h step last = loses d e (suc p) p whole (omega arith) h
      (shortcut_second n f g s (suc d) e p x y h (subst (λ m. Augmenting n f g s m x y) whole best.path) step last)

  -- no later x is a source
  no_later_source : Matroid n f → (i : ℕ) → i < k → f (with s (x (suc i))) ≡ false
  no_later_source law i h = ⊎_elim
      (λ (yes' : f (with s (x (suc i))) ≡ true).
      let gain : total w (later y 0) (suc i) < total w (later x 0) (suc i) =
      loses_first i (k - suc i) 0 (omega arith) (omega arith) (λ z. yes') (λ j z. absurd (omega arith)) in
      let back : total w (later x 0) (suc i) ≤ total w (later y 0) (suc i) =
      cycle_first n f g w a b s k x y split best.path.route 0 i (omega arith)
      (comes_for n f s (y (0 + i)) (x 0) law best.path.source) in
      absurd (omega arith))
      (λ (no' : f (with s (x (suc i))) ≡ false). no')
      (cases_Bool (f (with s (x (suc i)))))

  -- no earlier x is a sink
  no_earlier_sink : Matroid n g → (i : ℕ) → i < k → g (with s (x i)) ≡ false
  no_earlier_sink law i h = ⊎_elim
      (λ (yes' : g (with s (x i)) ≡ true).
      let d : ℕ = k - suc i in
      let gain : total w (later y i) (suc d) < total w (later x (suc i)) (suc d) =
      loses_second d i i (omega arith) (omega arith) (λ z. absurd (omega arith)) (λ z. yes') in
      let end : k ≡ suc i + d = omega arith in
      let back : total w (later x (suc i)) (suc d) ≤ total w (later y i) (suc d) =
      cycle_second n f g w a b s k x y split best.path.route i d (omega arith)
      (comes_for n g s (y i) (x (suc i + d)) law (subst (λ m. g (with s (x m)) ≡ true) end best.path.route.sink)) in
      absurd (omega arith))
      (λ (no' : g (with s (x i)) ≡ false). no')
      (cases_Bool (g (with s (x i))))

  -- the keys of the pairs by the first matroid: what the path has still to bring, with what has gone
  key_first : ℕ → ℕ
  key_first i = total w y (suc i) + (total w x (suc k) - total w x (suc i))

  -- the keys by the second matroid: what the path has brought, with what has still to go
  key_second : ℕ → ℕ
  key_second i = total w x (suc i) + (total w y k - total w y i)

  -- by the first matroid an exchange across pairs falls by these keys: forward it is a shortcut, backward it closes a cycle
  falling_first : Falling f s y (λ i. x (suc i)) k key_first (λ i. i)
  unfolding key_first
  falling_first i j hi hj apart arc = ⊎_elim (λ (z : i ≡ j). absurd (apart z))
      (⊎_elim
      (λ (l : i < j).
      let d : ℕ = j - suc i in
      let there : suc j ≡ suc d + suc i = omega arith in
      let gain : total w (later y (suc i)) (suc d) < total w (later x (suc i)) (suc d) =
      loses_first d (k - suc d) (suc i) (omega arith) (omega arith) (λ z. absurd (omega arith))
      (λ m z. subst₂ (λ u v. f (with (without s (y u)) (x v)) ≡ true) (same i m z) there arc) in
      let ty : total w y (suc j) ≡ total w y (suc i) + total w (later y (suc i)) (suc d) = total_between w y (suc i) (suc d) (suc j) (omega arith) in
      let tx : total w x (suc j) ≡ total w x (suc i) + total w (later x (suc i)) (suc d) = total_between w x (suc i) (suc d) (suc j) (omega arith) in
      let rest : total w x (suc k) ≡ total w x (suc j) + total w (later x (suc j)) (k - j) = total_between w x (suc j) (k - j) (suc k) (omega arith) in
      inl (omega arith))
      (λ (l : j < i).
      let d : ℕ = i - suc j in
      let there : i ≡ suc j + d = omega arith in
      let back : total w (later x (suc j)) (suc d) ≤ total w (later y (suc j)) (suc d) =
      cycle_first n f g w a b s k x y split best.path.route (suc j) d (omega arith)
      (subst (λ m. f (with (without s (y m)) (x (suc j))) ≡ true) there arc) in
      let ty : total w y (suc i) ≡ total w y (suc j) + total w (later y (suc j)) (suc d) = total_between w y (suc j) (suc d) (suc i) (omega arith) in
      let tx : total w x (suc i) ≡ total w x (suc j) + total w (later x (suc j)) (suc d) = total_between w x (suc j) (suc d) (suc i) (omega arith) in
      let rest : total w x (suc k) ≡ total w x (suc i) + total w (later x (suc i)) (k - i) = total_between w x (suc i) (k - i) (suc k) (omega arith) in
      falls _ _ j i (omega arith) l))
      (cases_order i j)
    where
      same : (i m : ℕ) → suc m ≡ suc i → i ≡ m
      same i m z = omega arith

  -- by the second matroid likewise
  falling_second : Falling g s y x k key_second (λ i. k - i)
  unfolding key_second
  falling_second i j hi hj apart arc = ⊎_elim (λ (z : i ≡ j). absurd (apart z))
      (⊎_elim
      (λ (l : i < j).
      let d : ℕ = j - suc i in
      let there : j ≡ suc i + d = omega arith in
      let back : total w (later x (suc i)) (suc d) ≤ total w (later y i) (suc d) =
      cycle_second n f g w a b s k x y split best.path.route i d (omega arith)
      (subst (λ m. g (with (without s (y i)) (x m)) ≡ true) there arc) in
      let ty : total w y j ≡ total w y i + total w (later y i) (suc d) = total_between w y i (suc d) j (omega arith) in
      let tx : total w x (suc j) ≡ total w x (suc i) + total w (later x (suc i)) (suc d) = total_between w x (suc i) (suc d) (suc j) (omega arith) in
      let rest : total w y k ≡ total w y j + total w (later y j) (k - j) = total_between w y j (k - j) k (omega arith) in
      falls _ _ (k - j) (k - i) (omega arith) (omega arith))
      (λ (l : j < i).
      let d : ℕ = i - suc j in
      let there : i ≡ suc d + j = omega arith in
      let gain : total w (later y j) (suc d) < total w (later x (suc j)) (suc d) =
      loses_second d (k - suc d) j (omega arith) (omega arith)
      (λ z. subst (λ m. g (with (without s (y m)) (x j)) ≡ true) there arc) (λ z. absurd (omega arith)) in
      let ty : total w y i ≡ total w y j + total w (later y j) (suc d) = total_between w y j (suc d) i (omega arith) in
      let tx : total w x (suc i) ≡ total w x (suc j) + total w (later x (suc j)) (suc d) = total_between w x (suc j) (suc d) (suc i) (omega arith) in
      let rest : total w y k ≡ total w y i + total w (later y i) (k - i) = total_between w y i (k - i) k (omega arith) in
      inl (omega arith)))
      (cases_order i j)

  module _ (many : ManyExchangesByKeysAndOne) (first : Matroid n f) (second : Matroid n g) where
    -- by the first matroid x 0 is added and each other x comes for the y before it
    made_first : (f (exchanged (with s (x 0)) y (λ i. x (suc i)) k) ≡ true) × (size n (exchanged (with s (x 0)) y (λ i. x (suc i)) k) ≡ suc (size n s))
    made_first = many n f s (x 0) y (λ i. x (suc i)) k key_first (λ i. i) first
        (record { allowed = split.first; full = no_later_source first; single = best.path.route.by_first })
        (best.path.route.x_below 0 (omega arith)) (best.path.route.x_fresh 0 (omega arith)) best.path.source falling_first

    -- by the second the last x is added and each other x comes for the y behind it
    made_second : g (exchanged (with s (x k)) y x k) ≡ true
    made_second = (many n g s (x k) y x k key_second (λ i. k - i) second
        (record { allowed = split.second; full = no_earlier_sink second; single = best.path.route.by_second })
        (best.path.route.x_below k (omega arith)) (best.path.route.x_fresh k (omega arith)) best.path.route.sink falling_second).0

    -- a best path leads to a set that both allow, of one element more
    pub augmented : Augmented n f g w s k x y
    augmented = record {
      distinct = best_distinct;
      first = sym (allowed_same first (exchanged (with s (x 0)) y (λ i. x (suc i)) k) (along s x y k)
          (λ v h. along_first n f g s k x y best.path.route v)) ∙ made_first.0;
      second = sym (allowed_same second (exchanged (with s (x k)) y x k) (along s x y k)
          (λ v h. along_second n f g s k x y best.path.route v)) ∙ made_second;
      sized = sym (size_same n (exchanged (with s (x 0)) y (λ i. x (suc i)) k) (along s x y k)
          (λ v h. along_first n f g s k x y best.path.route v)) ∙ made_first.1;
      gained = along_weighs n f g s k x y best.path.route w best_distinct;
    }

-- BestAugments, given that many exchanges can be made at once
pub best_augments : ManyExchangesByKeysAndOne → BestAugments
best_augments many n f g w a b s k x y first second split best = augmented n f g w a b s k x y split best many first second

-- a path that is best among those that repeat no element is best among all
pub best_among_all : BestOfAll
best_among_all n f g w a b s k x y split best l u v path = best_of_all n f g w a b s k x y split best l u v path
