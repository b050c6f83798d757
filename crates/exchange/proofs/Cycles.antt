-- Cycles of exchanges: by a weight splitting, what comes around a cycle weighs no more than what goes.
use Rattle.std.proofs.Common.{◌≡◌, ℕ, zero, suc, ◌+◌, ◌<◌, ◌≤◌, Bool, true, refl, subst, add-zero, add-suc, arith}
use Rattle.sets.specs.Matroid.{Set, without, with}
use Rattle.matroid.specs.Optimal.{Split}
use Rattle.exchange.specs.Paths.{total, Route}
use Rattle.exchange.proofs.Cuts.{later}

-- what weighs less one by one weighs less together
pub total_le : (a x y : ℕ → ℕ) (d : ℕ) → ((i : ℕ) → i < d → a (x i) ≤ a (y i)) → total a x d ≤ total a y d
total_le a x y zero less = omega arith
total_le a x y (suc d) less =
    let r : total a x d ≤ total a y d = total_le a x y d (λ i h. less i (omega arith)) in
    let e : a (x d) ≤ a (y d) = less d (omega arith) in
    omega arith

-- the same where the first x comes last
pub total_shifted : (a x y : ℕ → ℕ) (d : ℕ) → ((i : ℕ) → i < d → a (x (suc i)) ≤ a (y i)) → total a x (suc d) ≤ a (x 0) + total a y d
total_shifted a x y zero less = omega arith
total_shifted a x y (suc d) less =
    let r : total a x (suc d) ≤ a (x 0) + total a y d = total_shifted a x y d (λ i h. less i (omega arith)) in
    let e : a (x (suc d)) ≤ a (y d) = less d (omega arith) in
    omega arith

-- the same where the first y goes last
pub total_shifted_back : (b x y : ℕ → ℕ) (d : ℕ) → ((i : ℕ) → i < d → b (x i) ≤ b (y (suc i))) → total b x d + b (y 0) ≤ total b y (suc d)
total_shifted_back b x y zero less = omega arith
total_shifted_back b x y (suc d) less =
    let r : total b x d + b (y 0) ≤ total b y (suc d) = total_shifted_back b x y d (λ i h. less i (omega arith)) in
    let e : b (x d) ≤ b (y (suc d)) = less d (omega arith) in
    omega arith

-- two sequences of the same length have the same lift
total_lifted : (w a b x y : ℕ → ℕ) (lift d : ℕ) → ((i : ℕ) → i < d → a (x i) + b (x i) ≡ w (x i) + lift) →
    ((i : ℕ) → i < d → a (y i) + b (y i) ≡ w (y i) + lift) →
    total a x d + total b x d + total w y d ≡ total a y d + total b y d + total w x d
total_lifted w a b x y lift zero px py = refl
total_lifted w a b x y lift (suc d) px py =
    let r : total a x d + total b x d + total w y d ≡ total a y d + total b y d + total w x d =
    total_lifted w a b x y lift d (λ i h. px i (omega arith)) (λ i h. py i (omega arith)) in
    let ex : a (x d) + b (x d) ≡ w (x d) + lift = px d (omega arith) in
    let ey : a (y d) + b (y d) ≡ w (y d) + lift = py d (omega arith) in
    omega arith

-- less by both parts is less by the whole
total_by_parts : (w a b x y : ℕ → ℕ) (lift d : ℕ) → ((i : ℕ) → i < d → a (x i) + b (x i) ≡ w (x i) + lift) →
    ((i : ℕ) → i < d → a (y i) + b (y i) ≡ w (y i) + lift) →
    total a x d ≤ total a y d → total b x d ≤ total b y d → total w x d ≤ total w y d
total_by_parts w a b x y lift d px py ha hb =
    let r : total a x d + total b x d + total w y d ≡ total a y d + total b y d + total w x d = total_lifted w a b x y lift d px py in
    omega arith

module _ (n : ℕ) (f g : Set → Bool) (w a b : ℕ → ℕ) (s : Set) (k : ℕ) (x y : ℕ → ℕ) (split : Split n f g w a b s) (route : Route n f g s k x y) where
  -- x can come by the first matroid where the y before it goes, so its first part is no greater
  first_step : (i : ℕ) → i < k → a (x (suc i)) ≤ a (y i)
  first_step i h = split.best_first (y i) (x (suc i)) (route.y_below i h) (route.x_below (suc i) (omega arith))
      (route.y_held i h) (route.x_fresh (suc i) (omega arith)) (route.by_first i h)

  -- .. and by the second where the y behind it goes, so its second part is no greater
  second_step : (i : ℕ) → i < k → b (x i) ≤ b (y i)
  second_step i h = split.best_second (y i) (x i) (route.y_below i h) (route.x_below i (omega arith))
      (route.y_held i h) (route.x_fresh i (omega arith)) (route.by_second i h)

  -- x p, y p, .., x (p + d), y (p + d), and by the first matroid x p could come where y (p + d) goes
  pub cycle_first : (p d : ℕ) → p + d < k → f (with (without s (y (p + d))) (x p)) ≡ true →
      total w (later x p) (suc d) ≤ total w (later y p) (suc d)
  cycle_first p d h arc =
      let close : a (x p) ≤ a (y (p + d)) = split.best_first (y (p + d)) (x p) (route.y_below (p + d) h) (route.x_below p (omega arith))
      (route.y_held (p + d) h) (route.x_fresh p (omega arith)) arc in
      let chain : total a (later x p) (suc d) ≤ a (x (p + 0)) + total a (later y p) d =
      total_shifted a (later x p) (later y p) d (λ i l. rw add-suc (first_step (p + i) (omega arith))) in
      let start : a (x (p + 0)) ≡ a (x p) = rw add-zero refl in
      total_by_parts w a b (later x p) (later y p) split.lift (suc d)
      (λ i l. split.parts (x (p + i)) (route.x_below (p + i) (omega arith)))
      (λ i l. split.parts (y (p + i)) (route.y_below (p + i) (omega arith)))
      (omega arith)
      (total_le b (later x p) (later y p) (suc d) (λ i l. second_step (p + i) (omega arith)))

  -- y p, x (p + 1), .., y (p + d), x (p + d + 1), and by the second matroid x (p + d + 1) could come where y p goes
  pub cycle_second : (p d : ℕ) → p + d < k → g (with (without s (y p)) (x (suc p + d))) ≡ true →
      total w (later x (suc p)) (suc d) ≤ total w (later y p) (suc d)
  cycle_second p d h arc =
      let close : b (x (suc p + d)) ≤ b (y p) = split.best_second (y p) (x (suc p + d)) (route.y_below p (omega arith)) (route.x_below (suc p + d) (omega arith))
      (route.y_held p (omega arith)) (route.x_fresh (suc p + d) (omega arith)) arc in
      let step : (i : ℕ) → i < d → b (x (suc p + i)) ≤ b (y (p + suc i)) = λ i l.
      subst (λ q. b (x (suc p + i)) ≤ b (y q)) (shift p i) (second_step (suc p + i) (omega arith)) in
      let chain : total b (later x (suc p)) d + b (y (p + 0)) ≤ total b (later y p) (suc d) =
      total_shifted_back b (later x (suc p)) (later y p) d step in
      let start : b (y (p + 0)) ≡ b (y p) = rw add-zero refl in
      total_by_parts w a b (later x (suc p)) (later y p) split.lift (suc d)
      (λ i l. split.parts (x (suc p + i)) (route.x_below (suc p + i) (omega arith)))
      (λ i l. split.parts (y (p + i)) (route.y_below (p + i) (omega arith)))
      (total_le a (later x (suc p)) (later y p) (suc d) (λ i l. subst (λ q. a (x q) ≤ a (y (p + i))) (next p i) (first_step (p + i) (omega arith))))
      (omega arith)
    where
      shift : (p i : ℕ) → suc p + i ≡ p + suc i
      shift p i = omega arith

      next : (p i : ℕ) → suc (p + i) ≡ suc p + i
      next p i = omega arith
