-- A path that adds all that the state allows leads to a state again, with the same potentials.
use Rattle.std.proofs.Common.{◌≡◌, ℕ, suc, ◌+◌, ◌-◌, ◌*◌, ◌<◌, ◌≤◌, Bool, true, false, not, ◌&&◌, ◌||◌, ap, arith}
use Rattle.sets.specs.Matroid.{Set, size, weight, with, Matroid}
use Rattle.sets.proofs.FiniteSets.{least, size_with}
use Rattle.sets.proofs.Weights.{weight_with}
use Rattle.matroid.specs.Optimal.{Best, Split}
use Rattle.matroid.specs.Exchanges.{among}
use Rattle.matroid.proofs.OneMatroid.{heaviest_by_one, as_good_as_best, best_of_one_more}
use Rattle.matroid.proofs.Optimality.{split_sum}
use Rattle.exchange.specs.Round.{top, State}
use Rattle.exchange.specs.Paths.{total, Augmenting, Augmented, along}
use Rattle.exchange.proofs.Along.{among_at}
use Rattle.exchange.proofs.BestPaths.{comes_for}

-- the second part of a weight, lifted by the loss
abbrev pub rest : (ℕ → ℕ) → (ℕ → ℕ) → ℕ → ℕ → ℕ
rest w a loss x = w x + (loss - a x)

-- both parts of a weight add up to it
rest_parts : (w a loss : ℕ) → a ≤ loss → a + (w + (loss - a)) ≡ w + loss
rest_parts w a loss h = omega arith

-- a state holds a weight splitting
pub state_split : (n : ℕ) (f g : Set → Bool) (w a : ℕ → ℕ) (loss : ℕ) (s : Set) → State n f g w a loss s → Split n f g w a (rest w a loss) s
state_split n f g w a loss s state = record {
  first = state.first;
  second = state.second;
  lift = loss;
  parts = λ x h. rest_parts (w x) (a x) loss (state.small x h);
  best_first = state.first_best;
  best_second = λ y x hy hx held out arc. less (w x) (a x) (w y) (a y) loss (state.second_best y x hy hx held out arc) (state.small y hy) (state.small x hx);
}
  where
    less : (wx ax wy ay loss : ℕ) → wx + ay ≤ wy + ax → ay ≤ loss → ax ≤ loss → wx + (loss - ax) ≤ wy + (loss - ay)
    less wx ax wy ay loss h l m = omega arith

module _ (n : ℕ) (f g : Set → Bool) (w a : ℕ → ℕ) (loss : ℕ) (s : Set) (k : ℕ) (x y : ℕ → ℕ)
    (first : Matroid n f) (second : Matroid n g) (state : State n f g w a loss s) (path : Augmenting n f g s k x y)
    (aug : Augmented n f g w s k x y) (adds : total w x (suc k) + loss ≡ total w y k + top) where
  -- the second part, the new set, and the splitting of the old one
  abbrev b : ℕ → ℕ
  b = rest w a loss

  -- the new set
  abbrev new : Set
  new = along s x y k

  -- the splitting of the old set
  split : Split n f g w a b s
  split = state_split n f g w a loss s state

  -- both parts add up
  parts : (z : ℕ) → z < n → a z + b z ≡ w z + loss
  parts z h = rest_parts (w z) (a z) loss (state.small z h)

  -- what could be added by the second matroid has a second part of at most `top`
  sink_part : (z : ℕ) → z < n → s z ≡ false → g (with s z) ≡ true → b z ≤ top
  sink_part z h out sink = plain (w z) (a z) loss top (state.sinks z h out sink) (state.small z h)
    where
      plain : (w a loss top : ℕ) → w + loss ≤ top + a → a ≤ loss → w + (loss - a) ≤ top
      plain w a loss top h l = omega arith

  -- of the elements that could be added by the second matroid one that has the greatest second part
  heaviest_sink : (z : ℕ) × (z < n) × ((not (s z) && g (with s z)) ≡ true) × ((v : ℕ) → v < n → (not (s v) && g (with s v)) ≡ true → top - b z ≤ top - b v)
  heaviest_sink = least n (λ z. not (s z) && g (with s z)) (λ z. top - b z) (x k) (path.route.x_below k (omega arith))
      (joined (s (x k)) (g (with s (x k))) (path.route.x_fresh k (omega arith)) path.route.sink)
    where
      joined : (p q : Bool) → p ≡ false → q ≡ true → (not p && q) ≡ true
      joined p q h l = grind arith

  -- the set with its first source is a best one by the first part
  start_best : Best n f a (with s (x 0))
  start_best = best_of_one_more n f a s (x 0) first state.first_best
      (λ z h out source. let e : a z ≡ 0 = state.sources z h out source in omega arith)

  -- its source has no first part
  start_zero : a (x 0) ≡ 0
  start_zero = state.sources (x 0) (path.route.x_below 0 (omega arith)) (path.route.x_fresh 0 (omega arith)) path.source

  -- the parts of the old set and of the new one
  old_sum : weight n a s + weight n b s ≡ weight n w s + loss * size n s
  old_sum = split_sum n w a b loss s parts

  -- .. of the new one, which has one element more
  new_sum : weight n a new + weight n b new ≡ weight n w new + (loss * size n s + loss)
  new_sum =
      let sum : weight n a new + weight n b new ≡ weight n w new + loss * size n new = split_sum n w a b loss new parts in
      let sized : loss * size n new ≡ loss * suc (size n s) = ap (λ q. loss * q) aug.sized in
      omega arith

  record Moved : Type 0 where
    first_best : Best n f a new
    second_best : Best n g b new

  module _ (z : ℕ) (hz : z < n) (out : s z ≡ false) (sink : g (with s z) ≡ true)
      (most : (v : ℕ) → v < n → s v ≡ false → g (with s v) ≡ true → b v ≤ b z) where
    -- the set with a heaviest sink is a best one by the second part
    end_best : Best n g b (with s z)
    end_best = best_of_one_more n g b s z second split.best_second most

    -- the parts leave no room: the new set weighs by each part as much as a best one
    moved : Moved
    moved =
        let start_size : size n (with s (x 0)) ≡ suc (size n s) = size_with n s (x 0) (path.route.x_below 0 (omega arith)) (path.route.x_fresh 0 (omega arith)) in
        let end_size : size n (with s z) ≡ suc (size n s) = size_with n s z hz out in
        let start_weight : weight n a (with s (x 0)) ≡ weight n a s + a (x 0) =
        weight_with n a s (x 0) (path.route.x_below 0 (omega arith)) (path.route.x_fresh 0 (omega arith)) in
        let end_weight : weight n b (with s z) ≡ weight n b s + b z = weight_with n b s z hz out in
        let new_size : size n new ≡ suc (size n s) = aug.sized in
        let la : weight n a new ≤ weight n a (with s (x 0)) =
        heaviest_by_one n f a (with s (x 0)) new first path.source aug.first (omega arith) start_best in
        let lb : weight n b new ≤ weight n b (with s z) =
        heaviest_by_one n g b (with s z) new second sink aug.second (omega arith) end_best in
        let bz : b z ≤ top = sink_part z hz out sink in
        let gained : weight n w new + total w y k ≡ weight n w s + total w x (suc k) = aug.gained in
        let both : (weight n a new ≡ weight n a (with s (x 0))) × (weight n b new ≡ weight n b (with s z)) =
        tight (weight n a s) (weight n b s) (weight n w s) (loss * size n s) (weight n a new) (weight n b new) (weight n w new) loss
        (weight n a (with s (x 0))) (weight n b (with s z)) (a (x 0)) (b z) top (total w x (suc k)) (total w y k)
        old_sum new_sum start_weight end_weight start_zero bz la lb gained adds in
        record {
          first_best = as_good_as_best n f a (with s (x 0)) new first path.source aug.first (omega arith) both.0 start_best;
          second_best = as_good_as_best n g b (with s z) new second sink aug.second (omega arith) both.1 end_best;
        }
      where
        tight : (ao bo wo c an bn wn loss ax bz a0 b0 top tx ty : ℕ) → ao + bo ≡ wo + c → an + bn ≡ wn + (c + loss) → ax ≡ ao + a0 → bz ≡ bo + b0 →
            a0 ≡ 0 → b0 ≤ top → an ≤ ax → bn ≤ bz → wn + ty ≡ wo + tx → tx + loss ≡ ty + top → (an ≡ ax) × (bn ≡ bz)
        tight ao bo wo c an bn wn loss ax bz a0 b0 top tx ty h1 h2 h3 h4 h5 h6 h7 h8 h9 h10 = (omega arith, omega arith)

  -- with the heaviest sink that there is
  found : Moved
  found = moved heaviest_sink.0 heaviest_sink.1 (front (s heaviest_sink.0) (g (with s heaviest_sink.0)) heaviest_sink.2)
      (behind (s heaviest_sink.0) (g (with s heaviest_sink.0)) heaviest_sink.2)
      (λ v h out sink. flip (b v) (b heaviest_sink.0) top (sink_part v h out sink)
      (heaviest_sink.3 v h (joined (s v) (g (with s v)) out sink)))
    where
      front : (p q : Bool) → (not p && q) ≡ true → p ≡ false
      front p q e = grind arith

      behind : (p q : Bool) → (not p && q) ≡ true → q ≡ true
      behind p q e = grind arith

      joined : (p q : Bool) → p ≡ false → q ≡ true → (not p && q) ≡ true
      joined p q h l = grind arith

      flip : (p q top : ℕ) → p ≤ top → top - q ≤ top - p → p ≤ q
      flip p q top h l = omega arith

  -- the elements of both ends are in the new set
  start_in : new (x 0) ≡ true
  start_in = right (s (x 0) && not (among y k (x 0))) (among x (suc k) (x 0)) (among_at x (suc k) 0 (omega arith))
    where
      right : (p q : Bool) → q ≡ true → (p || q) ≡ true
      right p q h = grind arith

  -- the last x is in the new set
  end_in : new (x k) ≡ true
  end_in = right (s (x k) && not (among y k (x k))) (among x (suc k) (x k)) (among_at x (suc k) k (omega arith))
    where
      right : (p q : Bool) → q ≡ true → (p || q) ≡ true
      right p q h = grind arith

  -- the new set has the same potentials and the same loss
  pub moves : State n f g w a loss (along s x y k)
  moves = record {
    first = aug.first;
    second = aug.second;
    first_best = found.first_best;
    second_best = λ v u hv hu held out arc. less (w u) (a u) (w v) (a v) loss (found.second_best v u hv hu held out arc) (state.small u hu) (state.small v hv);
    sources = λ u h out source.
        let l : a u ≤ a (x 0) = found.first_best (x 0) u (path.route.x_below 0 (omega arith)) h start_in out (comes_for n f new (x 0) u first source) in
        omega (arith, start_zero);
    sinks = λ u h out sink.
        let l : b u ≤ b (x k) = found.second_best (x k) u (path.route.x_below k (omega arith)) h end_in out (comes_for n g new (x k) u second sink) in
        let e : b (x k) ≤ top = sink_part (x k) (path.route.x_below k (omega arith)) (path.route.x_fresh k (omega arith)) path.route.sink in
        plain (w u) (a u) loss (b (x k)) top l e;
    small = state.small;
  }
    where
      less : (wx ax wy ay loss : ℕ) → wx + (loss - ax) ≤ wy + (loss - ay) → ax ≤ loss → ay ≤ loss → wx + ay ≤ wy + ax
      less wx ax wy ay loss h l m = omega arith

      plain : (w a loss c top : ℕ) → w + (loss - a) ≤ c → c ≤ top → w + loss ≤ top + a
      plain w a loss c top h l = omega arith
