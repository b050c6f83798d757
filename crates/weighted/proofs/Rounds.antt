-- The round: from a state, complete labels and an end to the next state, of one element more.
use Rattle.std.proofs.Common.{◌≡◌, ℕ, zero, suc, ◌+◌, ◌-◌, ◌*◌, ◌<◌, ◌≤◌, Bool, not, ◌&&◌, ◌||◌, pos, ◌+ℤ◌, ◌-ℤ◌, ◌≤ℤ◌, sym, refl, subst, arith}
use mathlib.Core.Path.{fun_ext}
use Rattle.std.proofs.lemmas.Int.{ints}
use Rattle.sets.specs.Matroid.{Set, size, weight, Matroid}
use Rattle.sets.proofs.FiniteSets.{size_bound}
use Rattle.sets.proofs.Weights.{weight_mono, weight_constant}
use Rattle.matroid.specs.Exchanges.{among}
use Rattle.matroid.proofs.Optimality.{heaviest, exchanges_suffice}
use Rattle.matroid.proofs.TightExchanges.{many_exchanges_by_keys_and_one}
use Rattle.exchange.specs.Round.{top, State, Labels, End, lost, toggled}
use Rattle.exchange.specs.Paths.{total, Route, Augmented, Distinct, BestPath, NoMore, along}
use Rattle.exchange.specs.Predecessors.{twice, comes, goes, Predecessors}
use Rattle.exchange.proofs.Along.{weight_coming, weight_going}
use Rattle.exchange.proofs.BestPaths.{best_augments, best_among_all}
use Rattle.exchange.proofs.Chains.{twice_is}
use Rattle.exchange.proofs.LabelPaths.{labels_best}
use Rattle.weighted.specs.Next.{raised, Next, Round}
use Rattle.weighted.specs.Steps.{StateSplits, StateHeaviest, BestNext}
use Rattle.weighted.proofs.Raised.{raised_state, loss_rises}
use Rattle.weighted.proofs.Moving.{rest, state_split, moves}

-- a state's set is a heaviest one of its size
pub state_heaviest : StateHeaviest
state_heaviest n f g w a loss s t first second state ft gt same =
    heaviest n f g w a (rest w a loss) s t first second (state_split n f g w a loss s state) ft gt same

-- a state's potentials split the weights in whole numbers
pub state_splits : StateSplits
state_splits n f g w a loss s first second state = exchanges_suffice n f g w (λ x. pos (a x)) (λ x. pos (w x) -ℤ pos (a x)) s first second
    state.first state.second (λ x h. sum (w x) (a x))
    (λ y x hy hx held out arc. small (a x) (a y) (state.first_best y x hy hx held out arc))
    (λ y x hy hx held out arc. less (w x) (a x) (w y) (a y) (state.second_best y x hy hx held out arc))
  where
    sum : (w a : ℕ) → pos a +ℤ (pos w -ℤ pos a) ≡ pos w
    sum w a = omega (arith, ints)

    small : (a b : ℕ) → a ≤ b → pos a ≤ℤ pos b
    small a b h = omega (arith, ints)

    less : (wx ax wy ay : ℕ) → wx + ay ≤ wy + ax → (pos wx -ℤ pos ax) ≤ℤ (pos wy -ℤ pos ay)
    less wx ax wy ay h = omega (arith, ints)

-- the weights of the elements, each counted as one
counted : (x : ℕ → ℕ) (m : ℕ) → total (λ v. 1) x m ≡ m
counted x zero = refl
counted x (suc m) = let r : total (λ v. 1) x m ≡ m = counted x m in omega arith

-- a path of different elements is no longer than there are elements
path_short : (n : ℕ) (f g : Set → Bool) (s : Set) (k : ℕ) (x y : ℕ → ℕ) → Route n f g s k x y → Distinct k x y → suc (k + k) ≤ n
path_short n f g s k x y route once =
    let less : weight n (λ v. 1) (λ v. s v && not (among y k v)) + total (λ v. 1) y k ≡ weight n (λ v. 1) s =
    weight_going n (λ v. 1) y s k route.y_below route.y_held once.goes_once in
    let more : weight n (λ v. 1) (λ v. s v || among x (suc k) v) ≡ weight n (λ v. 1) s + total (λ v. 1) x (suc k) =
    weight_coming n (λ v. 1) x s (suc k) (λ i h. route.x_below i (omega arith)) (λ i h. route.x_fresh i (omega arith))
    (λ i j h l e. once.comes_once i j (omega arith) (omega arith) e) in
    let cx : total (λ v. 1) x (suc k) ≡ suc k = counted x (suc k) in
    let cy : total (λ v. 1) y k ≡ k = counted y k in
    let ws : weight n (λ v. 1) (λ v. s v || among x (suc k) v) ≡ 1 * size n (λ v. s v || among x (suc k) v) = weight_constant n 1 (λ v. s v || among x (suc k) v) in
    let all : size n (λ v. s v || among x (suc k) v) ≤ n = size_bound n (λ v. s v || among x (suc k) v) in
    omega arith

-- a set of light elements is light
weight_light : (n : ℕ) (w : ℕ → ℕ) (s : Set) → ((x : ℕ) → x < n → w x ≤ top) → weight n w s ≤ top * size n s
weight_light n w s light =
    let m : weight n w s ≤ weight n (λ x. top) s = weight_mono n w (λ x. top) s (λ x h e. light x h) in
    let c : weight n (λ x. top) s ≡ top * size n s = weight_constant n top s in
    omega arith

module _ (n : ℕ) (f g : Set → Bool) (w a : ℕ → ℕ) (loss : ℕ) (s reached : Set) (d k back : ℕ → ℕ) (t : ℕ)
    (first : Matroid n f) (second : Matroid n g) (light : (x : ℕ) → x < n → w x ≤ top) (state : State n f g w a loss s)
    (labels : Labels n f g w a s reached d k back) (end : End n g w a s reached d k t) where
  -- the potentials of the next state
  abbrev potentials : ℕ → ℕ
  potentials = raised reached a d (lost w a d t - loss)

  -- a best path leads to a set that both allow
  leads : (l : ℕ) (u v : ℕ → ℕ) → BestPath n f g w s l u v → Augmented n f g w s l u v
  leads l u v best = best_augments many_exchanges_by_keys_and_one n f g w a (rest w a loss) s l u v first second (state_split n f g w a loss s state) best

  -- and the raised potentials are those of that set
  next_state : (l : ℕ) (u v : ℕ → ℕ) → BestPath n f g w s l u v → total w u (suc l) + lost w a d t ≡ total w v l + top →
      State n f g w potentials (lost w a d t) (along s u v l)
  next_state l u v best adds = moves n f g w potentials (lost w a d t) s l u v first second
      (raised_state n f g w a loss s reached d k back t light state labels end) best.path (leads l u v best) adds

  module _ (m : ℕ) (chain : Predecessors n f g w a s d k back t m) where
    -- any other best path adds as much
    best_next_at : (l : ℕ) (u v : ℕ → ℕ) → BestPath n f g w s l u v → State n f g w potentials (lost w a d t) (along s u v l)
    best_next_at l u v best =
        let split = state_split n f g w a loss s state in
        let over : NoMore w m (comes back t m) (goes back t m) l u v =
        (best_among_all n f g w a (rest w a loss) s l u v split best m (comes back t m) (goes back t m) chain.best.path).0 in
        let under : NoMore w l u v m (comes back t m) (goes back t m) =
        (best_among_all n f g w a (rest w a loss) s m (comes back t m) (goes back t m) split chain.best l u v best.path).0 in
        next_state l u v best (sums (total w u (suc l)) (total w v l) (total w (comes back t m) (suc m)) (total w (goes back t m) m) (lost w a d t) top
        over under chain.adds)
      where
        sums : (p q r u lost top : ℕ) → r + q ≤ p + u → p + u ≤ r + q → r + lost ≡ u + top → p + lost ≡ q + top
        sums p q r u lost top h1 h2 h3 = omega arith

    -- the changed set is the set that the path leads to
    same_set : along s (comes back t m) (goes back t m) m ≡ toggled s back t (k t)
    same_set = fun_ext (λ v. sym (chain.changed v))

    -- so the next state is that of the changed set
    next : Next n f g w a loss s reached d k back t
    next =
        let aug = leads m (comes back t m) (goes back t m) chain.best in
        let new_state = next_state m (comes back t m) (goes back t m) chain.best chain.adds in
        let gained : weight n w (along s (comes back t m) (goes back t m) m) + lost w a d t ≡ weight n w s + top =
        sums (weight n w (along s (comes back t m) (goes back t m) m)) (weight n w s) (total w (goes back t m) m)
        (total w (comes back t m) (suc m)) (lost w a d t) top aug.gained chain.adds in
        record {
          state = subst (λ q. State n f g w potentials (lost w a d t) q) same_set new_state;
          sized = subst (λ q. size n q ≡ suc (size n s)) same_set aug.sized;
          gained = subst (λ q. weight n w q + lost w a d t ≡ weight n w s + top) same_set gained;
          rises = loss_rises n f g w a loss s reached d k back t light state labels end;
          bounded = bound (weight n w (along s (comes back t m) (goes back t m) m)) (lost w a d t) (weight n w s) (size n s) gained (weight_light n w s light);
          short = short m (k t) n chain.steps (path_short n f g s m (comes back t m) (goes back t m) chain.best.path.route aug.distinct);
        }
      where
        sums : (wn wo ty tx lost top : ℕ) → wn + ty ≡ wo + tx → tx + lost ≡ ty + top → wn + lost ≡ wo + top
        sums wn wo ty tx lost top h l = omega arith

        bound : (wn lost wo z : ℕ) → wn + lost ≡ wo + top → wo ≤ top * z → lost ≤ suc z * top
        bound wn lost wo z h l = omega arith

        short : (m kt n : ℕ) → kt ≡ suc (twice m) → suc (m + m) ≤ n → kt ≤ n
        short m kt n h l = omega (arith, twice_is m)

-- the round
pub round : Round
round n f g w a loss s reached d k back t first second light state labels end =
    let chain = labels_best n f g w a loss s reached d k back t light state labels end in
    next n f g w a loss s reached d k back t first second light state labels end chain.0 chain.1

-- whichever best path is taken
pub best_next : BestNext
best_next n f g w a loss s reached d k back t l u v first second light state labels end best =
    let chain = labels_best n f g w a loss s reached d k back t light state labels end in
    best_next_at n f g w a loss s reached d k back t first second light state labels end chain.0 chain.1 l u v best
