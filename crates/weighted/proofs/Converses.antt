-- A heaviest set has a weight splitting, and a set is a largest one where and only where there is no augmenting path.
use Rattle.std.proofs.Common.{◌≡◌, ℕ, ◌+◌, ◌*◌, ◌≤◌, Bool, true, false, not, ◌&&◌, sym, refl, ap, arith}
use Rattle.sets.specs.Matroid.{Set, size, weight, with, Matroid}
use Rattle.matroid.specs.Optimal.{Split}
use Rattle.matroid.proofs.OneMatroid.{heaviest_by_one, as_good_as_best}
use Rattle.matroid.proofs.Optimality.{largest, split_sum}
use Rattle.exchange.specs.Round.{State, toggled}
use Rattle.exchange.proofs.DualSets.{dual_by_no_path}
use Rattle.exchange.proofs.LeadingExists.{leading_exists}
use Rattle.exchange.proofs.LabelPaths.{path_reached}
use Rattle.weighted.specs.Converses.{HeaviestSplits, PathsAugment, NoPathLargest}
use Rattle.weighted.proofs.Existence.{states_exist, end_exists}
use Rattle.weighted.proofs.LabelsExist.{labels_exist}
use Rattle.weighted.proofs.Moving.{rest, state_split}
use Rattle.weighted.proofs.Rounds.{round}

-- a set that weighs as much as one with a splitting has the same splitting
split_moves : (n : ℕ) (f g : Set → Bool) (w a b : ℕ → ℕ) (s t : Set) → Matroid n f → Matroid n g → Split n f g w a b s →
    f t ≡ true → g t ≡ true → size n t ≡ size n s → weight n w s ≤ weight n w t → Split n f g w a b t
split_moves n f g w a b s t first second split ft gt same heavy =
    let la : weight n a t ≤ weight n a s = heaviest_by_one n f a s t first split.first ft same split.best_first in
    let lb : weight n b t ≤ weight n b s = heaviest_by_one n g b s t second split.second gt same split.best_second in
    let so : weight n a s + weight n b s ≡ weight n w s + split.lift * size n s = split_sum n w a b split.lift s split.parts in
    let sn : weight n a t + weight n b t ≡ weight n w t + split.lift * size n t = split_sum n w a b split.lift t split.parts in
    let lifted : split.lift * size n t ≡ split.lift * size n s = ap (λ q. split.lift * q) same in
    record {
      first = ft;
      second = gt;
      lift = split.lift;
      parts = split.parts;
      best_first = as_good_as_best n f a s t first split.first ft same (omega arith) split.best_first;
      best_second = as_good_as_best n g b s t second split.second gt same (omega arith) split.best_second;
    }

-- a heaviest set of its size has a weight splitting
pub heaviest_splits : HeaviestSplits
heaviest_splits n f g w s first second light fs gs most =
    let p = states_exist n f g w s first second light fs gs (size n s) (omega arith) in (
      p.0,
      rest w p.0 p.1,
      split_moves n f g w p.0 (rest w p.0 p.1) p.2 s first second (state_split n f g w p.0 p.1 p.2 p.3) fs gs (sym p.4)
          (most p.2 p.3.first p.3.second p.4),
    )

-- without weights every set that both allow has a state
plain_state : (n : ℕ) (f g : Set → Bool) (s : Set) → f s ≡ true → g s ≡ true → State n f g (λ x. 0) (λ x. 0) 0 s
plain_state n f g s fs gs = record {
  first = fs;
  second = gs;
  first_best = λ y x hy hx held out arc. omega arith;
  second_best = λ y x hy hx held out arc. omega arith;
  sources = λ x h out source. refl;
  sinks = λ x h out sink. omega arith;
  small = λ x h. omega arith;
}

-- an augmenting path reaches a sink, so the labels have an end
pub paths_augment : PathsAugment
paths_augment n f g s k x y first second fs gs path =
    let state = plain_state n f g s fs gs in
    let r = labels_exist n f g (λ v. 0) (λ v. 0) 0 s state in
    let found : r.0 (x k) ≡ true = path_reached n f g (λ v. 0) (λ v. 0) 0 s r.0 r.1 r.2 r.3 state r.4 k x y path in
    let e = end_exists n f g (λ v. 0) (λ v. 0) 0 s r.0 r.1 r.2 r.3 r.4 (x k) (path.route.x_below k (omega arith))
    (joined (s (x k)) (r.0 (x k)) (g (with s (x k))) (path.route.x_fresh k (omega arith)) found path.route.sink) in
    let q = round n f g (λ v. 0) (λ v. 0) 0 s r.0 r.1 r.2 r.3 e.0 first second (λ v l. omega arith) state r.4 e.1 in
    (toggled s r.3 e.0 (r.2 e.0), q.state.first, q.state.second, q.sized)
  where
    joined : (p q r : Bool) → p ≡ false → q ≡ true → r ≡ true → (not p && (q && r)) ≡ true
    joined p q r h l e = grind arith

-- where there is no path, the elements that lead to a sink are a dual set
pub no_path_largest : NoPathLargest
no_path_largest n f g s t first second fs gs never ft gt =
    let u = leading_exists n f g s in
    largest n f g s u.0 t first second (dual_by_no_path n f g s u.0 first second fs gs never u.1) ft gt
