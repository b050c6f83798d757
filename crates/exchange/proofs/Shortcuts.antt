-- Shortcuts of an augmenting path: where a later element could come at once, the path without the part between is one too.
use Rattle.std.proofs.Common.{◌≡◌, ℕ, suc, ◌+◌, ◌<◌, ◌≤◌, Bool, true, sym, subst, subst₂, ⊎_elim, arith}
use Rattle.std.proofs.lemmas.Bool.{cases_lt, cases_eq}
use Rattle.sets.specs.Matroid.{Set, without, with}
use Rattle.exchange.specs.Paths.{Augmenting, Distinct}
use Rattle.exchange.proofs.Cuts.{skip, cut, skip_once, skip_before, skip_after}

-- the places that stay are those of the path
skip_within : (p d e i : ℕ) → i ≤ e → skip p d i ≤ d + e
skip_within p d e i h = grind arith

-- .. also where the last is left out
skip_below : (p d e i : ℕ) → i < e → skip p d i < d + e
skip_below p d e i h = grind arith

-- but for the place before the cut, what comes next comes next
skip_next : (p d i : ℕ) → (suc i ≡ p → ⊥) → skip p d (suc i) ≡ suc (skip p d i)
skip_next p d i h = grind arith

-- two cuts that start one place apart agree but there
skip_both : (p d i : ℕ) → (i ≡ p → ⊥) → skip (suc p) d i ≡ skip p d i
skip_both p d i h = grind arith

-- the place behind the cut
skip_joins : (p d i : ℕ) → suc i ≡ p → d + p ≡ skip p d (suc i)
skip_joins p d i h = grind arith

-- the first place of the cut is behind it
skip_from : (p d i : ℕ) → i ≡ p → d + p ≡ skip p d i
skip_from p d i h = grind arith

-- a cut that starts one place later leaves it
skip_to : (p d i : ℕ) → i ≡ p → p ≡ skip (suc p) d i
skip_to p d i h = grind arith

-- a cut that starts one place later, one place later
skip_onward : (p d i : ℕ) → suc (skip p d i) ≡ skip (suc p) d (suc i)
skip_onward p d i = grind arith

-- what repeats no element repeats none after a cut
pub shortcut_distinct : (d e p q : ℕ) (x y : ℕ → ℕ) → Distinct (d + e) x y → Distinct e (cut x p d) (cut y q d)
shortcut_distinct d e p q x y once = record {
  comes_once = λ i j h l z. skip_once p d i j (once.comes_once (skip p d i) (skip p d j) (skip_within p d e i h) (skip_within p d e j l) z);
  goes_once = λ i j h l z. skip_once q d i j (once.goes_once (skip q d i) (skip q d j) (skip_below q d e i h) (skip_below q d e j l) z);
}

module _ (n : ℕ) (f g : Set → Bool) (s : Set) (d e p : ℕ) (x y : ℕ → ℕ) (within : p ≤ e) (path : Augmenting n f g s (d + e) x y) where
  -- the path without x p, y p, .., x (p + d - 1), y (p + d - 1): the first matroid lets x (p + d) come in their place
  pub shortcut_first :
      (p ≡ 0 → f (with s (x d)) ≡ true) → ((i : ℕ) → suc i ≡ p → f (with (without s (y i)) (x (d + p))) ≡ true) →
      Augmenting n f g s e (cut x p d) (cut y p d)
  shortcut_first start step = record {
    source = ⊎_elim (λ (z : p ≡ 0). subst (λ q. f (with s (x q)) ≡ true) (grind arith) (start z))
        (λ (z : p ≡ 0 → ⊥). subst (λ q. f (with s (x q)) ≡ true) (sym (skip_before p d 0 (omega arith))) path.source) (cases_eq p 0);
    route = record {
      x_below = λ i h. path.route.x_below (skip p d i) (skip_within p d e i h);
      x_fresh = λ i h. path.route.x_fresh (skip p d i) (skip_within p d e i h);
      y_below = λ i h. path.route.y_below (skip p d i) (skip_below p d e i h);
      y_held = λ i h. path.route.y_held (skip p d i) (skip_below p d e i h);
      by_second = λ i h. path.route.by_second (skip p d i) (skip_below p d e i h);
      by_first = λ i h. ⊎_elim
          (λ (z : suc i ≡ p). subst₂ (λ q r. f (with (without s (y q)) (x r)) ≡ true)
          (sym (skip_before p d i (omega arith))) (skip_joins p d i z) (step i z))
          (λ (z : suc i ≡ p → ⊥). subst (λ q. f (with (without s (y (skip p d i))) (x q)) ≡ true)
          (sym (skip_next p d i z)) (path.route.by_first (skip p d i) (skip_below p d e i h)))
          (cases_eq (suc i) p);
      sink = subst (λ q. g (with s (x q)) ≡ true) (sym (skip_after p d e within)) path.route.sink;
    };
  }

  -- the path without y p, x (p + 1), .., y (p + d - 1), x (p + d): the second matroid lets x p come where y (p + d) goes, or at the end adds it
  pub shortcut_second :
      (p < e → g (with (without s (y (d + p))) (x p)) ≡ true) → (p ≡ e → g (with s (x p)) ≡ true) →
      Augmenting n f g s e (cut x (suc p) d) (cut y p d)
  shortcut_second step last = record {
    source = subst (λ q. f (with s (x q)) ≡ true) (sym (skip_before (suc p) d 0 (omega arith))) path.source;
    route = record {
      x_below = λ i h. path.route.x_below (skip (suc p) d i) (skip_within (suc p) d e i h);
      x_fresh = λ i h. path.route.x_fresh (skip (suc p) d i) (skip_within (suc p) d e i h);
      y_below = λ i h. path.route.y_below (skip p d i) (skip_below p d e i h);
      y_held = λ i h. path.route.y_held (skip p d i) (skip_below p d e i h);
      by_second = λ i h. ⊎_elim
          (λ (z : i ≡ p). subst₂ (λ q r. g (with (without s (y q)) (x r)) ≡ true)
          (skip_from p d i z) (skip_to p d i z) (step (omega arith)))
          (λ (z : i ≡ p → ⊥). subst (λ q. g (with (without s (y (skip p d i))) (x q)) ≡ true)
          (sym (skip_both p d i z)) (path.route.by_second (skip p d i) (skip_below p d e i h)))
          (cases_eq i p);
      by_first = λ i h. subst (λ q. f (with (without s (y (skip p d i))) (x q)) ≡ true)
          (skip_onward p d i) (path.route.by_first (skip p d i) (skip_below p d e i h));
      sink = ⊎_elim
          (λ (z : p < e). subst (λ q. g (with s (x q)) ≡ true) (sym (skip_after (suc p) d e z)) path.route.sink)
          (λ (z : e ≤ p). subst (λ q. g (with s (x q)) ≡ true) (skip_to p d e (omega arith)) (last (omega arith)))
          (cases_lt p e);
    };
  }
