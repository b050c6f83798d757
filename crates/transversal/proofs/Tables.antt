-- Tables of names: whom they name, and how a write changes them.
use Rattle.std.proofs.Common.{◌≡◌, ℕ, ◌<◌, ◌≤◌, Bool, true, false, not, List, Option, Some, None, unwrap_or, is_some, All, IfSome, length, get_or, set, replicate, refl, ap, ◌∙◌, ⊎_elim, arith}
use mathlib.Core.Path.{fun_ext}
use Rattle.std.proofs.lemmas.List.{get_or-set_same, get_or-set_other, get_or-replicate}
use Rattle.std.proofs.lemmas.List.Elements.{All-get_or, All-set, All-replicate}
use Rattle.std.proofs.lemmas.Bool.{cases_eq}
use Rattle.transversal.specs.Pairs.{named, Holds}
use Rattle.transversal.proofs.Matchings.{put}

pub named_is : (xs : List (Option ℕ)) (i : ℕ) (o : Option ℕ) → get_or xs i None ≡ o → named xs i ≡ unwrap_or o 600
named_is xs i o e = ap (λ a. unwrap_or a 600) e

-- whom a table names is there
pub named_low : (m : ℕ) (xs : List (Option ℕ)) (i v : ℕ) → i < length xs → All (λ o. IfSome o (λ u. u < m)) xs → get_or xs i None ≡ Some v → v < m
named_low m xs i v h all e = rw e at (All-get_or (λ o. IfSome o (λ u. u < m)) xs i None h all)

-- a name that is there, or none, can be written
pub low_set : (m : ℕ) (xs : List (Option ℕ)) (i v : ℕ) → v < m → All (λ o. IfSome o (λ u. u < m)) xs → All (λ o. IfSome o (λ u. u < m)) (set xs i (Some v))
low_set m xs i v h all = All-set (λ o. IfSome o (λ u. u < m)) xs i (Some v) h all

pub low_clear : (m : ℕ) (xs : List (Option ℕ)) (i : ℕ) → All (λ o. IfSome o (λ u. u < m)) xs → All (λ o. IfSome o (λ u. u < m)) (set xs i None)
low_clear m xs i all = All-set (λ o. IfSome o (λ u. u < m)) xs i None tt all

-- a write to a table is a change at one place
pub named_set : (xs : List (Option ℕ)) (i : ℕ) (o : Option ℕ) → i < length xs → named (set xs i o) ≡ put (named xs) i (unwrap_or o 600)
named_set xs i o h = fun_ext (λ j. ⊎_elim
    (λ e. ap (λ k. unwrap_or (get_or (set xs i o) k None) 600) e ∙ (ap (λ a. unwrap_or a 600) (get_or-set_same xs i o None h) ∙ here j e))
    (λ d. ap (λ a. unwrap_or a 600) (get_or-set_other xs i j o None d) ∙ there j d) (cases_eq j i))
  where
    here : (j : ℕ) → j ≡ i → unwrap_or o 600 ≡ put (named xs) i (unwrap_or o 600) j
    here j e = grind arith

    there : (j : ℕ) → (j ≡ i → ⊥) → unwrap_or (get_or xs j None) 600 ≡ put (named xs) i (unwrap_or o 600) j
    there j d = grind arith

-- a test whether a place names nobody
pub none_at : (xs : List (Option ℕ)) (i : ℕ) (b : Bool) → is_some (get_or xs i None) ≡ not b → b ≡ true → named xs i ≡ 600
none_at xs i b e t = go (get_or xs i None) e
  where
    go : (o : Option ℕ) → is_some o ≡ not b → unwrap_or o 600 ≡ 600
    go None d = refl
    go (Some v) d = absurd (grind arith)

pub some_at : (m : ℕ) (xs : List (Option ℕ)) (i : ℕ) (b : Bool) → i < length xs → All (λ o. IfSome o (λ u. u < m)) xs →
    is_some (get_or xs i None) ≡ not b → b ≡ false → named xs i < m
some_at m xs i b h all e t = go (get_or xs i None) (All-get_or (λ o. IfSome o (λ u. u < m)) xs i None h all) e
  where
    go : (o : Option ℕ) → IfSome o (λ u. u < m) → is_some o ≡ not b → unwrap_or o 600 < m
    go None l d = absurd (grind arith)
    go (Some v) l d = l

-- tables that name nobody hold no pair
pub named_nobody : (i : ℕ) → i < 600 → named (replicate 600 None) i ≡ 600
named_nobody i h = ap (λ o. unwrap_or o 600) (get_or-replicate 600 i None None h)

pub holds_nobody : (rows : List ℕ) (n volunteers : ℕ) → n ≤ 600 → volunteers ≤ 600 → Holds rows n volunteers (replicate 600 None) (replicate 600 None)
holds_nobody rows n volunteers few low = record {
  pairs = record {
    able = λ x h l. absurd (omega (arith, named_nobody x (omega arith)));
    owned = λ x h l. absurd (omega (arith, named_nobody x (omega arith)));
    back = λ v h l. absurd (omega (arith, named_nobody v (omega arith)));
  };
  helpers = All-replicate (λ o. IfSome o (λ v. v < volunteers)) 600 None tt;
  helped = All-replicate (λ o. IfSome o (λ x. x < n)) 600 None tt;
}
