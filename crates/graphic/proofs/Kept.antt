-- Answers from the kept state.
use Rattle.std.proofs.Common.{◌≡◌, ℕ, ◌<◌, true, false, not, ◌||◌, eqb, List, get_or}
use Rattle.sets.specs.Bits.{xor}
use Rattle.sets.specs.Matroid.{Set, with, without}
use Rattle.graphic.specs.Links.{from_town, to_town, allows, Well, Ready, in_row}
use Rattle.graphic.proofs.Parity.{can_add, can_exchange}

module _ (file : List ℕ) (n towns at : ℕ) (s : Set) (state : List ℕ) (w : Well file n towns at)
    (r : Ready file n towns at s state) where
  -- whether a link can be added
  pub add_answer : (x u v : ℕ) → x < n → s x ≡ false → u ≡ from_town file at x → v ≡ to_town file at x →
      not (eqb (get_or state u 0) (get_or state v 0)) ≡ allows file n towns at (with s x)
  add_answer x u v l h e f =
      rw (e, f) (can_add (from_town file at) (to_town file at) n s x _ l h r.allowed
      (r.labels (from_town file at x) (to_town file at x) (w.from_real x l) (w.to_real x l)))

  -- whether a link can take the place of another
  pub exchange_answer : (x y u v : ℕ) → x < n → y < n → s x ≡ false → s y ≡ true →
      u ≡ from_town file at x → v ≡ to_town file at x →
      (not (eqb (get_or state u 0) (get_or state v 0)) || xor (in_row state n u y) (in_row state n v y))
      ≡ allows file n towns at (with (without s y) x)
  exchange_answer x y u v l m h k e f =
      rw (e, f) (can_exchange (from_town file at) (to_town file at) n s (in_row state n) x y _ l m h k r.allowed r.rows
      (r.labels (from_town file at x) (to_town file at x) (w.from_real x l) (w.to_real x l)))
