-- The kept rows are right for the set.
use Rattle.std.proofs.Common.{◌≡◌, ℕ, ◌+◌, ◌<◌, ◌≤◌, Bool, true, false, ◌&&◌, ◌||◌, leb, List, length, sym, ap, ◌∙◌, arith}
use Rattle.sets.specs.Bits.{row_words}
use Rattle.sets.specs.Matroid.{Set, with, without, Within}
use Rattle.transversal.specs.Volunteers.{can_tend, Tends, allows, in_row, kept_length, Ready}
use Rattle.transversal.specs.Pairs.{can_by, matched, Paired, Chain, start, start_free}
use Rattle.transversal.proofs.Matchings.{part_tends}
use Rattle.transversal.proofs.RowFacts.{some_same}
use Rattle.transversal.proofs.Laws.{allowed_passes, passes_allowed}
use Rattle.transversal.proofs.Closed.{paired_tends, adds_comes, comes_adds, exchange_comes, comes_exchange}

-- volunteers who can look after the same offers
pub tends_same : (can new : ℕ → ℕ → Bool) (n volunteers : ℕ) (s : Set) (f : ℕ → ℕ) →
    ((v x : ℕ) → v < volunteers → x < n → can v x ≡ new v x) → Tends can n volunteers s f → Tends new n volunteers s f
tends_same can new n volunteers s f same t = record {
  there = t.there;
  able = λ x h e. sym (same (f x) x (t.there x h e) h) ∙ t.able x h e;
  apart = t.apart;
}

-- two tests that pass together are the same
same_test : (a b : Bool) → (a ≡ true → b ≡ true) → (b ≡ true → a ≡ true) → a ≡ b
same_test a b p q = grind arith

-- a test that never passes
never : (a : Bool) → (a ≡ true → ⊥) → false ≡ a
never a p = grind arith

module _ (file : List ℕ) (n volunteers place : ℕ) (s : Set) (rows : List ℕ)
    (loaded : (v x : ℕ) → v < volunteers → x < n → can_by rows n (row_words n) v x ≡ can_tend file n place v x) where
  -- a matching by the rows is one by the file, for a set that lies in its set
  pub passes : (t u : Set) (g : ℕ → ℕ) → Within n u t → Tends (can_by rows n (row_words n)) n volunteers t g → allows file n volunteers place u ≡ true
  passes t u g into tg = allowed_passes file n volunteers place u
      (g, part_tends (can_tend file n place) n volunteers t u g (tends_same (can_by rows n (row_words n)) (can_tend file n place) n volunteers t g loaded tg) into)

  -- and the other way round
  pub tends_of : (t u : Set) → Within n u t → allows file n volunteers place t ≡ true → (g : ℕ → ℕ) × Tends (can_by rows n (row_words n)) n volunteers u g
  tends_of t u into e =
      let a = passes_allowed file n volunteers place t e in (
        a.0,
        part_tends (can_by rows n (row_words n)) n volunteers t u a.0
            (tends_same (can_tend file n place) (can_by rows n (row_words n)) n volunteers t a.0 (λ v x h k. sym (loaded v x h k)) a.1) into,
      )

  -- a set with no matching is refused
  pub refuses : ((f : ℕ → ℕ) → Tends (can_by rows n (row_words n)) n volunteers s f → ⊥) → false ≡ allows file n volunteers place s
  refuses no_matching = never (allows file n volunteers place s) (λ e. let a = tends_of s s (λ x h p. p) e in no_matching a.0 a.1)

  module _ (f o : ℕ → ℕ) (started freed state : List ℕ)
      (pairs : Paired (can_by rows n (row_words n)) n volunteers f o)
      (all : (u : ℕ) → u < n → matched volunteers f u ≡ s u)
      (starts : (y x : ℕ) → y < n → x < n → in_row started (row_words n) y x ≡ start (can_by rows n (row_words n)) volunteers f y x)
      (rest : (k x : ℕ) → n ≤ k → x < n → in_row started (row_words n) k x ≡ in_row rows (row_words n) k x)
      (frees : (x : ℕ) → x < n → in_row freed (row_words n) n x ≡ start_free (can_by started n (row_words n)) n volunteers o x)
      (others : (k x : ℕ) → (k ≡ n → ⊥) → x < n → in_row freed (row_words n) k x ≡ in_row started (row_words n) k x)
      (chains : (k x : ℕ) → k ≤ n → x < n → in_row state (row_words n) k x ≡ true → Chain n (in_row freed (row_words n)) k x)
      (base : (k x : ℕ) → k ≤ n → x < n → in_row freed (row_words n) k x ≡ true → in_row state (row_words n) k x ≡ true)
      (closed : (k z x : ℕ) → k ≤ n → z < n → x < n → in_row state (row_words n) k z ≡ true → in_row state (row_words n) z x ≡ true → in_row state (row_words n) k x ≡ true)
      (long : kept_length n ≤ length state) where
    -- the rows of the offers, and row n, as they were before they were closed
    offers : (y x : ℕ) → y < n → x < n → in_row freed (row_words n) y x ≡ start (can_by rows n (row_words n)) volunteers f y x
    offers y x h k = others y x (λ q. omega arith) k ∙ starts y x h k

    nobody : (x : ℕ) → x < n → in_row freed (row_words n) n x ≡ start_free (can_by rows n (row_words n)) n volunteers o x
    nobody x h = frees x h ∙ some_same volunteers (λ v. leb n (o v) && can_by started n (row_words n) v x) (λ v. leb n (o v) && can_by rows n (row_words n) v x)
        (λ v k. ap (λ w. leb n (o v) && w) (rest (n + 1 + v) x (omega arith) h))

    -- an offer outside of the set has no volunteer
    single : (x : ℕ) → x < n → s x ≡ false → volunteers ≤ f x
    single x h e = let a : matched volunteers f x ≡ s x = all x h in grind arith

    paired : (y : ℕ) → y < n → s y ≡ true → f y < volunteers
    paired y h e = let a : matched volunteers f y ≡ s y = all y h in grind arith

    -- the set and the offers with a volunteer, each with the same changes
    to_with : (x : ℕ) → Within n (with s x) (with (matched volunteers f) x)
    to_with x u h e = let a : matched volunteers f u ≡ s u = all u h in grind arith

    from_with : (x : ℕ) → Within n (with (matched volunteers f) x) (with s x)
    from_with x u h e = let a : matched volunteers f u ≡ s u = all u h in grind arith

    to_swap : (x y : ℕ) → Within n (with (without s y) x) (with (without (matched volunteers f) y) x)
    to_swap x y u h e = let a : matched volunteers f u ≡ s u = all u h in grind arith

    from_swap : (x y : ℕ) → Within n (with (without (matched volunteers f) y) x) (with (without s y) x)
    from_swap x y u h e = let a : matched volunteers f u ≡ s u = all u h in grind arith

    -- what is kept is right for the set
    pub ready : Ready file n volunteers place s state
    ready = record {
      long = long;
      allowed = passes (matched volunteers f) s f (λ u h e. all u h ∙ e) (paired_tends (can_by rows n (row_words n)) n volunteers f o pairs);
      adds = λ x h e. same_test (in_row state (row_words n) n x) (allows file n volunteers place (with s x))
          (λ d. let r = adds_comes (can_by rows n (row_words n)) n volunteers f o pairs (in_row freed (row_words n)) (in_row state (row_words n)) offers nobody chains base closed x h d in
          passes (with (matched volunteers f) x) (with s x) r.0 (to_with x) r.1)
          (λ d. let r = tends_of (with s x) (with (matched volunteers f) x) (from_with x) d in
          comes_adds (can_by rows n (row_words n)) n volunteers f o pairs (in_row freed (row_words n)) (in_row state (row_words n)) offers nobody chains base closed x r.0 h (single x h e) r.1);
      exchanges = λ x y h k e i. same_test (in_row state (row_words n) n x || in_row state (row_words n) y x) (allows file n volunteers place (with (without s y) x))
          (λ d. let r = exchange_comes (can_by rows n (row_words n)) n volunteers f o pairs (in_row freed (row_words n)) (in_row state (row_words n)) offers nobody chains base closed y k (paired y k i) x h d in
          passes (with (without (matched volunteers f) y) x) (with (without s y) x) r.0 (to_swap x y) r.1)
          (λ d. let r = tends_of (with (without s y) x) (with (without (matched volunteers f) y) x) (from_swap x y) d in
          comes_exchange (can_by rows n (row_words n)) n volunteers f o pairs (in_row freed (row_words n)) (in_row state (row_words n)) offers nobody chains base closed y k (paired y k i) x r.0 h (single x h e) r.1);
    }
