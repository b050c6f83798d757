-- The links whose ends a set joins are a closure, and what one more link does to a set that is free under a closure.
use Rattle.std.proofs.Common.{◌≡◌, ℕ, ◌<◌, true, false, ◌⊎◌, inl, inr, ⊎_elim, arith}
use Rattle.std.proofs.lemmas.Bool.{cases_eq, both_ways}
use Rattle.sets.specs.Closure.{Closure}
use Rattle.sets.specs.Matroid.{Set, with, Within}
use Rattle.graphic.specs.Links.{joined, spanned}
use Rattle.graphic.proofs.Joined.{joined_refl, joined_sym, joined_trans, joined_link, joined_least}

module _ (from to : ℕ → ℕ) (n : ℕ) where
  -- a set whose links all have their ends joined by another set joins no more than that
  pub joined_over : (s t : Set) → ((x : ℕ) → x < n → t x ≡ true → joined from to n s (from x) (to x) ≡ true) →
      (u v : ℕ) → joined from to n t u v ≡ true → joined from to n s u v ≡ true
  joined_over s t h =
      joined_least from to n t (λ u v. joined from to n s u v ≡ true) (joined_refl from to n s) (joined_sym from to n s)
      (joined_trans from to n s) h

  -- a larger set joins more
  pub joined_within : (s t : Set) → Within n s t → (u v : ℕ) → joined from to n s u v ≡ true → joined from to n t u v ≡ true
  joined_within s t h = joined_over t s (λ x l k. joined_link from to n t x l (h x l k))

  -- two towns are joined by a set, or by it and the link x
  abbrev pub By : Set → ℕ → ℕ → ℕ → Type 0
  By s x u v =
      (joined from to n s u v ≡ true)
      ⊎ (((joined from to n s u (from x) ≡ true) × (joined from to n s (to x) v ≡ true))
      ⊎ ((joined from to n s u (to x) ≡ true) × (joined from to n s (from x) v ≡ true)))

  -- such a way leads back too
  by_sym : (s : Set) (x u v : ℕ) → By s x u v → By s x v u
  by_sym s x u v w =
      ⊎_elim (λ d. inl (joined_sym from to n s u v d))
      (λ r. ⊎_elim (λ d. inr (inr (joined_sym from to n s (to x) v d.1, joined_sym from to n s u (from x) d.0)))
      (λ d. inr (inl (joined_sym from to n s (from x) v d.1, joined_sym from to n s u (to x) d.0))) r) w

  -- and two such ways can be put together: the link is used at most once
  by_trans : (s : Set) (x u v w : ℕ) → By s x u v → By s x v w → By s x u w
  by_trans s x u v w a b =
      let tr = joined_trans from to n s in
      ⊎_elim
      (λ d. ⊎_elim (λ e. inl (tr u v w d e))
      (λ r. ⊎_elim (λ e. inr (inl (tr u v (from x) d e.0, e.1))) (λ e. inr (inr (tr u v (to x) d e.0, e.1))) r) b)
      (λ q. ⊎_elim
      (λ d. ⊎_elim (λ e. inr (inl (d.0, tr (to x) v w d.1 e)))
      (λ r. ⊎_elim (λ e. inr (inl (d.0, e.1))) (λ e. inl (tr u (from x) w d.0 e.1)) r) b)
      (λ d. ⊎_elim (λ e. inr (inr (d.0, tr (from x) v w d.1 e)))
      (λ r. ⊎_elim (λ e. inl (tr u (to x) w d.0 e.1)) (λ e. inr (inr (d.0, e.1))) r) b) q) a

  -- what a set and one more link join: a walk avoids the link or splits at it
  pub joined_with : (s : Set) (x u v : ℕ) → joined from to n (with s x) u v ≡ true → By s x u v
  joined_with s x =
      joined_least from to n (with s x) (By s x) (λ u. inl (joined_refl from to n s u)) (by_sym s x) (by_trans s x)
      (λ y l h. ⊎_elim
      (λ e. inr (inl (rw e (joined_refl from to n s (from x)), rw e (joined_refl from to n s (to x)))))
      (λ ne. inl (joined_link from to n s y l (grind arith))) (cases_eq y x))

  -- and back
  pub with_joined : (s : Set) (x u v : ℕ) → x < n → By s x u v → joined from to n (with s x) u v ≡ true
  with_joined s x u v l w =
      let tr = joined_trans from to n (with s x) in
      let up = joined_within s (with s x) (λ y k h. grind arith) in
      let it : joined from to n (with s x) (from x) (to x) ≡ true = joined_link from to n (with s x) x l (grind arith) in
      ⊎_elim (up u v)
      (λ r. ⊎_elim (λ d. tr u (from x) v (up u (from x) d.0) (tr (from x) (to x) v it (up (to x) v d.1)))
      (λ d. tr u (to x) v (up u (to x) d.0)
      (tr (to x) (from x) v (joined_sym from to n (with s x) (from x) (to x) it) (up (from x) v d.1))) r) w

  -- the links whose ends are joined by a set are a closure
  pub closure : Closure n (spanned from to n)
  closure = record {
    extends = λ s x l h. joined_link from to n s x l h;
    transitive = λ s t h y l k. joined_over s t h (from y) (to y) k;
    exchange = λ s x y l k no_way way. swap s x y k no_way (joined_with s x (from y) (to y) way);
  }
    where
      swap : (s : Set) (x y : ℕ) → y < n → joined from to n s (from y) (to y) ≡ false → By s x (from y) (to y) →
          joined from to n (with s y) (from x) (to x) ≡ true
      swap s x y l no_way w =
          let back = joined_sym from to n s in
          with_joined s y (from x) (to x) l
          (⊎_elim (λ d. absurd (both_ways (joined from to n s (from y) (to y)) no_way d))
          (λ r. ⊎_elim (λ d. inr (inl (back (from y) (from x) d.0, back (to x) (to y) d.1)))
          (λ d. inr (inr (d.1, d.0))) r) w)
