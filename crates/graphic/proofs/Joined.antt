-- Towns joined by links: the least equivalence in which the ends of each link of the set are equivalent.
use Rattle.std.proofs.Common.{◌≡◌, ℕ, zero, suc, ◌<◌, Bool, true, ◌&&◌, ◌||◌, eqb, ◌⊎◌, refl, inl, inr, ⊎_elim, arith}
use Rattle.std.proofs.lemmas.Bool.{cases_eq}
use Rattle.sets.specs.Matroid.{Set}
use Rattle.graphic.specs.Links.{joined}

module _ (from to : ℕ → ℕ) where
  -- no link at all joins a town with itself only
  pub joined_none : (s : Set) (u v : ℕ) → joined from to 0 s u v ≡ eqb u v
  unfolding joined
  joined_none s u v = refl

  -- one link more
  joined_more : (m : ℕ) (s : Set) (u v : ℕ) →
      joined from to (suc m) s u v
      ≡ (joined from to m s u v
      || (s m
      && ((joined from to m s u (from m) && joined from to m s (to m) v)
      || (joined from to m s u (to m) && joined from to m s (from m) v))))
  unfolding joined
  joined_more m s u v = refl

  -- the ways in which one more link joins two towns
  abbrev pub Ways : ℕ → Set → ℕ → ℕ → Type 0
  Ways m s u v =
      (joined from to m s u v ≡ true)
      ⊎ (((s m ≡ true) × (joined from to m s u (from m) ≡ true) × (joined from to m s (to m) v ≡ true))
      ⊎ ((s m ≡ true) × (joined from to m s u (to m) ≡ true) × (joined from to m s (from m) v ≡ true)))

  -- one of those ways was taken
  pub ways : (m : ℕ) (s : Set) (u v : ℕ) → joined from to (suc m) s u v ≡ true → Ways m s u v
  ways m s u v h =
      split (joined from to m s u v) (s m) (joined from to m s u (from m)) (joined from to m s (to m) v)
      (joined from to m s u (to m)) (joined from to m s (from m) v) (joined_more m s u v)
    where
      split : (a b c d e f : Bool) → joined from to (suc m) s u v ≡ (a || (b && ((c && d) || (e && f)))) →
          (a ≡ true) ⊎ (((b ≡ true) × (c ≡ true) × (d ≡ true)) ⊎ ((b ≡ true) × (e ≡ true) × (f ≡ true)))
      split a b c d e f k = grind arith

  -- each of those ways joins
  made : (m : ℕ) (s : Set) (u v : ℕ) → Ways m s u v → joined from to (suc m) s u v ≡ true
  made m s u v h =
      let k = joined_more m s u v in grind arith

  -- what is joined stays joined with one more link
  pub joined_step : (m : ℕ) (s : Set) (u v : ℕ) → joined from to m s u v ≡ true → joined from to (suc m) s u v ≡ true
  joined_step m s u v h = let k = joined_more m s u v in grind arith

  -- a town is joined with itself
  pub joined_refl : (m : ℕ) (s : Set) (u : ℕ) → joined from to m s u u ≡ true
  joined_refl zero s u = let k = joined_none s u u in grind arith
  joined_refl (suc m) s u = joined_step m s u u (joined_refl m s u)

  -- joined either way round
  pub joined_sym : (m : ℕ) (s : Set) (u v : ℕ) → joined from to m s u v ≡ true → joined from to m s v u ≡ true
  joined_sym zero s u v h = let k = joined_none s u v in let l = joined_none s v u in grind arith
  joined_sym (suc m) s u v h = go (joined_sym m s) (ways m s u v h)
    where
      go : ((a b : ℕ) → joined from to m s a b ≡ true → joined from to m s b a ≡ true) → Ways m s u v →
          joined from to (suc m) s v u ≡ true
      go back w =
          made m s v u
          (⊎_elim (λ d. inl (back u v d))
          (λ r. ⊎_elim (λ d. inr (inr (d.0, back (to m) v d.2, back u (from m) d.1)))
          (λ d. inr (inl (d.0, back (from m) v d.2, back u (to m) d.1))) r) w)

  -- joined by way of a third town
  pub joined_trans : (m : ℕ) (s : Set) (u v w : ℕ) →
      joined from to m s u v ≡ true → joined from to m s v w ≡ true → joined from to m s u w ≡ true
  joined_trans zero s u v w h k =
      let a = joined_none s u v in let b = joined_none s v w in let c = joined_none s u w in grind arith
  joined_trans (suc m) s u v w h k = go (joined_trans m s) (ways m s u v h) (ways m s v w k)
    where
      go : ((a b c : ℕ) → joined from to m s a b ≡ true → joined from to m s b c ≡ true → joined from to m s a c ≡ true) →
          Ways m s u v → Ways m s v w → joined from to (suc m) s u w ≡ true
      go tr x y =
          made m s u w
          (⊎_elim
          (λ d. ⊎_elim (λ e. inl (tr u v w d e))
          (λ r. ⊎_elim (λ e. inr (inl (e.0, tr u v (from m) d e.1, e.2)))
          (λ e. inr (inr (e.0, tr u v (to m) d e.1, e.2))) r) y)
          (λ q. ⊎_elim
          (λ d. ⊎_elim (λ e. inr (inl (d.0, d.1, tr (to m) v w d.2 e)))
          (λ r. ⊎_elim (λ e. inr (inl (d.0, d.1, e.2))) (λ e. inl (tr u (from m) w d.1 e.2)) r) y)
          (λ d. ⊎_elim (λ e. inr (inr (d.0, d.1, tr (from m) v w d.2 e)))
          (λ r. ⊎_elim (λ e. inl (tr u (to m) w d.1 e.2)) (λ e. inr (inr (d.0, d.1, e.2))) r) y) q) x)

  -- the ends of a link of the set are joined
  pub joined_link : (m : ℕ) (s : Set) (x : ℕ) → x < m → s x ≡ true → joined from to m s (from x) (to x) ≡ true
  joined_link zero s x l h = absurd (omega arith)
  joined_link (suc m) s x l h =
      ⊎_elim
      (λ e. last e)
      (λ ne. joined_step m s (from x) (to x) (joined_link m s x (omega arith) h)) (cases_eq x m)
    where
      last : x ≡ m → joined from to (suc m) s (from x) (to x) ≡ true
      last e =
          rw e (made m s (from m) (to m) (inr (inl (rw e at h, joined_refl m s (from m), joined_refl m s (to m)))))

  -- joined towns are equivalent under every equivalence in which the ends of each link of the set are
  pub joined_least : (m : ℕ) (s : Set) (R : ℕ → ℕ → Type 0) →
      ((u : ℕ) → R u u) → ((u v : ℕ) → R u v → R v u) → ((u v w : ℕ) → R u v → R v w → R u w) →
      ((x : ℕ) → x < m → s x ≡ true → R (from x) (to x)) →
      (u v : ℕ) → joined from to m s u v ≡ true → R u v
  joined_least zero s R rf sy tr li u v h =
      let e : u ≡ v = let k = joined_none s u v in grind arith in rw e (rf v)
  joined_least (suc m) s R rf sy tr li u v h =
      go (joined_least m s R rf sy tr (λ x l. li x (omega arith))) (ways m s u v h)
    where
      go : ((a b : ℕ) → joined from to m s a b ≡ true → R a b) → Ways m s u v → R u v
      go f w =
          ⊎_elim (f u v)
          (λ r. ⊎_elim
          (λ d. tr u (from m) v (f u (from m) d.1)
          (tr (from m) (to m) v (li m (omega arith) d.0) (f (to m) v d.2)))
          (λ d. tr u (to m) v (f u (to m) d.1)
          (tr (to m) (from m) v (sy (from m) (to m) (li m (omega arith) d.0)) (f (from m) v d.2))) r) w
