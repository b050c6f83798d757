-- Volunteers who can be made free: from those that are free, and from each offer whom one of them can look after.
use Rattle.std.proofs.Common.{◌≡◌, ℕ, suc, ◌<◌, ◌≤◌, Bool, true, false, not, ◌&&◌, eqb, refl, ap, ◌∙◌, ⊎_elim, arith}
use Rattle.std.proofs.lemmas.Bool.{cases_Bool, cases_eq}
use Rattle.sets.specs.Matroid.{Set, size, without, with, none}
use Rattle.sets.proofs.FiniteSets.{size_without}
use Rattle.transversal.specs.Volunteers.{Tends}
use Rattle.transversal.proofs.Matchings.{put, put_tends, no_larger, last, some_last}
use Rattle.transversal.proofs.Augment.{busy, idle}

module _ (can : ℕ → ℕ → Bool) (n volunteers : ℕ) (b : Set) (f : ℕ → ℕ) where
  -- sets of volunteers: none; one more who has no offer; one more whose offer a volunteer of the set can look after
  pub data Grown : Set → Type 0 where
    begin : Grown none
    seed : {w : Set} (v : ℕ) → Grown w → v < volunteers → ((y : ℕ) → y < n → b y ≡ true → f y ≡ v → ⊥) → Grown (with w v)
    onward : {w : Set} (v z : ℕ) → Grown w → w v ≡ true → z < n → b z ≡ true → can v z ≡ true → Grown (with w (f z))

  -- v is there, and a matching that is as f at the offers of volunteers outside of w does without v
  pub Spare : Set → ℕ → Type 0
  Spare w v =
      (v < volunteers) ×
      ((g : ℕ → ℕ) × Tends can n volunteers b g × ((y : ℕ) → y < n → b y ≡ true → g y ≡ v → ⊥) ×
      ((y : ℕ) → y < n → b y ≡ true → w (f y) ≡ false → g y ≡ f y))

  -- what serves a smaller set of volunteers serves a larger
  spare_with : (w : Set) (u v : ℕ) → Spare w v → Spare (with w u) v
  unfolding Spare
  spare_with w u v s = (s.0, (s.1.0, s.1.1, s.1.2, λ y h p q. s.1.3 y h p (grind arith)))

  -- each volunteer of such a set can be made free
  pub spare : Tends can n volunteers b f → (w : Set) → Grown w → (v : ℕ) → w v ≡ true → Spare w v
  unfolding Spare
  spare t w begin v e = absurd (grind arith)
  spare t w (seed {w = w₀} u r low idle) v e =
      go (w₀ v) refl (spare t w₀ r v)
    where
      go : (c : Bool) → w₀ v ≡ c → (w₀ v ≡ true → Spare w₀ v) → Spare (with w₀ u) v
      go true d rec = spare_with w₀ u v (rec d)
      go false d rec =
          let s : v ≡ u = grind arith in
          let l : v < volunteers = omega arith in
          (l, (f, t, (λ y h p q. idle y h p (q ∙ s)), λ y h p q. refl))
  spare t w (onward {w = w₀} u z r m h p c) v e =
      go (w₀ v) refl (spare t w₀ r v) (w₀ (f z)) refl (spare t w₀ r u m)
    where
      shifted : w₀ (f z) ≡ false → v ≡ f z → Spare w₀ u → Spare (with w₀ (f z)) v
      shifted out q s = (
        omega (arith, t.there z h p),
        (
          put s.1.0 z u,
          put_tends can n volunteers b b s.1.0 z u s.1.1 s.0 c (λ y k i d. s.1.2 y k i) (λ y k i. grind arith),
          (λ y k i j. ⊎_elim (λ a. s.1.2 z h p (same_z y a j)) (λ a. a (s.1.1.apart y z k h i p (other y a j))) (cases_eq y z)),
          λ y k i j. ⊎_elim (λ a. absurd (grind arith)) (λ a. let l : s.1.0 y ≡ f y = s.1.3 y k i (grind arith) in grind arith) (cases_eq y z),
        ),
      )
        where
          kept : s.1.0 z ≡ f z
          kept = s.1.3 z h p out

          same_z : (y : ℕ) → y ≡ z → put s.1.0 z u y ≡ v → s.1.0 z ≡ u
          same_z y a j = let l : s.1.0 z ≡ f z = kept in grind arith

          other : (y : ℕ) → (y ≡ z → ⊥) → put s.1.0 z u y ≡ v → s.1.0 y ≡ s.1.0 z
          other y a j = let l : s.1.0 z ≡ f z = kept in grind arith

      go : (c : Bool) → w₀ v ≡ c → (w₀ v ≡ true → Spare w₀ v) → (a : Bool) → w₀ (f z) ≡ a → Spare w₀ u → Spare (with w₀ (f z)) v
      go true d rec a q s = spare_with w₀ (f z) v (rec d)
      go false d rec true q s = absurd (grind arith)
      go false d rec false q s = shifted q (grind arith) s

  -- an offer whom such a volunteer can look after can come to the set
  pub comes : Tends can n volunteers b f → (w : Set) → Grown w → (v x : ℕ) → w v ≡ true → can v x ≡ true →
      (g : ℕ → ℕ) × Tends can n volunteers (with b x) g
  unfolding Spare
  comes t w r v x e c =
      let s = spare t w r v e in
      (put s.1.0 x v, put_tends can n volunteers b (with b x) s.1.0 x v s.1.1 s.0 c (λ y k i d. s.1.2 y k i) (λ y k i. i))

  -- where no free volunteer, and no volunteer of an offer of the set outside of b, comes to x, x cannot come to b
  pub blocked : (r : Set) (x : ℕ) (g : ℕ → ℕ) →
      ((v a : ℕ) → v < volunteers → busy n b f v ≡ false → a < n → can v a ≡ true → r a ≡ true) →
      ((z a : ℕ) → z < n → b z ≡ true → r z ≡ true → a < n → can (f z) a ≡ true → r a ≡ true) →
      x < n → b x ≡ false → r x ≡ false → Tends can n volunteers (with b x) g → ⊥
  blocked r x g hands next h e out t =
      let w : suc (size n (without left x)) ≡ size n left = size_without n left x h (grind arith) in
      let k : size n left ≤ size n (without left x) = no_larger n n left (without left x) o
      (λ a l p. ((at a l p).0, inside a l p))
      (λ a c l m p q d. t.apart a c l m (grind arith) (grind arith)
      (same (f (o a)) (f (o c)) (g a) (g c) (b (o a)) (b (o c)) (ap f d) (at a l p).1 (at c m q).1)) in
      omega arith
    where
      left : Set
      left a = with b x a && not (r a)

      o : ℕ → ℕ
      o a = last n (λ y. b y && eqb (f y) (g a))

      same : (a b c d : ℕ) (u v : Bool) → a ≡ b → (u && eqb a c) ≡ true → (v && eqb b d) ≡ true → c ≡ d
      same a b c d u v e p q = grind arith

      taken : (a : ℕ) → a < n → left a ≡ true → busy n b f (g a) ≡ true
      taken a l p = ⊎_elim (λ q. q)
          (λ q. let i : r a ≡ true = hands (g a) a (t.there a l (grind arith)) q l (t.able a l (grind arith)) in absurd (grind arith))
          (cases_Bool (busy n b f (g a)))

      at : (a : ℕ) → a < n → left a ≡ true → (o a < n) × ((b (o a) && eqb (f (o a)) (g a)) ≡ true)
      at a l p = some_last n (λ y. b y && eqb (f y) (g a)) (taken a l p)

      closed : (a : ℕ) → a < n → left a ≡ true → r (o a) ≡ true → r a ≡ true
      closed a l p q =
          let m : (b (o a) && eqb (f (o a)) (g a)) ≡ true = (at a l p).1 in
          let c : can (g a) a ≡ true = t.able a l (grind arith) in
          let d : f (o a) ≡ g a = grind arith in
          next (o a) a (at a l p).0 (grind arith) q l (rw d c)

      inside : (a : ℕ) → a < n → left a ≡ true → without left x (o a) ≡ true
      inside a l p =
          let q : (b (o a) && eqb (f (o a)) (g a)) ≡ true = (at a l p).1 in
          let c : r (o a) ≡ true → r a ≡ true = closed a l p in
          grind arith
