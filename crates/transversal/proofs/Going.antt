-- The queue of volunteers grows: who is come to, and what is done.
use Rattle.std.proofs.Common.{◌≡◌, ℕ, suc, ◌+◌, ◌<◌, ◌≤◌, Bool, true, false, ap, ◌∙◌, ⊎_elim, arith}
use Rattle.std.proofs.lemmas.Bool.{cases_eq}
use Rattle.sets.specs.Matroid.{Set, size, with}
use Rattle.sets.proofs.FiniteSets.{size_with, size_bound}
use Rattle.transversal.specs.Pairs.{Paired, Led, Shut}
use Rattle.transversal.proofs.Matchings.{put}

module _ (can : ℕ → ℕ → Bool) (n volunteers : ℕ) (f o : ℕ → ℕ) where
  -- the first `head` volunteers of the queue are done: whomever they can look after is come to; the others are still to do
  pub record Going (reached : Set) (queue via : ℕ → ℕ) (len head : ℕ) : Type 0 where
    pub led : Led can n volunteers o reached queue via len len
    pub seeds : (v : ℕ) → v < volunteers → n ≤ o v → (k : ℕ) × (k < len) × (queue k ≡ v)
    pub pushed : (y : ℕ) → y < n → reached y ≡ true → f y < volunteers → (k : ℕ) × (k < len) × (queue k ≡ f y)
    pub done : (k y : ℕ) → k < head → y < n → can (queue k) y ≡ true → reached y ≡ true
    pub few : len ≤ volunteers + size n reached
    pub ahead : head ≤ len

  -- an offer is come to by the volunteer whose turn it is
  pub led_in : (r : Set) (queue via : ℕ → ℕ) (len head y : ℕ) → Led can n volunteers o r queue via len len → head < len → y < n → r y ≡ false →
      can (queue head) y ≡ true → Led can n volunteers o (with r y) queue (put via y head) len len
  led_in r queue via len head y g h l out fit = record {
    short = g.short;
    low = g.low;
    by = λ u k e. ⊎_elim
        (λ (q : u ≡ y). (grind arith, let i : put via y head u ≡ head = grind arith in let c : can (queue head) u ≡ true = rw q fit in rw i c))
        (λ d. let a = g.by u k (grind arith) in let i : put via y head u ≡ via u = grind arith in (omega (arith, a.0), let c : can (queue (via u)) u ≡ true = a.1 in rw i c))
        (cases_eq u y);
    known = λ k p q.
        let a = g.known k p q in
        let e : r (o (queue k)) ≡ true = a.0 in
        let d : via (o (queue k)) < k = a.1 in
        let ne : o (queue k) ≡ y → ⊥ = λ i. let j : r (o (queue k)) ≡ r y = ap r i in grind arith in
        (grind arith, grind arith);
  }

  -- its own volunteer goes into the queue
  pub led_push : (r : Set) (queue via : ℕ → ℕ) (len y : ℕ) → Led can n volunteers o r queue via len len → Paired can n volunteers f o → len < 1200 → y < n →
      r y ≡ true → f y < volunteers → Led can n volunteers o r (put queue len (f y)) via (len + 1) (len + 1)
  led_push r queue via len y g p room l e has = record {
    short = omega arith;
    low = λ k h. ⊎_elim (λ q. grind arith) (λ d. let a : queue k < volunteers = g.low k (omega arith) in grind arith) (cases_eq k len);
    by = λ u k q. let a = g.by u k q in let i : put queue len (f y) (via u) ≡ queue (via u) = other (via u) a.0 in (omega (arith, a.0), let c : can (queue (via u)) u ≡ true = a.1 in rw i c);
    known = λ k h q. ⊎_elim
        (λ (i : k ≡ len). let j : put queue len (f y) k ≡ f y = grind arith in let m : o (put queue len (f y) k) ≡ y = ap o j ∙ p.owned y l has in
        (ap r m ∙ e, let w : via (o (put queue len (f y) k)) ≡ via y = ap via m in omega (arith, (g.by y l e).0)))
        (λ d. let i : put queue len (f y) k ≡ queue k = other k (omega arith) in let m : o (put queue len (f y) k) ≡ o (queue k) = ap o i in
        let a = g.known k (omega arith) (omega arith) in
        (ap r m ∙ a.0, let w : via (o (put queue len (f y) k)) ≡ via (o (queue k)) = ap via m in omega (arith, a.1)))
        (cases_eq k len);
  }
    where
      other : (k : ℕ) → k < len → put queue len (f y) k ≡ queue k
      other k h = grind arith

  -- an offer without a volunteer was come to
  pub going_in : (r : Set) (queue via : ℕ → ℕ) (len head y : ℕ) → Going r queue via len head → head < len → y < n → r y ≡ false →
      can (queue head) y ≡ true → volunteers ≤ f y → Going (with r y) queue (put via y head) len head
  going_in r queue via len head y g h l out fit single = record {
    led = led_in r queue via len head y g.led h l out fit;
    seeds = g.seeds;
    pushed = λ u k e has. g.pushed u k (old u e has) has;
    done = λ k u p q e. let a : r u ≡ true = g.done k u p q e in grind arith;
    few = let a : size n (with r y) ≡ suc (size n r) = size_with n r y l out in omega (arith, g.few);
    ahead = g.ahead;
  }
    where
      old : (u : ℕ) → with r y u ≡ true → f u < volunteers → r u ≡ true
      old u e has = ⊎_elim (λ q. let a : f u ≡ f y = ap f q in absurd (omega arith)) (λ d. grind arith) (cases_eq u y)

  -- an offer with a volunteer was come to
  pub going_push : (r : Set) (queue via : ℕ → ℕ) (len head y : ℕ) → Paired can n volunteers f o → volunteers ≤ 600 → n ≤ 600 → Going r queue via len head →
      head < len → y < n → r y ≡ false →
      can (queue head) y ≡ true → f y < volunteers → Going (with r y) (put queue len (f y)) (put via y head) (len + 1) head
  going_push r queue via len head y p small low g h l out fit has = record {
    led = led_push (with r y) queue (put via y head) len y (led_in r queue via len head y g.led h l out fit) p room l (grind arith) has;
    seeds = λ v k q. let a = g.seeds v k q in (a.0, omega (arith, a.1), other a.0 a.1 ∙ a.2);
    pushed = λ u k e q. ⊎_elim
        (λ i. (len, omega arith, here u i))
        (λ d. let a = g.pushed u k (grind arith) q in (a.0, omega (arith, a.1), other a.0 a.1 ∙ a.2)) (cases_eq u y);
    done = λ k u i q e. let a : r u ≡ true = g.done k u i q (let c : can (put queue len (f y) k) u ≡ true = e in let j = other k (omega (arith, g.ahead)) in rw j at c) in grind arith;
    few = let a : size n (with r y) ≡ suc (size n r) = size_with n r y l out in omega (arith, g.few);
    ahead = omega (arith, g.ahead);
  }
    where
      other : (k : ℕ) → k < len → put queue len (f y) k ≡ queue k
      other k h = grind arith

      here : (u : ℕ) → u ≡ y → put queue len (f y) len ≡ f u
      here u i = let a : f u ≡ f y = ap f i in grind arith

      room : len < 1200
      room = let a : size n (with r y) ≡ suc (size n r) = size_with n r y l out in let b : size n (with r y) ≤ n = size_bound n (with r y) in omega (arith, g.few)

  -- all is done: the offers come to are closed
  pub going_end : (r : Set) (queue via : ℕ → ℕ) (len head : ℕ) → Going r queue via len head → len ≤ head → Shut can n volunteers f o r
  going_end r queue via len head g h = record {
    open_hands = λ v x k q l e. let a = g.seeds v k q in g.done a.0 x (omega (arith, a.1)) l (moved a.0 v x a.2 e);
    next_hands = λ z x k e has l c. let a = g.pushed z k e has in g.done a.0 x (omega (arith, a.1)) l (moved a.0 (f z) x a.2 c);
  }
    where
      moved : (k v x : ℕ) → queue k ≡ v → can v x ≡ true → can (queue k) x ≡ true
      moved k v x e c = rw e c
