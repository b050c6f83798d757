-- Pairs of offers and volunteers: how they change as an offer takes a volunteer, and how the queue of volunteers grows.
use Rattle.std.proofs.Common.{◌≡◌, ℕ, ◌+◌, ◌<◌, ◌≤◌, Bool, true, List, Option, Some, None, length, get_or, set, sym, refl, ap, ◌∙◌, ⊎_elim, arith}
use mathlib.Core.Path.{fun_ext}
use Rattle.std.proofs.lemmas.List.{get_or-set_same, get_or-set_other, length-set}
use Rattle.std.proofs.lemmas.Bool.{cases_eq}
use Rattle.sets.specs.Matroid.{Set, without, with}
use Rattle.transversal.specs.Pairs.{at, named, matched, Paired, Queued, Led, Leads}
use Rattle.transversal.proofs.Tables.{named_set}
use Rattle.transversal.proofs.Matchings.{put}

-- a write to a list is a change at one place
pub at_set : (xs : List ℕ) (i v : ℕ) → i < length xs → at (set xs i v) ≡ put (at xs) i v
at_set xs i v h = fun_ext (λ j. ⊎_elim
    (λ e. ap (λ k. get_or (set xs i v) k 0) e ∙ (get_or-set_same xs i v 0 h ∙ here j e))
    (λ d. get_or-set_other xs i j v 0 d ∙ there j d) (cases_eq j i))
  where
    here : (j : ℕ) → j ≡ i → v ≡ put (at xs) i v j
    here j e = grind arith

    there : (j : ℕ) → (j ≡ i → ⊥) → get_or xs j 0 ≡ put (at xs) i v j
    there j d = grind arith

-- no volunteer is looked at yet
pub queued_none : (n : ℕ) (o q : ℕ → ℕ) → Queued n 0 o q 0
queued_none n o q = record { few = omega arith; low = λ k h. absurd (omega arith); all = λ v h. absurd (omega arith) }

-- one more volunteer is looked at: free, or not
pub queued_in : (n m : ℕ) (o q : ℕ → ℕ) (len : ℕ) → Queued n m o q len → n ≤ o m → Queued n (m + 1) o (put q len m) (len + 1)
queued_in n m o q len r free = record {
  few = omega (arith, r.few);
  low = λ k h. ⊎_elim (λ e. (grind arith, grind arith)) (λ d. let a = r.low k (omega arith) in (grind arith, grind arith)) (cases_eq k len);
  all = λ v h p. ⊎_elim (λ e. (len, omega arith, grind arith)) (λ d. let a = r.all v (omega arith) p in (a.0, omega (arith, a.1), old a.0 v a.1 a.2)) (cases_eq v m);
}
  where
    old : (k v : ℕ) → k < len → q k ≡ v → put q len m k ≡ v
    old k v h e = grind arith

pub queued_past : (n m : ℕ) (o q : ℕ → ℕ) (len : ℕ) → Queued n m o q len → o m < n → Queued n (m + 1) o q len
queued_past n m o q len r busy = record {
  few = omega (arith, r.few);
  low = λ k h. let a = r.low k h in (omega (arith, a.0), a.1);
  all = λ v h p. r.all v (⊎_elim (λ e. absurd (grind arith)) (λ d. omega arith) (cases_eq v m)) p;
}

module _ (can : ℕ → ℕ → Bool) (n volunteers : ℕ) where
  -- offer y takes the free volunteer v
  pub pair_free : (f o : ℕ → ℕ) (y v : ℕ) → Paired can n volunteers f o → y < n → volunteers ≤ f y → v < volunteers → can v y ≡ true →
      n ≤ o v → Paired can n volunteers (put f y v) (put o v y)
  pair_free f o y v p h out low fit free = record {
    able = λ u k l. ⊎_elim (λ e. grind arith) (λ d. let a : f u < volunteers → can (f u) u ≡ true = p.able u k in grind arith) (cases_eq u y);
    owned = λ u k l. ⊎_elim (λ e. grind arith) (λ d. let a : f u < volunteers → o (f u) ≡ u = p.owned u k in grind arith) (cases_eq u y);
    back = λ t k l. ⊎_elim (λ e. grind arith) (λ d. let a : o t < n → f (o t) ≡ t = p.back t k in let b : o t ≡ y → f (o t) ≡ f y = ap f in grind arith) (cases_eq t v);
  }

  -- offer y takes volunteer v from offer z, which has none then
  pub pair_over : (f o : ℕ → ℕ) (y v z : ℕ) → Paired can n volunteers f o → volunteers ≤ 600 → y < n → volunteers ≤ f y → v < volunteers → can v y ≡ true →
      z < n → o v ≡ z → Paired can n volunteers (put (put f y v) z 600) (put o v y)
  pair_over f o y v z p few h out low fit hz oz =
      let fz : f z ≡ v = ap f (sym oz) ∙ p.back v low (omega arith) in
      let ne : z ≡ y → ⊥ = λ e. let q : f z ≡ f y = ap f e in omega arith in
      record {
        able = λ u k l. ⊎_elim (λ e. absurd (grind arith)) (λ g. ⊎_elim (λ e. grind arith) (λ d. let a : f u < volunteers → can (f u) u ≡ true = p.able u k in grind arith) (cases_eq u y)) (cases_eq u z);
        owned = λ u k l. ⊎_elim (λ e. absurd (grind arith)) (λ g. ⊎_elim (λ e. grind arith) (λ d. let a : f u < volunteers → o (f u) ≡ u = p.owned u k in let b : f u ≡ v → o (f u) ≡ o v = ap o in grind arith) (cases_eq u y)) (cases_eq u z);
        back = λ t k l. ⊎_elim (λ e. grind arith) (λ d. let a : o t < n → f (o t) ≡ t = p.back t k in let b : o t ≡ y → f (o t) ≡ f y = ap f in let c : o t ≡ z → f (o t) ≡ f z = ap f in grind arith) (cases_eq t v);
      }

  -- what holds on the way from offer x to a free volunteer: y has no volunteer now, the others of s and x have, and the queue leads on
  pub record Shifting (s : Set) (x : ℕ) (queue via : ℕ → ℕ) (f o : ℕ → ℕ) (y : ℕ) : Type 0 where
    pub pairs : Paired can n volunteers f o
    pub inside : y < n
    pub single : volunteers ≤ f y
    pub mine : with s x y ≡ true
    pub others : (u : ℕ) → u < n → matched volunteers f u ≡ without (with s x) y u
    pub reached : Set
    pub len : ℕ
    pub led : Led can n volunteers o reached queue via len (via y + 1)
    pub come : reached y ≡ true

  -- it holds at the start
  pub shift_start : (s : Set) (x : ℕ) (queue via f o : ℕ → ℕ) → Paired can n volunteers f o → x < n → volunteers ≤ f x →
      ((u : ℕ) → u < n → matched volunteers f u ≡ s u) → Leads can n volunteers o queue via x → Shifting s x queue via f o x
  shift_start s x queue via f o p h out same l = record {
    pairs = p;
    inside = h;
    single = out;
    mine = grind arith;
    others = λ u k. ⊎_elim (λ e. grind arith) (λ d. let a : matched volunteers f u ≡ s u = same u k in grind arith) (cases_eq u x);
    reached = l.0;
    len = l.1;
    led = let w : via x < l.1 = (l.2.by x h l.3).0 in record {
      short = l.2.short;
      low = l.2.low;
      by = l.2.by;
      known = λ k q. l.2.known k (omega arith);
    };
    come = l.3;
  }

  -- y takes its volunteer from z, and z is the next without one
  pub shift_on : (s : Set) (x : ℕ) (queue via f o : ℕ → ℕ) (y v z : ℕ) → volunteers ≤ 600 → Shifting s x queue via f o y → v ≡ queue (via y) → z ≡ o v → z < n →
      Shifting s x queue via (put (put f y v) z 600) (put o v y) z × (via z < via y)
  shift_on s x queue via f o y v z few r ev ez hz = (
    record {
      pairs = pair_over f o y v z r.pairs few r.inside r.single low fit hz (sym ez);
      inside = hz;
      single = grind arith;
      mine = given;
      others = λ u k. ⊎_elim (λ e. grind arith) (λ d. ⊎_elim (λ e. let m : with s x y ≡ true = r.mine in let l : v < volunteers = low in grind arith) (λ g. let a : matched volunteers f u ≡ without (with s x) y u = r.others u k in grind arith) (cases_eq u y)) (cases_eq u z);
      reached = r.reached;
      len = r.len;
      led = record {
        short = r.led.short;
        low = r.led.low;
        by = r.led.by;
        known = λ k h q. next k h q;
      };
      come = seen.0;
    },
    seen.1,
  )
    where
      low : v < volunteers
      low = let a : via y < r.len = (r.led.by y r.inside r.come).0 in let b : queue (via y) < volunteers = r.led.low (via y) a in omega arith

      fit : can v y ≡ true
      fit = let b : can (queue (via y)) y ≡ true = (r.led.by y r.inside r.come).1 in rw ev b

      seen : (r.reached z ≡ true) × (via z < via y)
      seen = let e : z ≡ o (queue (via y)) = ez ∙ ap o ev in
          let a = r.led.known (via y) (omega arith) (omega arith) in
          (ap (λ k. r.reached k) e ∙ a.0, let i : via z ≡ via (o (queue (via y))) = ap via e in omega (arith, a.1))

      given : with s x z ≡ true
      given =
          let fz : f z ≡ v = ap f ez ∙ r.pairs.back v low (omega arith) in
          let l : v < volunteers = low in
          let a : matched volunteers f z ≡ without (with s x) y z = r.others z hz in
          grind arith

      apart : (k : ℕ) → k < via z + 1 → (queue k ≡ v → ⊥)
      apart k h e =
          let i : o (queue k) ≡ z = ap o e ∙ sym ez in
          let j : via (o (queue k)) ≡ via z = ap via i in
          let a = r.led.known k (omega (arith, seen.1)) (omega arith) in
          omega (arith, a.1)

      unchanged : (k : ℕ) → k < via z + 1 → put o v y (queue k) ≡ o (queue k)
      unchanged k h = let d : queue k ≡ v → ⊥ = apart k h in grind arith

      next : (k : ℕ) → k < via z + 1 → put o v y (queue k) < n → (r.reached (put o v y (queue k)) ≡ true) × (via (put o v y (queue k)) < k)
      next k h q =
          let e : put o v y (queue k) ≡ o (queue k) = unchanged k h in
          let a = r.led.known k (omega (arith, seen.1)) (omega arith) in
          (ap (λ i. r.reached i) e ∙ a.0, let i : via (put o v y (queue k)) ≡ via (o (queue k)) = ap via e in omega (arith, a.1))

  -- y takes a free volunteer: all of s and x have one
  pub shift_end : (s : Set) (x : ℕ) (queue via f o : ℕ → ℕ) (y v : ℕ) → Shifting s x queue via f o y → v ≡ queue (via y) → n ≤ o v →
      Paired can n volunteers (put f y v) (put o v y) × ((u : ℕ) → u < n → matched volunteers (put f y v) u ≡ with s x u)
  shift_end s x queue via f o y v r ev free = (
    pair_free f o y v r.pairs r.inside r.single low fit free,
    λ u k. ⊎_elim (λ e. all u e) (λ d. let a : matched volunteers f u ≡ without (with s x) y u = r.others u k in grind arith) (cases_eq u y),
  )
    where
      low : v < volunteers
      low = let a : via y < r.len = (r.led.by y r.inside r.come).0 in let b : queue (via y) < volunteers = r.led.low (via y) a in omega arith

      fit : can v y ≡ true
      fit = let b : can (queue (via y)) y ≡ true = (r.led.by y r.inside r.come).1 in rw ev b

      all : (u : ℕ) → u ≡ y → matched volunteers (put f y v) u ≡ with s x u
      all u e = let m : with s x y ≡ true = r.mine in let l : v < volunteers = low in grind arith

-- a free volunteer is written behind the others
pub queued_write : (n m : ℕ) (o : ℕ → ℕ) (xs ys : List ℕ) (len new : ℕ) → Queued n m o (at xs) len → len < length xs → n ≤ o m →
    ys ≡ set xs len m → new ≡ len + 1 → Queued n (m + 1) o (at ys) new
queued_write n m o xs ys len new q h free e d = rw (e, d, at_set xs len m h) (queued_in n m o (at xs) len q free)

module _ (can : ℕ → ℕ → Bool) (n volunteers : ℕ) (s : Set) (x : ℕ) (queue via : ℕ → ℕ) (tends owner : List (Option ℕ)) (y : ℕ)
    (r : Shifting can n volunteers s x queue via (named tends) (named owner) y) (long : n ≤ length tends) (wide : volunteers ≤ length owner) where
  -- the volunteer for y is there
  pub shift_low : queue (via y) < volunteers
  shift_low = r.led.low (via y) (r.led.by y r.inside r.come).0

  -- the next offer has its volunteer by an earlier place, and what holds on the way holds for it
  pub shift_write : (z : ℕ) → volunteers ≤ 600 → named owner (queue (via y)) ≡ z → z < n →
      Shifting can n volunteers s x queue via (named (set (set tends y (Some (queue (via y)))) z None)) (named (set owner (queue (via y)) (Some y))) z
      × (via z < via y)
  shift_write z few e h =
      let a : y < length tends = omega (arith, r.inside) in
      let b : z < length (set tends y (Some (queue (via y)))) = simp length-set (omega arith) in
      let d : queue (via y) < length owner = omega (arith, shift_low) in
      rw (named_set (set tends y (Some (queue (via y)))) z None b, named_set tends y (Some (queue (via y))) a, named_set owner (queue (via y)) (Some y) d)
      (shift_on can n volunteers s x queue via (named tends) (named owner) y (queue (via y)) z few r refl (sym e) h)

  -- the last one takes a free volunteer
  pub shift_done : n ≤ named owner (queue (via y)) →
      Paired can n volunteers (named (set tends y (Some (queue (via y))))) (named (set owner (queue (via y)) (Some y)))
      × ((u : ℕ) → u < n → matched volunteers (named (set tends y (Some (queue (via y))))) u ≡ with s x u)
  shift_done h =
      let a : y < length tends = omega (arith, r.inside) in
      let d : queue (via y) < length owner = omega (arith, shift_low) in
      let e = shift_end can n volunteers s x queue via (named tends) (named owner) y (queue (via y)) r refl h in (
        rw (named_set tends y (Some (queue (via y))) a, named_set owner (queue (via y)) (Some y) d) e.0,
        λ u k. ap (λ (f : ℕ → ℕ). matched volunteers f u) (named_set tends y (Some (queue (via y))) a) ∙ e.1 u k,
      )

-- offer x takes a free volunteer
pub take_free : (can : ℕ → ℕ → Bool) (n volunteers : ℕ) (tends owner : List (Option ℕ)) (x v : ℕ) → Paired can n volunteers (named tends) (named owner) → x < n →
    volunteers ≤ named tends x → n ≤ length tends → volunteers ≤ length owner → v < volunteers → n ≤ named owner v → can v x ≡ true →
    Paired can n volunteers (named (set tends x (Some v))) (named (set owner v (Some x)))
    × ((u : ℕ) → u < n → matched volunteers (named (set tends x (Some v))) u ≡ with (matched volunteers (named tends)) x u)
take_free can n volunteers tends owner x v p h out long wide low free fit = (
  rw (named_set tends x (Some v) (omega arith), named_set owner v (Some x) (omega arith)) (pair_free can n volunteers (named tends) (named owner) x v p h out low fit free),
  λ u k. ap (λ (f : ℕ → ℕ). matched volunteers f u) (named_set tends x (Some v) (omega arith)) ∙ took u,
)
  where
    took : (u : ℕ) → matched volunteers (put (named tends) x v) u ≡ with (matched volunteers (named tends)) x u
    took u = ⊎_elim (λ e. grind arith) (λ d. grind arith) (cases_eq u x)
