-- The elements that lead to a sink, grown one element at a time.
use Rattle.std.proofs.Common.{◌≡◌, ℕ, zero, suc, ◌+◌, ◌<◌, ◌≤◌, Bool, true, false, not, ◌&&◌, sym, refl, subst, ⊎_elim, arith}
use Rattle.std.proofs.lemmas.Bool.{cases_eq, both_ways}
use Rattle.sets.specs.Matroid.{pick, Set, size, without, with, none, Within}
use Rattle.sets.proofs.FiniteSets.{size_with, part_as_large, look_up, look_up_pair}
use Rattle.exchange.specs.Graph.{arc, addable}
use Rattle.exchange.specs.Paths.{Route, LeadsOutside, LeadsInside, Leading, LeadingExists, LeadingAgrees}
use Rattle.exchange.proofs.DualSets.{sink_leads, inside_by, outside_by}

-- all elements are a set as large as any
pub size_all : (n : ℕ) → size n (λ v. true) ≡ n
size_all zero = refl
size_all (suc n) = let r : size n (λ v. true) ≡ n = size_all n in omega arith

module _ (n : ℕ) (f g : Set → Bool) (s : Set) where
  -- one step of a route, from z to v
  abbrev step : ℕ → ℕ → Bool
  step z v = pick (s z) (not (s v) && f (with (without s z) v)) (s v && g (with (without s v) z))

  -- an element outside that the second matroid can add
  abbrev ready : ℕ → Bool
  ready z = not (s z) && g (with s z)

  -- an element leads to a sink, from outside or from inside
  abbrev Leads : ℕ → Type 0
  Leads z = (s z ≡ false → LeadsOutside n f g s z) × (s z ≡ true → LeadsInside n f g s z)

  -- whatever is in u leads to a sink
  abbrev Sound : Set → Type 0
  Sound u = (z : ℕ) → z < n → u z ≡ true → Leads z

  -- nothing is left to be added to u
  abbrev Full : Set → Type 0
  Full u = ((z : ℕ) → z < n → u z ≡ false → ready z ≡ false) × ((z v : ℕ) → z < n → v < n → u z ≡ false → u v ≡ true → step z v ≡ false)

  -- a sink leads to itself
  ready_leads : (z : ℕ) → z < n → ready z ≡ true → Leads z
  ready_leads z h e = (λ out. sink_leads n f g s z h out (back (s z) (g (with s z)) e), λ held. absurd (clash (s z) (g (with s z)) held e))
    where
      back : (p q : Bool) → (not p && q) ≡ true → q ≡ true
      back p q e = grind arith

      clash : (p q : Bool) → p ≡ true → (not p && q) ≡ true → ⊥
      clash p q h e = grind arith

  -- what has a step to an element that leads, leads
  step_leads : (z v : ℕ) → z < n → v < n → step z v ≡ true → Leads v → Leads z
  step_leads z v hz hv e way = (
    (λ out. let r = outer (s z) (s v) (f (with (without s z) v)) (g (with (without s v) z)) out e in
        outside_by n f g s z v hz hv out r.0 r.1 (way.1 r.0)),
    (λ held. let r = inner (s z) (s v) (f (with (without s z) v)) (g (with (without s v) z)) held e in
        inside_by n f g s z v r.1 (way.0 r.0)),
  )
    where
      outer : (p q a b : Bool) → p ≡ false → pick p (not q && a) (q && b) ≡ true → (q ≡ true) × (b ≡ true)
      outer p q a b h e = (grind arith, grind arith)

      inner : (p q a b : Bool) → p ≡ true → pick p (not q && a) (q && b) ≡ true → (q ≡ false) × (a ≡ true)
      inner p q a b h e = (grind arith, grind arith)

  -- one more element that leads
  sound_with : (u : Set) (z : ℕ) → Sound u → Leads z → Sound (with u z)
  sound_with u z sound way v h e = ⊎_elim
      (λ (same : v ≡ z). subst (λ t. Leads t) (sym same) way)
      (λ (other : v ≡ z → ⊥). sound v h (grind arith))
      (cases_eq v z)

  -- u can be grown until nothing is left
  grow : (m : ℕ) (u : Set) → n ≤ size n u + m → Sound u → (v : Set) × Sound v × Full v
  grow zero u h sound =
      let all : Within n (λ v. true) u = part_as_large n u (λ v. true) (λ v l e. refl) (omega (arith, size_all n)) in
      (u, sound, ((λ z l e. absurd (both_ways (u z) e (all z l refl))), (λ z v l k e i. absurd (both_ways (u z) e (all z l refl)))))
  grow (suc m) u h sound = ⊎_elim
      (λ found. let r = parts (u found.0) (ready found.0) found.2 in
      grow m (with u found.0) (omega (arith, size_with n u found.0 found.1 r.0))
      (sound_with u found.0 sound (ready_leads found.0 found.1 r.1)))
      (λ no_sink. ⊎_elim
      (λ found. let r = three (u found.0) (u found.1) (step found.0 found.1) found.4 in
      grow m (with u found.0) (omega (arith, size_with n u found.0 found.2 r.0))
      (sound_with u found.0 sound (step_leads found.0 found.1 found.2 found.3 r.2 (sound found.1 found.3 r.1))))
      (λ no_step. (
        u,
        sound,
        (
          (λ z l e. not_ready (u z) (ready z) e (no_sink z l)),
          (λ z v l k e i. not_step (u z) (u v) (step z v) e i (no_step z v l k)),
        ),
      ))
      (look_up_pair n n (λ z v. not (u z) && (u v && step z v))))
      (look_up n (λ z. not (u z) && ready z))
    where
      parts : (p q : Bool) → (not p && q) ≡ true → (p ≡ false) × (q ≡ true)
      parts p q e = (grind arith, grind arith)

      three : (p q r : Bool) → (not p && (q && r)) ≡ true → (p ≡ false) × (q ≡ true) × (r ≡ true)
      three p q r e = (grind arith, grind arith, grind arith)

      not_ready : (p q : Bool) → p ≡ false → (not p && q) ≡ false → q ≡ false
      not_ready p q h e = grind arith

      not_step : (p q r : Bool) → p ≡ false → q ≡ true → (not p && (q && r)) ≡ false → r ≡ false
      not_step p q r h l e = grind arith

  module _ (u : Set) (full : Full u) where
    -- what is not false is true
    holds : (b : Bool) → (b ≡ false → ⊥) → b ≡ true
    holds b h = grind arith

    -- then the start of every route is in it
    route_starts : (k : ℕ) (x y : ℕ → ℕ) → Route n f g s k x y → (j i : ℕ) → j + i ≡ k → u (x i) ≡ true
    route_starts k x y route zero i e = holds (u (x i)) (λ out.
        let same : k ≡ i = omega arith in
        let h : g (with s (x i)) ≡ true = subst (λ q. g (with s (x q)) ≡ true) same route.sink in
        clash (s (x i)) (g (with s (x i))) (route.x_fresh i (omega arith)) h (full.0 (x i) (route.x_below i (omega arith)) out))
      where
        clash : (p q : Bool) → p ≡ false → q ≡ true → (not p && q) ≡ false → ⊥
        clash p q h l e = grind arith
    route_starts k x y route (suc j) i e =
        let next : u (x (suc i)) ≡ true = route_starts k x y route j (suc i) (omega arith) in
        let held : s (y i) ≡ true = route.y_held i (omega arith) in
        let inside : u (y i) ≡ true = holds (u (y i)) (λ out.
        first (s (y i)) (s (x (suc i))) (f (with (without s (y i)) (x (suc i)))) (g (with (without s (x (suc i))) (y i))) held
        (route.x_fresh (suc i) (omega arith)) (route.by_first i (omega arith))
        (full.1 (y i) (x (suc i)) (route.y_below i (omega arith)) (route.x_below (suc i) (omega arith)) out next)) in
        holds (u (x i)) (λ out.
        second (s (x i)) (s (y i)) (f (with (without s (x i)) (y i))) (g (with (without s (y i)) (x i))) (route.x_fresh i (omega arith))
        held (route.by_second i (omega arith))
        (full.1 (x i) (y i) (route.x_below i (omega arith)) (route.y_below i (omega arith)) out inside))
      where
        first : (p q a b : Bool) → p ≡ true → q ≡ false → a ≡ true → pick p (not q && a) (q && b) ≡ false → ⊥
        first p q a b h l i e = grind arith

        second : (p q a b : Bool) → p ≡ false → q ≡ true → b ≡ true → pick p (not q && a) (q && b) ≡ false → ⊥
        second p q a b h l i e = grind arith

    -- and so is every element of the set that leads
    all_in : (z : ℕ) → z < n → s z ≡ true → LeadsInside n f g s z → u z ≡ true
    all_in z h held way =
        let start : u (way.1 0) ≡ true = route_starts way.0 way.1 way.2 way.3 way.0 0 (omega arith) in
        holds (u z) (λ out. first (s z) (s (way.1 0)) (f (with (without s z) (way.1 0))) (g (with (without s (way.1 0)) z)) held
        (way.3.x_fresh 0 (omega arith)) way.4
        (full.1 z (way.1 0) h (way.3.x_below 0 (omega arith)) out start))
      where
        first : (p q a b : Bool) → p ≡ true → q ≡ false → a ≡ true → pick p (not q && a) (q && b) ≡ false → ⊥
        first p q a b h l i e = grind arith

-- a set in which everything leads, and to which nothing is left to be added, is the set of the elements that lead to a sink
sound_and_full : (n : ℕ) (f g : Set → Bool) (s u : Set) → Sound n f g s u → Full n f g s u → Leading n f g s u
sound_and_full n f g s u sound full = record {
  outside_leads = λ z h out e. (sound z h e).0 out;
  inside_leads = λ z h held e. (sound z h e).1 held;
  all_outside = λ z h out way. subst (λ v. u v ≡ true) way.4
      (route_starts n f g s u full way.0 way.1 way.2 way.3 way.0 0 (omega arith));
  all_inside = λ z h held way. all_in n f g s u full z h held way;
}

-- the empty set, grown
grown : (n : ℕ) (f g : Set → Bool) (s : Set) → (u : Set) × Sound n f g s u × Full n f g s u
grown n f g s = grow n f g s n none (omega arith) (λ z h e. absurd (both_ways false refl e))

-- the elements that lead to a sink can be told
pub leading_exists : LeadingExists
leading_exists n f g s = let r = grown n f g s in (r.0, sound_and_full n f g s r.0 r.1 r.2)

-- the least set that is closed backwards lies in the grown one, and nothing is left to be added to it
pub leading_agrees : LeadingAgrees
unfolding arc addable
leading_agrees n f g s u low = sound_and_full n f g s u
    (λ z h e. let r = grown n f g s in
    r.1 z h (low.least r.0
    (λ x l sink. holds' (r.0 x) (λ out. both_ways (ready n f g s x) (r.2.0 x l out) sink))
    (λ v x hv hx arc inr. holds' (r.0 v) (λ out. both_ways (step n f g s v x) (r.2.1 v x hv hx out inr) arc)) z h e)) (
      (λ z h out. refute (ready n f g s z) (λ e. both_ways (u z) out (low.sinks z h e))),
      (λ z v hz hv out inu. refute (step n f g s z v) (λ e. both_ways (u z) out (low.backwards z v hz hv e inu))),
    )
  where
    holds' : (b : Bool) → (b ≡ false → ⊥) → b ≡ true
    holds' b h = grind arith

    refute : (b : Bool) → (b ≡ true → ⊥) → b ≡ false
    refute b h = grind arith
