-- There are states of every size up to the largest, so heaviest sets gain less and less.
use Rattle.std.proofs.Common.{◌≡◌, ℕ, zero, suc, ◌+◌, ◌-◌, ◌<◌, ◌≤◌, Bool, true, false, not, ◌&&◌, sym, refl, ap, ◌∙◌, inl, inr, ⊎_elim, arith}
use Rattle.std.proofs.lemmas.Bool.{both_ways}
use Rattle.sets.specs.Matroid.{Set, size, weight, with, none, Matroid}
use Rattle.sets.proofs.FiniteSets.{look_up, size_none, size_bound}
use Rattle.matroid.specs.Optimal.{Dual}
use Rattle.matroid.proofs.Optimality.{largest}
use Rattle.matroid.proofs.Gains.{gains_never_rise}
use Rattle.exchange.specs.Round.{top, State, Labels, End, lost, toggled, Closed}
use Rattle.exchange.proofs.DualSets.{dual_by_closed}
use Rattle.weighted.specs.Next.{raised}
use Rattle.weighted.specs.Steps.{NextOrDual, StatesExist, DualExists, HeaviestGainsNeverRise}
use Rattle.weighted.proofs.LabelsExist.{least_label, labels_exist}
use Rattle.weighted.proofs.Moving.{rest, state_split}
use Rattle.weighted.proofs.Rounds.{round}

-- the empty set has a state
empty_state : (n : ℕ) (f g : Set → Bool) (w : ℕ → ℕ) → Matroid n f → Matroid n g → ((x : ℕ) → x < n → w x ≤ top) → State n f g w (λ x. 0) 0 none
empty_state n f g w first second light = record {
  first = first.empty;
  second = second.empty;
  first_best = λ y x hy hx held out arc. omega arith;
  second_best = λ y x hy hx held out arc. absurd (both_ways false refl held);
  sources = λ x h out source. refl;
  sinks = λ x h out sink. let l : w x ≤ top = light x h in omega arith;
  small = λ x h. omega arith;
}

module _ (n : ℕ) (f g : Set → Bool) (w a : ℕ → ℕ) (loss : ℕ) (s reached : Set) (d k back : ℕ → ℕ) (labels : Labels n f g w a s reached d k back) where
  -- a sink that is reached
  abbrev pub ending : ℕ → Bool
  ending x = not (s x) && (reached x && g (with s x))

  -- what that says
  ending_parts : (x : ℕ) → ending x ≡ true → (s x ≡ false) × (reached x ≡ true) × (g (with s x) ≡ true)
  ending_parts x h = plain (s x) (reached x) (g (with s x)) h
    where
      plain : (p q r : Bool) → (not p && (q && r)) ≡ true → (p ≡ false) × (q ≡ true) × (r ≡ true)
      plain p q r h = (grind arith, grind arith, grind arith)

  -- where there is one, there is one of least loss and of fewest steps
  pub end_exists : (x : ℕ) → x < n → ending x ≡ true → (t : ℕ) × End n g w a s reached d k t
  end_exists x h e =
      let r = least_label n ending (lost w a d) k x h e in
      let p = ending_parts r.0 r.1.1 in (
        r.0,
        record {
          below = r.1.0;
          fresh = p.0;
          found = p.1;
          fits = p.2;
          least = λ v l out q sink. r.1.2 v l (joined (s v) (reached v) (g (with s v)) out q sink);
        },
      )
    where
      joined : (p q r : Bool) → p ≡ false → q ≡ true → r ≡ true → (not p && (q && r)) ≡ true
      joined p q r h l e = grind arith

  -- where there is none, what is not reached is closed
  unreached_closed : ((x : ℕ) → x < n → ending x ≡ false) → Closed n f g s (λ v. not (reached v))
  unreached_closed never = record {
    sinks = λ x h out sink. last (s x) (reached x) (g (with s x)) out sink (never x h);
    by_first = λ y x hy hx held out away arc. flip (reached y) (reached x) away (λ r. (labels.into y x hy hx held out r arc).0);
    by_second = λ y x hy hx held out away arc. flip (reached x) (reached y) away (λ r. (labels.out x y hx hy out held r arc).0);
    no_source = λ x h out source. shut (reached x) (labels.start x h out source).0;
  }
    where
      last : (p q r : Bool) → p ≡ false → r ≡ true → (not p && (q && r)) ≡ false → not q ≡ true
      last p q r h l e = grind arith

      flip : (p q : Bool) → not q ≡ true → (p ≡ true → q ≡ true) → not p ≡ true
      flip p q h l = grind arith

      shut : (p : Bool) → p ≡ true → not p ≡ false
      shut p h = grind arith

-- a next state or a dual set
pub next_or_dual : NextOrDual
next_or_dual n f g w a loss s first second light state =
    let r = labels_exist n f g w a loss s state in
    ⊎_elim
    (λ found.
    let e = end_exists n f g w a loss s r.0 r.1 r.2 r.3 r.4 found.0 found.1 found.2 in
    let q = round n f g w a loss s r.0 r.1 r.2 r.3 e.0 first second light state r.4 e.1 in
    inl (
      raised r.0 a r.1 (lost w a r.1 e.0 - loss),
      lost w a r.1 e.0,
      toggled s r.3 e.0 (r.2 e.0),
      q.state,
      q.sized,
      q.rises,
      q.gained,
    ))
    (λ never. inr (
      (λ v. not (r.0 v)),
      dual_by_closed n f g s (λ v. not (r.0 v)) first second state.first state.second
          (unreached_closed n f g w a loss s r.0 r.1 r.2 r.3 r.4 never),
    ))
    (look_up n (ending n f g w a loss s r.0 r.1 r.2 r.3 r.4))

-- a state of every size up to the largest
pub states_exist : StatesExist
states_exist n f g w t first second light ft gt zero h = ((λ x. 0), 0, none, empty_state n f g w first second light, size_none n)
states_exist n f g w t first second light ft gt (suc j) h =
    let r = states_exist n f g w t first second light ft gt j (omega arith) in
    ⊎_elim
    (λ q. (q.0, q.1, q.2, q.3, q.4 ∙ ap suc r.4))
    (λ u. let l : size n t ≤ size n r.2 = largest n f g r.2 u.0 t first second u.1 ft gt in
    let e : size n r.2 ≡ j = r.4 in
    absurd (omega arith))
    (next_or_dual n f g w r.0 r.1 r.2 first second light r.3)

-- a set with a dual set
grown : (fuel n : ℕ) (f g : Set → Bool) (a : ℕ → ℕ) (loss : ℕ) (s : Set) → Matroid n f → Matroid n g → n < size n s + fuel →
    State n f g (λ x. 0) a loss s → (t : Set) × (u : Set) × Dual n f g t u
grown zero n f g a loss s first second h state = absurd (omega (arith, size_bound n s))
grown (suc fuel) n f g a loss s first second h state = ⊎_elim
    (λ q. grown fuel n f g q.0 q.1 q.2 first second (omega (arith, q.4)) q.3)
    (λ u. (s, u.0, u.1))
    (next_or_dual n f g (λ x. 0) a loss s first second (λ x l. omega arith) state)

-- from the empty set on
pub dual_exists : DualExists
dual_exists n f g first second =
    grown (suc n) n f g (λ x. 0) 0 none first second (omega arith) (empty_state n f g (λ x. 0) first second (λ x l. omega arith))

-- gains of heaviest sets never rise
pub heaviest_gains_never_rise : HeaviestGainsNeverRise
heaviest_gains_never_rise n f g w r s t first second light fr gr fs gs ft gt more less most =
    let p = states_exist n f g w s first second light fs gs (size n s) (omega arith) in
    let same : size n p.2 ≡ size n s = p.4 in
    let gain : weight n w t + weight n w r ≤ weight n w p.2 + weight n w p.2 =
    gains_never_rise n f g w p.0 (rest w p.0 p.1) r p.2 t first second (state_split n f g w p.0 p.1 p.2 p.3)
    fr gr ft gt (more ∙ ap suc (sym same)) (same ∙ less) in
    let top' : weight n w p.2 ≤ weight n w s = most p.2 p.3.first p.3.second same in
    omega arith
