-- The least of the elements below i, while i grows.
use Rattle.std.proofs.Common.{◌≡◌, ℕ, ◌+◌, ◌<◌, ◌≤◌, Bool, true, false, not, Some, None, Option, sym, refl, ◌∙◌, subst, ⊎_elim, arith, MatchOption}
use Rattle.std.proofs.lemmas.Bool.{cases_eq, cases_lt, both_ways, not-true, not-false}
use Rattle.sets.specs.Matroid.{Set}
use Rattle.exchange.specs.Round.{no_worse}
use Rattle.exchange.specs.Graph.{Least}
use Rattle.exchange.proofs.Settling.{no_worse_refl, no_worse_trans, no_worse_other}

-- what holds of every element below i and of i holds of every element below i + 1
extend : (P : ℕ → Type 0) (i : ℕ) → ((v : ℕ) → v < i → P v) → P i → (v : ℕ) → v < i + 1 → P v
extend P i h here v p = ⊎_elim (λ (e : v ≡ i). subst P (sym e) here) (λ (e : v ≡ i → ⊥). h v (omega arith)) (cases_eq v i)

-- none so far, and none at i
pub none_more : (i : ℕ) (among : Set) → ((v : ℕ) → v < i → among v ≡ false) → among i ≡ false → (v : ℕ) → v < i + 1 → among v ≡ false
none_more i among h here = extend (λ (v : ℕ). among v ≡ false) i h here

-- the first
pub least_first : (i : ℕ) (among : Set) (d k : ℕ → ℕ) → ((v : ℕ) → v < i → among v ≡ false) → among i ≡ true → Least (i + 1) among d k i
least_first i among d k h here = (
  omega arith,
  here,
  extend (λ (v : ℕ). among v ≡ true → no_worse (d i) (k i) (d v) (k v) ≡ true) i (λ v p q. absurd (both_ways (among v) (h v p) q))
      (λ _. no_worse_refl i i d k refl),
)

-- i is not among them, or no better
pub least_pass : (i : ℕ) (among : Set) (d k : ℕ → ℕ) (t : ℕ) → Least i among d k t → among i ≡ false → Least (i + 1) among d k t
least_pass i among d k t h off = (
  omega (arith, h.0),
  h.1,
  extend (λ (v : ℕ). among v ≡ true → no_worse (d t) (k t) (d v) (k v) ≡ true) i h.2 (λ q. absurd (both_ways (among i) off q)),
)

-- i is no better
pub least_stay : (i : ℕ) (among : Set) (d k : ℕ → ℕ) (t : ℕ) → Least i among d k t → no_worse (d t) (k t) (d i) (k i) ≡ true → Least (i + 1) among d k t
least_stay i among d k t h b =
    (omega (arith, h.0), h.1, extend (λ (v : ℕ). among v ≡ true → no_worse (d t) (k t) (d v) (k v) ≡ true) i h.2 (λ _. b))

-- i is better
pub least_move : (i : ℕ) (among : Set) (d k : ℕ → ℕ) (t : ℕ) → Least i among d k t → among i ≡ true → no_worse (d t) (k t) (d i) (k i) ≡ false → Least (i + 1) among d k i
least_move i among d k t h here b = (
  omega arith,
  here,
  extend (λ (v : ℕ). among v ≡ true → no_worse (d i) (k i) (d v) (k v) ≡ true) i
      (λ v p q. no_worse_trans (d i) (k i) (d t) (k t) (d v) (k v) (no_worse_other (d t) (k t) (d i) (k i) b) (h.2 v p q)) (λ _. no_worse_refl i i d k refl),
)

-- the best of the elements below i
abbrev pub SoFar : ℕ → Set → (ℕ → ℕ) → (ℕ → ℕ) → Option ℕ → Type 0
SoFar i among d k o = MatchOption o ((x : ℕ) → x < i → among x ≡ false) (λ t. Least i among d k t)

-- whether i is better than the best so far
abbrev pub Said : ℕ → (ℕ → ℕ) → (ℕ → ℕ) → Option ℕ → Bool → Type 0
Said i d k o r = MatchOption o (r ≡ true) (λ t. r ≡ not (no_worse (d t) (k t) (d i) (k i)))

-- an element that is not among them changes nothing
pub passed : (i : ℕ) (among : Set) (d k : ℕ → ℕ) (o : Option ℕ) → among i ≡ false → SoFar i among d k o → SoFar (i + 1) among d k o
passed i among d k None off h = none_more i among h off
passed i among d k (Some t) off h = least_pass i among d k t h off

-- one that is no better neither
pub stays : (i : ℕ) (among : Set) (d k : ℕ → ℕ) (o : Option ℕ) (r : Bool) → Said i d k o r → r ≡ false → SoFar i among d k o → SoFar (i + 1) among d k o
stays i among d k None r e q h = absurd (both_ways r q e)
stays i among d k (Some t) r e q h = least_stay i among d k t h (not-false _ (sym e ∙ q))

-- a better one takes its place
pub moves : (i : ℕ) (among : Set) (d k : ℕ → ℕ) (o : Option ℕ) (r : Bool) → Said i d k o r → r ≡ true → among i ≡ true → SoFar i among d k o →
    SoFar (i + 1) among d k (Some i)
moves i among d k None r e q here h = least_first i among d k h here
moves i among d k (Some t) r e q here h = least_move i among d k t h here (not-true _ (sym e ∙ q))

-- elements that are not among them are passed over
pub passed_over : (i : ℕ) (among : Set) (d k : ℕ → ℕ) (o : Option ℕ) (j : ℕ) → i ≤ j → ((x : ℕ) → i ≤ x → x < j → among x ≡ false) → SoFar i among d k o →
    SoFar j among d k o
passed_over i among d k None j p off h = λ x q. ⊎_elim (λ (l : x < i). h x l) (λ (l : i ≤ x). off x l q) (cases_lt x i)
passed_over i among d k (Some t) j p off h = (
  omega (arith, h.0),
  h.1,
  λ x q r. ⊎_elim (λ (l : x < i). h.2 x l r) (λ (l : i ≤ x). absurd (both_ways (among x) (off x l q) r)) (cases_lt x i),
)
