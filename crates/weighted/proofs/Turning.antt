-- One round from the labels that were found: the set with the path changed and the raised potentials are a state.
use Rattle.std.proofs.Common.{◌≡◌, ℕ, ◌+◌, ◌-◌, ◌*◌, ◌<◌, ◌≤◌, Bool, Some, Option, sym, ap, ◌∙◌, subst, mul-le-mul_right, arith, MatchOption}
use Rattle.sets.specs.Matroid.{Set, size, Matroid}
use Rattle.sets.proofs.FiniteSets.{size_same, size_bound}
use Rattle.exchange.specs.Round.{top, State, Labels, End, lost, toggled}
use Rattle.weighted.specs.Next.{raised, Added}
use Rattle.weighted.proofs.Progress.{state_along}
use Rattle.weighted.proofs.Rounds.{round}

-- what a set of at most 600 offers has lost fits
pub loss_fits : (n loss : ℕ) (s : Set) → n ≤ 600 → loss ≤ size n s * top → loss ≤ 601 * top
loss_fits n loss s few low =
    let b : size n s ≤ n = size_bound n s in
    let c : size n s ≤ 600 = omega arith in
    let d : size n s * top ≤ 600 * top = mul-le-mul_right top c in
    omega arith

-- a state with labels and an end leads to one of one offer more, for the set and the potentials that were made
pub added : (n : ℕ) (f g : Set → Bool) (w a a' : ℕ → ℕ) (loss : ℕ) (s t reached : Set) (d k back : ℕ → ℕ) (end : ℕ) →
    Matroid n f → Matroid n g → ((x : ℕ) → x < n → w x ≤ top) → State n f g w a loss s → Labels n f g w a s reached d k back →
    End n g w a s reached d k end → ((x : ℕ) → x < n → t x ≡ toggled s back end (k end) x) →
    ((x : ℕ) → x < n → a' x ≡ raised reached a d (lost w a d end - loss) x) → Added n f g w a' (lost w a d end) s t
added n f g w a a' loss s t reached d k back end mf mg light h labels e same risen =
    let r = round n f g w a loss s reached d k back end mf mg light h labels e in
    record {
      state =
          state_along mf mg w (raised reached a d (lost w a d end - loss)) a' (lost w a d end) (toggled s back end (k end)) t same risen
          r.state;
      sized = size_same n t (toggled s back end (k end)) same ∙ r.sized;
      low = r.bounded;
    }

-- the same, where the new loss has a name
pub added_by : (n : ℕ) (f g : Set → Bool) (w a a' : ℕ → ℕ) (loss risen : ℕ) (s t reached : Set) (d k back : ℕ → ℕ) (end : ℕ) →
    Matroid n f → Matroid n g → ((x : ℕ) → x < n → w x ≤ top) → State n f g w a loss s → Labels n f g w a s reached d k back →
    End n g w a s reached d k end → risen ≡ lost w a d end → ((x : ℕ) → t x ≡ toggled s back end (k end) x) →
    ((x : ℕ) → x < n → a' x ≡ raised reached a d (risen - loss) x) → Added n f g w a' risen s t
added_by n f g w a a' loss risen s t reached d k back end mf mg light h labels e is same rises =
    subst (λ (r : ℕ). Added n f g w a' r s t) (sym is)
    (added n f g w a a' loss s t reached d k back end mf mg light h labels e (λ x l. same x)
    (λ x l. rises x l ∙ ap (λ (z : ℕ). raised reached a d (z - loss) x) is))

-- what the end of a round says where there is a path
pub some_end : (o : Option ℕ) (t : ℕ) (P : Type 0) (Q : ℕ → Type 0) → o ≡ Some t → MatchOption o P Q → Q t
some_end o t P Q e h = subst (λ (v : Option ℕ). MatchOption v P Q) e h

-- what a path has cost and the potential at its end are small
pub end_small : (d a w k n : ℕ) → d + a ≤ w + k * top → k ≤ n + 1 → n ≤ 600 → w ≤ top → d + a ≤ 602 * top
end_small d a w k n h l few light =
    let b : k ≤ 601 = omega arith in
    let c : k * top ≤ 601 * top = mul-le-mul_right top b in
    omega arith
