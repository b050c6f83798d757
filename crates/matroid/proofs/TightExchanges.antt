-- Many exchanges, by index and by keys, and tight exchanges; each also after an element is added.
use Rattle.std.proofs.Common.{◌≡◌, ℕ, suc, ◌<◌, ◌≤◌, Bool, true, false, sym, refl, ◌∙◌, inl, inr, ⊎_elim, arith}
use Rattle.std.proofs.lemmas.Bool.{cases_lt, both_ways}
use Rattle.sets.specs.Matroid.{Set, size, without, with, Matroid}
use Rattle.sets.proofs.FiniteSets.{size_same, size_with, size_bound}
use Rattle.sets.proofs.Weights.{weight_same, weight_with}
use Rattle.sets.proofs.MatroidLaws.{allowed_within, refused_within, allowed_same}
use Rattle.matroid.specs.Exchanges.{exchanged, Pairs, Falling, ManyExchanges, ManyExchangesAndOne, ManyExchangesByKeys, ManyExchangesByKeysAndOne, Tight, TightExchanges, TightExchangesAndOne}
use Rattle.matroid.proofs.OneMatroid.{refused_is_new, makes_way_is_held, carry, as_good_as_best, best_of_one_more}
use Rattle.matroid.proofs.ManyExchanges.{swapped, hit_all, Like, all_done}

-- all pairs exchanged by keys, where each pair's two elements have equal numbers: the numbers' sum stays too
exchanged_by_keys : (n : ℕ) (f : Set → Bool) (a : ℕ → ℕ) (s : Set) (y x : ℕ → ℕ) (m : ℕ) (key place : ℕ → ℕ) → Matroid n f →
    Pairs n f s y x m → Falling f s y x m key place → ((i : ℕ) → i < m → a (x i) ≡ a (y i)) → Like n f a s (exchanged s y x m)
exchanged_by_keys n f a s y x m key place r o falls even =
    let like =
    all_done n f a y x m key place r (suc m) s (λ i. true) (let b : size m (λ i. true) ≤ m = size_bound m (λ i. true) in omega arith)
    (record {
      allowed = o.allowed;
      full = λ i p e. o.full i p;
      single = λ i p e. o.single i p;
      equal = λ i p e. even i p;
      falling = λ i j p q e d. falls i j p q;
    }) in
    let same : (v : ℕ) → v < n → swapped s y x (λ i. true) m v ≡ exchanged s y x m v =
    λ v q. let c = hit_all y m v in let d = hit_all x m v in grind arith in (
      sym (allowed_same r (swapped s y x (λ i. true) m) (exchanged s y x m) same) ∙ like.0,
      sym (size_same n (swapped s y x (λ i. true) m) (exchanged s y x m) same) ∙ like.1,
      sym (weight_same n a a (swapped s y x (λ i. true) m) (exchanged s y x m) (λ v q. refl) same) ∙ like.2,
    )

-- pairs stay pairs after an element is added
pairs_and_one : (n : ℕ) (f : Set → Bool) (s : Set) (z : ℕ) (y x : ℕ → ℕ) (m : ℕ) → Matroid n f → Pairs n f s y x m →
    s z ≡ false → f (with s z) ≡ true → Pairs n f (with s z) y x m
pairs_and_one n f s z y x m r o e d =
    record {
      allowed = d;
      full = λ i p. refused_within r (with s (x i)) (with (with s z) (x i)) (λ v q k. grind arith) (o.full i p);
      single = λ i p.
          allowed_within r (with (without (with s z) (y i)) (x i)) (with (with (without s (y i)) (x i)) z) (λ v q k. grind arith)
          (carry n f s (x i) (y i) z r e (o.full i p) d (o.single i p));
    }

-- an exchange that is allowed after an element is added was allowed before
was_single : (n : ℕ) (f : Set → Bool) (s : Set) (z y x : ℕ) → Matroid n f → f (with (without (with s z) y) x) ≡ true → f (with (without s y) x) ≡ true
was_single n f s z y x r h = allowed_within r (with (without s y) x) (with (without (with s z) y) x) (λ v q k. grind arith) h

-- all pairs can be exchanged at once, where their exchanges fall by keys
pub many_exchanges_by_keys : ManyExchangesByKeys
many_exchanges_by_keys n f s y x m key place r o falls =
    let like = exchanged_by_keys n f (λ v. 0) s y x m key place r o falls (λ i p. refl) in
    (like.0, like.1)

-- the same, after an element is added
pub many_exchanges_by_keys_and_one : ManyExchangesByKeysAndOne
many_exchanges_by_keys_and_one n f s z y x m key place r o b e d falls =
    let like =
    many_exchanges_by_keys n f (with s z) y x m key place r (pairs_and_one n f s z y x m r o e d)
    (λ i j p q k h. falls i j p q k (was_single n f s z (y i) (x j) r h)) in
    (like.0, like.1 ∙ size_with n s z b e)

-- where no earlier y goes for a later x, the index is a key
by_index : (f : Set → Bool) (s : Set) (y x : ℕ → ℕ) (m : ℕ) → ((i j : ℕ) → i < j → j < m → f (with (without s (y i)) (x j)) ≡ false) →
    Falling f s y x m (λ i. i) (λ i. 0)
by_index f s y x m h i j p q k e =
    ⊎_elim
    (λ l. absurd (both_ways (f (with (without s (y i)) (x j))) (h i j l q) e))
    (λ l. inl (⊎_elim (λ o. o) (λ o. absurd (k (omega arith))) (cases_lt j i)))
    (cases_lt i j)

-- all pairs can be exchanged at once, where no exchange of an earlier y for a later x is allowed
pub many_exchanges : ManyExchanges
many_exchanges n f s y x m r o h = many_exchanges_by_keys n f s y x m (λ i. i) (λ i. 0) r o (by_index f s y x m h)

-- the same, after an element is added
pub many_exchanges_and_one : ManyExchangesAndOne
many_exchanges_and_one n f s z y x m r o b e d h =
    many_exchanges_by_keys_and_one n f s z y x m (λ i. i) (λ i. 0) r o b e d (by_index f s y x m h)

-- tight exchanges fall by potential, and by place where the potentials are equal
tight_falls : (n : ℕ) (f : Set → Bool) (a : ℕ → ℕ) (s : Set) (y x : ℕ → ℕ) (m : ℕ) (place : ℕ → ℕ) → Matroid n f → Tight n f a s y x m place →
    Falling f s y x m (λ i. a (y i)) place
tight_falls n f a s y x m place r t i j p q k e =
    let o = t.pairs in
    let held = makes_way_is_held n f s (y i) (x i) r (o.full i p) (o.single i p) in
    let new = refused_is_new n f s (x j) r o.allowed (o.full j q) in
    let no_more : a (x j) ≤ a (y i) = t.best (y i) (x j) held.0 new.0 held.1 new.1 e in
    let even : a (x j) ≡ a (y j) = t.equal j q in
    ⊎_elim
    (λ l. inl l)
    (λ l. inr (omega arith, t.ties i j p q k (omega arith) e))
    (cases_lt (a (y j)) (a (y i)))

-- tight pairs can be exchanged all at once, and the set stays a best one
pub tight_exchanges : TightExchanges
tight_exchanges n f a s y x m place r t =
    let like = exchanged_by_keys n f a s y x m (λ i. a (y i)) place r t.pairs (tight_falls n f a s y x m place r t) t.equal in
    record {
      allowed = like.0;
      sized = like.1;
      weighs = like.2;
      best = as_good_as_best n f a s (exchanged s y x m) r t.pairs.allowed like.0 like.1 like.2 t.best;
    }

-- the same, after one of the heaviest elements that can be added is added
pub tight_exchanges_and_one : TightExchangesAndOne
tight_exchanges_and_one n f a s z y x m place r t b e d most =
    let made =
    tight_exchanges n f a (with s z) y x m place r
    (record {
      pairs = pairs_and_one n f s z y x m r t.pairs e d;
      best = best_of_one_more n f a s z r t.best most;
      equal = t.equal;
      ties = λ i j p q k even h. t.ties i j p q k even (was_single n f s z (y i) (x j) r h);
    }) in
    record {
      allowed = made.allowed;
      sized = made.sized ∙ size_with n s z b e;
      weighs = made.weighs ∙ weight_with n a s z b e;
      best = made.best;
    }
