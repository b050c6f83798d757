-- What a set of rows spans: closed under sums and multiples, and transitive.
use Rattle.std.proofs.Common.{◌≡◌, ℕ, zero, suc, ◌+◌, ◌-◌, ◌*◌, ◌%◌, ◌<◌, Bool, true, false, eqb, refl, ap, ⊎_elim, mod-lt, arith}
use Rattle.std.proofs.lemmas.Bool.{cases_eq, eq-eqb, ne_eqb, eqb-true, and_parts, and_from, or_cases, or_left, or_right}
use Rattle.sets.specs.Matroid.{Set, pick, weight, without}
use Rattle.linear.specs.Rows.{vanishes, some, spanned}
use Rattle.linear.proofs.Modulo.{Same, Null, same_refl, same_sym, same_sum, same_multiple, same_from, same_more, same_rest, same_trans, null_zero, null_sum, null_multiple, null_same, null_p, null_rest, rest_null}
use Rattle.linear.proofs.Sums.{weight_equal, weight_null, weight_sum, weight_times, weight_at}

-- multiples of the rows below m of s that bring the row t to zero, modulo p, at its first l places
pub record Spans (p l : ℕ) (rows : ℕ → ℕ → ℕ) (m : ℕ) (s : Set) (t : ℕ → ℕ) : Type 0 where
  pub multiple : ℕ → ℕ
  pub none : (j : ℕ) → j < l → Null p (t j + weight m (λ i. multiple i * rows i j) s)

-- equal numbers are zero together
pub null_equal : (p a b : ℕ) → a ≡ b → Null p b → Null p a
null_equal p a b e h = null_same p a b (same_from p a b e) h

module _ (p l : ℕ) (rows : ℕ → ℕ → ℕ) (m : ℕ) (s : Set) where
  -- a row of zeros is spanned
  pub spans_none : (t : ℕ → ℕ) → ((j : ℕ) → j < l → Null p (t j)) → Spans p l rows m s t
  spans_none t h =
      record {
        multiple = λ i. 0;
        none = λ j k. null_equal p (t j + weight m (λ i. 0 * rows i j) s) (t j) (let e = weight_times m 0 (λ i. rows i j) s in omega arith) (h j k);
      }

  -- the sum of two
  pub spans_sum : (t u : ℕ → ℕ) → Spans p l rows m s t → Spans p l rows m s u → Spans p l rows m s (λ j. t j + u j)
  spans_sum t u a b =
      record {
        multiple = λ i. a.multiple i + b.multiple i;
        none =
            λ j k.
            let c = a.multiple in
            let d = b.multiple in
            let e : weight m (λ i. (c i + d i) * rows i j) s ≡ weight m (λ i. c i * rows i j + d i * rows i j) s =
            weight_equal m (λ i. (c i + d i) * rows i j) (λ i. c i * rows i j + d i * rows i j) s (λ i q h. omega arith) in
            let f = weight_sum m (λ i. c i * rows i j) (λ i. d i * rows i j) s in
            null_equal p (t j + u j + weight m (λ i. (c i + d i) * rows i j) s)
            (t j + weight m (λ i. c i * rows i j) s + (u j + weight m (λ i. d i * rows i j) s)) (omega arith)
            (null_sum p (t j + weight m (λ i. c i * rows i j) s) (u j + weight m (λ i. d i * rows i j) s) (a.none j k) (b.none j k));
      }

  -- a multiple
  pub spans_times : (k : ℕ) (t : ℕ → ℕ) → Spans p l rows m s t → Spans p l rows m s (λ j. k * t j)
  spans_times k t a =
      record {
        multiple = λ i. k * a.multiple i;
        none =
            λ j q.
            let c = a.multiple in
            let e : weight m (λ i. k * c i * rows i j) s ≡ weight m (λ i. k * (c i * rows i j)) s =
            weight_equal m (λ i. k * c i * rows i j) (λ i. k * (c i * rows i j)) s (λ i r h. omega arith) in
            let f = weight_times m k (λ i. c i * rows i j) s in
            null_equal p (k * t j + weight m (λ i. k * c i * rows i j) s) (k * (t j + weight m (λ i. c i * rows i j) s)) (omega arith)
            (null_multiple p k (t j + weight m (λ i. c i * rows i j) s) (a.none j q));
      }

  -- a row that is equal modulo p
  pub spans_same : (t u : ℕ → ℕ) → ((j : ℕ) → j < l → Same p (t j) (u j)) → Spans p l rows m s u → Spans p l rows m s t
  spans_same t u h a =
      record {
        multiple = a.multiple;
        none =
            λ j k.
            let w = weight m (λ i. a.multiple i * rows i j) s in
            null_same p (t j + w) (u j + w) (same_sum p (t j) (u j) w w (h j k) (same_refl p w)) (a.none j k);
      }

  -- what is left when a spanned row is taken away
  pub spans_cancel : (t u : ℕ → ℕ) → 0 < p → Spans p l rows m s (λ j. t j + u j) → Spans p l rows m s u → Spans p l rows m s t
  spans_cancel t u pos a b =
      let d = spans_sum (λ j. t j + u j) (λ j. (p - 1) * u j) a (spans_times (p - 1) u b) in
      spans_same t (λ j. t j + u j + (p - 1) * u j)
      (λ j k.
      same_trans p (t j) (t j + p * u j) (t j + u j + (p - 1) * u j) (same_sym p (t j + p * u j) (t j) (same_more p (t j) (u j)))
      (same_from p (t j + p * u j) (t j + u j + (p - 1) * u j) (times p (t j) (u j) pos)))
      d
    where
      times : (p a c : ℕ) → 0 < p → a + p * c ≡ a + c + (p - 1) * c
      times zero a c pos = absurd (omega arith)
      times (suc q) a c pos =
          let e : suc q - 1 ≡ q = omega arith in rw e (omega arith)

  -- a row of the set
  pub spans_member : (x : ℕ) → 0 < p → x < m → s x ≡ true → Spans p l rows m s (rows x)
  spans_member x pos low h =
      record {
        multiple = λ i. pick (eqb i x) (p - 1) 0;
        none =
            λ j k.
            let w : ℕ → ℕ = λ i. pick (eqb i x) (p - 1) 0 * rows i j in
            let e = weight_at m x w s low h in
            let f : w x ≡ (p - 1) * rows x j = ap (λ b. pick b (p - 1) 0 * rows x j) (eq-eqb x x refl) in
            let g : Null p (weight m w (without s x)) = weight_null p m w (without s x) (λ i q y. null_equal p (w i) 0 (other i j y) (null_zero p)) in
            null_equal p (rows x j + weight m w s) (p * rows x j + weight m w (without s x)) (joined p (rows x j) (w x) (weight m w s) (weight m w (without s x)) pos f e)
            (null_sum p (p * rows x j) (weight m w (without s x)) (null_p p (rows x j)) g);
      }
    where
      other : (i j : ℕ) → without s x i ≡ true → pick (eqb i x) (p - 1) 0 * rows i j ≡ 0
      other i j y =
          let e : eqb i x ≡ false = grind arith in rw e (omega arith)

      joined : (p a b c d : ℕ) → 0 < p → b ≡ (p - 1) * a → c ≡ b + d → a + c ≡ p * a + d
      joined zero a b c d pos f e = absurd (omega arith)
      joined (suc q) a b c d pos f e =
          let g : suc q - 1 ≡ q = omega arith in
          let h : b ≡ q * a = rw g at f in omega arith

  -- any sum of multiples of spanned rows
  pub spans_mix :
      (k : ℕ) (d : ℕ → ℕ) (b : Set) → ((x : ℕ) → x < k → b x ≡ true → Spans p l rows m s (rows x)) →
      Spans p l rows m s (λ j. weight k (λ i. d i * rows i j) b)
  spans_mix zero d b h = spans_none (λ j. 0) (λ j q. null_zero p)
  spans_mix (suc k) d b h =
      spans_sum (λ j. pick (b k) (d k * rows k j) 0) (λ j. weight k (λ i. d i * rows i j) b) (go (b k) (h k (omega arith)))
      (spans_mix k d b (λ x q. h x (omega arith)))
    where
      go : (v : Bool) → (v ≡ true → Spans p l rows m s (rows k)) → Spans p l rows m s (λ j. pick v (d k * rows k j) 0)
      go true f = spans_times (d k) (rows k) (f refl)
      go false f = spans_none (λ j. 0) (λ j q. null_zero p)

-- what is spanned by spanned rows is spanned
pub spans_through :
    (p l : ℕ) (rows : ℕ → ℕ → ℕ) (m : ℕ) (s : Set) (k : ℕ) (b : Set) (t : ℕ → ℕ) → 0 < p →
    ((x : ℕ) → x < k → b x ≡ true → Spans p l rows m s (rows x)) → Spans p l rows k b t → Spans p l rows m s t
spans_through p l rows m s k b t pos h a =
    spans_cancel p l rows m s t (λ j. weight k (λ i. a.multiple i * rows i j) b) pos
    (spans_none p l rows m s (λ j. t j + weight k (λ i. a.multiple i * rows i j) b) a.none)
    (spans_mix p l rows m s k a.multiple b h)

-- a test below k that some number passes
pub some_from : (k : ℕ) (test : ℕ → Bool) (c : ℕ) → c < k → test c ≡ true → some k test ≡ true
some_from zero test c l h = absurd (omega arith)
some_from (suc k) test c l h =
    ⊎_elim (λ e. or_left (test k) (some k test) (rw e h)) (λ ne. or_right (test k) (some k test) (some_from k test c (omega arith) h)) (cases_eq k c)

-- the number that passes
pub some_gives : (k : ℕ) (test : ℕ → Bool) → some k test ≡ true → (c : ℕ) × (c < k) × (test c ≡ true)
some_gives zero test h = absurd (grind arith)
some_gives (suc k) test h =
    ⊎_elim (λ y. (k, omega arith, y)) (λ y. let r = some_gives k test y in (r.0, omega (arith, r.1), r.2))
    (or_cases (test k) (some k test) h)

-- all places of a row are zero
pub vanishes_from : (p l : ℕ) (t : ℕ → ℕ) → 0 < p → ((j : ℕ) → j < l → Null p (t j)) → vanishes p l t ≡ true
vanishes_from p zero t pos h = refl
vanishes_from p (suc l) t pos h =
    and_from (eqb (t l % p) 0) (vanishes p l t) (eq-eqb (t l % p) 0 (null_rest p (t l) pos (h l (omega arith))))
    (vanishes_from p l t pos (λ j k. h j (omega arith)))

-- and each place of it
pub vanishes_gives : (p l : ℕ) (t : ℕ → ℕ) → vanishes p l t ≡ true → (j : ℕ) → j < l → Null p (t j)
vanishes_gives p zero t h j k = absurd (omega arith)
vanishes_gives p (suc l) t h j k =
    let a = and_parts (eqb (t l % p) 0) (vanishes p l t) h in
    ⊎_elim (λ e. rw e (rest_null p (t l) (eqb-true (t l % p) 0 a.0))) (λ ne. vanishes_gives p l t a.1 j (omega arith)) (cases_eq j l)

-- the test of the specification gives multiples
pub spanned_gives : (p l : ℕ) (rows : ℕ → ℕ → ℕ) (s : Set) (m : ℕ) (t : ℕ → ℕ) → spanned p l rows s m t ≡ true → Spans p l rows m s t
spanned_gives p l rows s zero t h = spans_none p l rows zero s t (vanishes_gives p l t h)
spanned_gives p l rows s (suc m) t h =
    go (s m) refl h (λ u. spanned_gives p l rows s m u)
  where
    chosen : (c : ℕ) → s m ≡ true → Spans p l rows m s (λ j. t j + c * rows m j) → Spans p l rows (suc m) s t
    chosen c y a =
        record {
          multiple = λ i. pick (eqb i m) c (a.multiple i);
          none =
              λ j k.
              let w : ℕ → ℕ = λ i. pick (eqb i m) c (a.multiple i) * rows i j in
              let e : weight m w s ≡ weight m (λ i. a.multiple i * rows i j) s =
              weight_equal m w (λ i. a.multiple i * rows i j) s
              (λ i q z. ap (λ b. pick b c (a.multiple i) * rows i j) (ne_eqb i m (λ r. omega arith))) in
              let f : w m ≡ c * rows m j = ap (λ b. pick b c (a.multiple m) * rows m j) (eq-eqb m m refl) in
              let g : pick (s m) (w m) 0 ≡ w m = ap (λ b. pick b (w m) 0) y in
              null_equal p (t j + (pick (s m) (w m) 0 + weight m w s)) (t j + c * rows m j + weight m (λ i. a.multiple i * rows i j) s) (omega arith) (a.none j k);
        }

    kept : s m ≡ false → Spans p l rows m s t → Spans p l rows (suc m) s t
    kept y a =
        record {
          multiple = a.multiple;
          none =
              λ j k.
              let w : ℕ → ℕ = λ i. a.multiple i * rows i j in
              let g : pick (s m) (w m) 0 ≡ 0 = ap (λ b. pick b (w m) 0) y in
              null_equal p (t j + (pick (s m) (w m) 0 + weight m w s)) (t j + weight m w s) (omega arith) (a.none j k);
        }

    go :
        (b : Bool) → s m ≡ b → pick b (some p (λ c. spanned p l rows s m (λ j. t j + c * rows m j))) (spanned p l rows s m t) ≡ true →
        ((u : ℕ → ℕ) → spanned p l rows s m u ≡ true → Spans p l rows m s u) → Spans p l rows (suc m) s t
    go true y h f =
        let r = some_gives p (λ c. spanned p l rows s m (λ j. t j + c * rows m j)) h in
        chosen r.0 y (f (λ j. t j + r.0 * rows m j) r.2)
    go false y h f = kept y (f t h)

-- and multiples pass the test
pub spanned_from : (p l : ℕ) (rows : ℕ → ℕ → ℕ) (s : Set) (m : ℕ) (t : ℕ → ℕ) → 0 < p → Spans p l rows m s t → spanned p l rows s m t ≡ true
spanned_from p l rows s zero t pos a =
    vanishes_from p l t pos (λ j k. null_equal p (t j) (t j + 0) (omega arith) (a.none j k))
spanned_from p l rows s (suc m) t pos a = go (s m) refl (λ u. spanned_from p l rows s m u pos)
  where
    c : ℕ → ℕ
    c = a.multiple

    chosen : s m ≡ true → Spans p l rows m s (λ j. t j + c m % p * rows m j)
    chosen y =
        record {
          multiple = c;
          none =
              λ j k.
              let w : ℕ → ℕ = λ i. c i * rows i j in
              let g : pick (s m) (w m) 0 ≡ w m = ap (λ b. pick b (w m) 0) y in
              let e : Same p (c m % p * rows m j) (c m * rows m j) =
              same_trans p (c m % p * rows m j) (rows m j * (c m % p)) (c m * rows m j) (same_from p (c m % p * rows m j) (rows m j * (c m % p)) (omega arith))
              (same_trans p (rows m j * (c m % p)) (rows m j * c m) (c m * rows m j) (same_multiple p (rows m j) (c m % p) (c m) (same_rest p (c m)))
              (same_from p (rows m j * c m) (c m * rows m j) (omega arith))) in
              null_same p (t j + c m % p * rows m j + weight m w s) (t j + c m * rows m j + weight m w s)
              (same_sum p (t j + c m % p * rows m j) (t j + c m * rows m j) (weight m w s) (weight m w s)
              (same_sum p (t j) (t j) (c m % p * rows m j) (c m * rows m j) (same_refl p (t j)) e) (same_refl p (weight m w s)))
              (null_equal p (t j + c m * rows m j + weight m w s) (t j + (pick (s m) (w m) 0 + weight m w s)) (omega arith) (a.none j k));
        }

    kept : s m ≡ false → Spans p l rows m s t
    kept y =
        record {
          multiple = c;
          none =
              λ j k.
              let w : ℕ → ℕ = λ i. c i * rows i j in
              let g : pick (s m) (w m) 0 ≡ 0 = ap (λ b. pick b (w m) 0) y in
              null_equal p (t j + weight m w s) (t j + (pick (s m) (w m) 0 + weight m w s)) (omega arith) (a.none j k);
        }

    go :
        (b : Bool) → s m ≡ b → ((u : ℕ → ℕ) → Spans p l rows m s u → spanned p l rows s m u ≡ true) →
        pick b (some p (λ d. spanned p l rows s m (λ j. t j + d * rows m j))) (spanned p l rows s m t) ≡ true
    go true y f =
        some_from p (λ d. spanned p l rows s m (λ j. t j + d * rows m j)) (c m % p) (mod-lt (c m) pos)
        (f (λ j. t j + c m % p * rows m j) (chosen y))
    go false y f = f t (kept y)
