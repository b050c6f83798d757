-- What rows span is a closure, so the rule is a matroid; and the test says the same as the natural reading.
use Rattle.std.proofs.Common.{◌≡◌, ℕ, zero, suc, ◌+◌, ◌-◌, ◌*◌, ◌%◌, ◌^◌, ◌<◌, ◌≤◌, Bool, true, false, eqb, ◌⊎◌, List, sym, refl, ap, ◌∙◌, inl, inr, ⊎_elim, arith}
use Rattle.std.proofs.lemmas.Bool.{cases_Bool, cases_eq, eq-eqb, both_ways}
use Rattle.sets.specs.Matroid.{Set, weight, with, without, Matroid}
use Rattle.sets.specs.Closure.{Closure}
use Rattle.sets.proofs.ClosureTheorem.{closure_matroid, free_each, free_all}
use Rattle.linear.specs.Rows.{number, span, allows, Allowed, Well, Prime, RowsMatroid, RowsNatural}
use Rattle.linear.proofs.Modulo.{Same, Null, same_sym, same_multiple, same_from, same_trans, same_is, is_same, same_null, null_multiple, null_p, null_cancel, rest_null, null_rest}
use Rattle.linear.proofs.Sums.{weight_equal, weight_set, weight_times, weight_at}
use Rattle.linear.proofs.Span.{Spans, null_equal, spans_none, spans_sum, spans_times, spans_same, spans_cancel, spans_member, spans_mix, spans_through, spanned_gives, spanned_from}
use Rattle.linear.proofs.Inverse.{inverse}

-- zero modulo p, or not
pub null_cases : (p a : ℕ) → 0 < p → (Null p a) ⊎ (Null p a → ⊥)
null_cases p a pos = ⊎_elim (λ e. inl (rest_null p a e)) (λ ne. inr (λ h. ne (null_rest p a pos h))) (cases_eq (a % p) 0)

-- an element that y brings in brings y in
pub spans_exchange :
    (p l : ℕ) (rows : ℕ → ℕ → ℕ) (n : ℕ) (s : Set) (x y : ℕ) → Prime p → p ≤ 251 → x < n → y < n →
    (Spans p l rows n s (rows y) → ⊥) → Spans p l rows n (with s x) (rows y) → Spans p l rows n (with s y) (rows x)
spans_exchange p l rows n s x y prime small lx ly not_in a = ⊎_elim old new (cases_Bool (s x))
  where
    pos : 0 < p
    pos = omega (arith, prime.0)

    c : ℕ → ℕ
    c = a.multiple

    rest : ℕ → ℕ
    rest j = weight n (λ i. c i * rows i j) s

    old : s x ≡ true → Spans p l rows n (with s y) (rows x)
    old h =
        absurd
        (not_in
        (record {
          multiple = c;
          none =
              λ j k.
              let e = weight_set n (λ i. c i * rows i j) s (with s x) (λ i q. inside i (eqb i x) (λ f. ap s f ∙ h) refl) in
              null_equal p (rows y j + weight n (λ i. c i * rows i j) s) (rows y j + weight n (λ i. c i * rows i j) (with s x)) (ap (λ v. rows y j + v) e) (a.none j k);
        }))
      where
        inside : (i : ℕ) (b : Bool) → (i ≡ x → s i ≡ true) → eqb i x ≡ b → s i ≡ with s x i
        inside i b f e = grind arith

    parted : s x ≡ false → (j : ℕ) → j < l → Null p (rows y j + (c x * rows x j + rest j))
    parted h j k =
        let w : ℕ → ℕ = λ i. c i * rows i j in
        let e : weight n w (with s x) ≡ c x * rows x j + weight n w (without (with s x) x) = weight_at n x w (with s x) lx (grind arith) in
        let f : weight n w (without (with s x) x) ≡ weight n w s = weight_set n w (without (with s x) x) s (λ i q. back i (λ g. ap s g ∙ h)) in
        null_equal p (rows y j + (c x * rows x j + weight n w s)) (rows y j + weight n w (with s x)) (omega arith) (a.none j k)
      where
        back : (i : ℕ) → (i ≡ x → s i ≡ false) → without (with s x) x i ≡ s i
        back i f = grind arith

    new : s x ≡ false → Spans p l rows n (with s y) (rows x)
    new h = ⊎_elim (λ z. absurd (not_in (idle z))) moved (null_cases p (c x) pos)
      where
        idle : Null p (c x) → Spans p l rows n s (rows y)
        idle z =
            record {
              multiple = c;
              none =
                  λ j k.
                  null_cancel p (rows y j + rest j) (rows x j * c x)
                  (null_equal p (rows y j + rest j + rows x j * c x) (rows y j + (c x * rows x j + rest j)) (omega arith) (parted h j k))
                  (null_multiple p (rows x j) (c x) z);
            }

        moved : (Null p (c x) → ⊥) → Spans p l rows n (with s y) (rows x)
        moved z =
            let k = (c x % p) ^ (p - 2) in
            let e : Same p (k * c x) 1 = inverse p (c x) prime small z in
            let g : Spans p l rows n (with s y) (λ j. rows y j + rest j) =
            spans_sum p l rows n (with s y) (rows y) rest (spans_member p l rows n (with s y) y pos ly (let r = eq-eqb y y refl in grind arith))
            (spans_mix p l rows n (with s y) n c s (λ i q r. spans_member p l rows n (with s y) i pos q (grind arith))) in
            let f : Spans p l rows n (with s y) (λ j. c x * rows x j) =
            spans_cancel p l rows n (with s y) (λ j. c x * rows x j) (λ j. rows y j + rest j) pos
            (spans_none p l rows n (with s y) (λ j. c x * rows x j + (rows y j + rest j))
            (λ j q. null_equal p (c x * rows x j + (rows y j + rest j)) (rows y j + (c x * rows x j + rest j)) (omega arith) (parted h j q)))
            g in
            spans_same p l rows n (with s y) (rows x) (λ j. k * (c x * rows x j))
            (λ j q.
            same_trans p (rows x j) (rows x j * (k * c x)) (k * (c x * rows x j))
            (same_sym p (rows x j * (k * c x)) (rows x j)
            (same_trans p (rows x j * (k * c x)) (rows x j * 1) (rows x j) (same_multiple p (rows x j) (k * c x) 1 e) (same_from p (rows x j * 1) (rows x j) (omega arith))))
            (same_from p (rows x j * (k * c x)) (k * (c x * rows x j)) (omega arith)))
            (spans_times p l rows n (with s y) k (λ j. c x * rows x j) f)

module _ (file : List ℕ) (n prime long at : ℕ) (well : Well file n prime long at) where
  -- a prime is not zero
  pub prime_pos : 0 < prime
  prime_pos = omega (arith, well.is_prime.0)

  -- the span of the specification, by multiples
  pub span_gives : (s : Set) (x : ℕ) → span file n prime long at s x ≡ true → Spans prime long (number file long at) n s (number file long at x)
  unfolding span
  span_gives s x h = spanned_gives prime long (number file long at) s n (number file long at x) h

  pub span_from : (s : Set) (x : ℕ) → Spans prime long (number file long at) n s (number file long at x) → span file n prime long at s x ≡ true
  unfolding span
  span_from s x a = spanned_from prime long (number file long at) s n (number file long at x) prime_pos a

  -- what rows span is a closure
  pub span_closure : Closure n (span file n prime long at)
  span_closure =
      let rows = number file long at in
      record {
        extends = λ s x l h. span_from s x (spans_member prime long rows n s x prime_pos l h);
        transitive =
            λ s t h y l a.
            span_from s y (spans_through prime long rows n s n t (rows y) prime_pos (λ x q r. span_gives s x (h x q r)) (span_gives t y a));
        exchange =
            λ s x y lx ly out a.
            span_from (with s y) x
            (spans_exchange prime long rows n s x y well.is_prime well.prime_small lx ly
            (λ b. both_ways (span file n prime long at s y) out (span_from s y b)) (span_gives (with s x) y a));
      }

  -- the rule is a matroid
  pub rule_matroid : Matroid n (allows file n prime long at)
  unfolding allows
  rule_matroid = closure_matroid n (span file n prime long at) span_closure

  -- multiples that add up to a row, and multiples that bring it to zero
  pub sum_spans :
      (s : Set) (x : ℕ) (c : ℕ → ℕ) →
      ((j : ℕ) → j < long → weight n (λ i. c i * number file long at i j) s % prime ≡ number file long at x j % prime) →
      Spans prime long (number file long at) n s (number file long at x)
  sum_spans s x c h =
      let rows = number file long at in
      spans_same prime long rows n s (rows x) (λ j. weight n (λ i. c i * rows i j) s)
      (λ j k. is_same prime (rows x j) (weight n (λ i. c i * rows i j) s) (sym (h j k)))
      (spans_mix prime long rows n s n c s (λ i q r. spans_member prime long rows n s i prime_pos q r))

  pub spans_total :
      (s : Set) (x : ℕ) → Spans prime long (number file long at) n s (number file long at x) →
      (c : ℕ → ℕ) × ((j : ℕ) → j < long → weight n (λ i. c i * number file long at i j) s % prime ≡ number file long at x j % prime)
  spans_total s x a = (λ i. (prime - 1) * a.multiple i, each)
    where
      rows : ℕ → ℕ → ℕ
      rows = number file long at

      d : ℕ → ℕ
      d = a.multiple

      less : (p a b : ℕ) → 0 < p → (p - 1) * b + (a + b) ≡ a + p * b
      less zero a b pos = absurd (omega arith)
      less (suc q) a b pos =
          let e : suc q - 1 ≡ q = omega arith in rw e (omega arith)

      each : (j : ℕ) → j < long → weight n (λ i. (prime - 1) * d i * rows i j) s % prime ≡ rows x j % prime
      each j k =
          let w = weight n (λ i. d i * rows i j) s in
          let e : weight n (λ i. (prime - 1) * d i * rows i j) s ≡ weight n (λ i. (prime - 1) * (d i * rows i j)) s =
          weight_equal n (λ i. (prime - 1) * d i * rows i j) (λ i. (prime - 1) * (d i * rows i j)) s (λ i q r. omega arith) in
          let f : weight n (λ i. (prime - 1) * (d i * rows i j)) s ≡ (prime - 1) * w = weight_times n (prime - 1) (λ i. d i * rows i j) s in
          let g : Same prime ((prime - 1) * w + (rows x j + w)) ((prime - 1) * w) = same_null prime ((prime - 1) * w) (rows x j + w) (a.none j k) in
          let h : Same prime (rows x j + prime * w) (rows x j) = same_null prime (rows x j) (prime * w) (null_p prime w) in
          ap (λ v. v % prime) (e ∙ f) ∙ sym (same_is prime ((prime - 1) * w + (rows x j + w)) ((prime - 1) * w) g)
          ∙ ap (λ v. v % prime) (less prime (rows x j) w prime_pos) ∙ same_is prime (rows x j + prime * w) (rows x j) h

  -- the natural reading passes the test
  pub natural_passes : (s : Set) → Allowed file n prime long at s → allows file n prime long at s ≡ true
  unfolding allows
  natural_passes s h =
      free_all n (span file n prime long at) s
      (λ x l i.
      ⊎_elim (λ y. let t = spans_total (without s x) x (span_gives (without s x) x y) in absurd (h x l i t.0 t.1)) (λ y. y)
      (cases_Bool (span file n prime long at (without s x) x)))

  -- and what passes the test has it
  pub passes_natural : (s : Set) → allows file n prime long at s ≡ true → Allowed file n prime long at s
  unfolding allows
  passes_natural s h x l i c t =
      both_ways (span file n prime long at (without s x) x) (free_each n (span file n prime long at) s h x l i)
      (span_from (without s x) x (sum_spans (without s x) x c t))

-- the two theorems in the specification's words
pub rows_matroid : RowsMatroid
rows_matroid file n prime long at well = rule_matroid file n prime long at well

-- and the test is the natural reading
pub natural : RowsNatural
natural file n prime long at well s = (natural_passes file n prime long at well s, passes_natural file n prime long at well s)
