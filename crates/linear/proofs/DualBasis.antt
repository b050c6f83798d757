-- Dual bases: what they show of the set, how they answer, how they grow.
use Rattle.std.proofs.Common.{◌≡◌, ℕ, ◌+◌, ◌-◌, ◌*◌, ◌%◌, ◌<◌, true, sym, ◌∙◌, mod-eq_of_lt, arith}
use Rattle.sets.specs.Matroid.{Set, weight, without}
use Rattle.linear.specs.Kept.{dot, Dual, rest}
use Rattle.linear.proofs.Modulo.{Same, Null, same_refl, same_sym, same_sum, same_multiple, same_from, same_trans, is_same, same_cancel, null_multiple, null_same, null_cancel, null_lack, null_is, rest_null, one_not_null}
use Rattle.linear.proofs.Sums.{weight_same, weight_null, weight_at, dot_null, dot_mix}
use Rattle.linear.proofs.Span.{Spans, null_equal}

-- a factor that is 1 modulo p
pub same_one : (p c d : ℕ) → Same p d 1 → Same p (c * d) c
same_one p c d h = same_trans p (c * d) (c * 1) c (same_multiple p c d 1 h) (same_from p (c * 1) c (omega arith))

-- a functional that is 0 at the rows of a set is 0 at what they span
pub killed :
    (p l : ℕ) (rows : ℕ → ℕ → ℕ) (m : ℕ) (s : Set) (f t : ℕ → ℕ) →
    ((i : ℕ) → i < m → s i ≡ true → Null p (dot l f (rows i))) → Spans p l rows m s t → Null p (dot l f t)
killed p l rows m s f t h a =
    let c = a.multiple in
    let w = weight m (λ i. c i * dot l f (rows i)) s in
    let e = dot_null p l f (λ j. t j + weight m (λ i. c i * rows i j) s) a.none in
    let g : Null p (dot l f t + w) =
    null_equal p (dot l f t + w) (dot l f (λ j. t j + weight m (λ i. c i * rows i j) s)) (sym (dot_mix l m f t c rows s)) e in
    null_cancel p (dot l f t) w g (weight_null p m (λ i. c i * dot l f (rows i)) s (λ i q r. null_multiple p (c i) (dot l f (rows i)) (h i q r)))

module _ (p l : ℕ) (rows fs : ℕ → ℕ → ℕ) (m : ℕ) (s : Set) (big : 1 < p) (dual : Dual p l rows fs m s) where
  pub positive : 0 < p
  positive = omega arith

  -- the functional of y at row y
  pub own_one : (y : ℕ) → y < m → s y ≡ true → Same p (dot l (fs y) (rows y)) 1
  own_one y k h = is_same p (dot l (fs y) (rows y)) 1 (dual.own y k h ∙ sym (mod-eq_of_lt big))

  -- and at the others
  pub other_null : (y i : ℕ) → y < m → s y ≡ true → i < m → without s y i ≡ true → Null p (dot l (fs y) (rows i))
  other_null y i k h q r =
      let e : s i ≡ true = grind arith in
      rest_null p (dot l (fs y) (rows i)) (dual.other y i k q h e (λ f. differ i f r))
    where
      differ : (i : ℕ) → y ≡ i → without s y i ≡ true → ⊥
      differ i f r = grind arith

  -- the multiple of row y in a sum is told by the functional of y
  pub told : (t : ℕ → ℕ) (a : Spans p l rows m s t) (y : ℕ) → y < m → s y ≡ true → Null p (dot l (fs y) t + a.multiple y)
  told t a y k h =
      let c = a.multiple in
      let f = fs y in
      let w : ℕ → ℕ = λ i. c i * dot l f (rows i) in
      let e = dot_null p l f (λ j. t j + weight m (λ i. c i * rows i j) s) a.none in
      let g = dot_mix l m f t c rows s in
      let r = weight_at m y w s k h in
      let o = weight m w (without s y) in
      let z : Null p o = weight_null p m w (without s y) (λ i q i_in. null_multiple p (c i) (dot l f (rows i)) (other_null y i k h q i_in)) in
      let x : Null p (dot l f t + w y) =
      null_cancel p (dot l f t + w y) o (null_equal p (dot l f t + w y + o) (dot l f (λ j. t j + weight m (λ i. c i * rows i j) s)) (omega arith) e) z in
      null_same p (dot l f t + c y) (dot l f t + w y)
      (same_sum p (dot l f t) (dot l f t) (c y) (w y) (same_refl p (dot l f t)) (same_sym p (w y) (c y) (same_one p (c y) (dot l f (rows y)) (own_one y k h))))
      x

  -- no row of the set is spanned by the others
  pub dual_free : (x : ℕ) → x < m → s x ≡ true → Spans p l rows m (without s x) (rows x) → ⊥
  dual_free x k h a =
      one_not_null p (dot l (fs x) (rows x)) big (own_one x k h)
      (killed p l rows m (without s x) (fs x) (rows x) (λ i q r. other_null x i k h q r) a)

  -- without y a set spans t only if it does so with y, and the functional of y is 0 at t
  pub without_gives : (y : ℕ) (t : ℕ → ℕ) → y < m → s y ≡ true → Spans p l rows m (without s y) t → Null p (dot l (fs y) t)
  without_gives y t k h a = killed p l rows m (without s y) (fs y) t (λ i q r. other_null y i k h q r) a

  -- and then it does
  pub without_spans : (y : ℕ) (t : ℕ → ℕ) → y < m → s y ≡ true → Spans p l rows m s t → Null p (dot l (fs y) t) → Spans p l rows m (without s y) t
  without_spans y t k h a z =
      let c = a.multiple in
      let e : Null p (c y) =
      null_cancel p (c y) (dot l (fs y) t) (null_equal p (c y + dot l (fs y) t) (dot l (fs y) t + c y) (omega arith) (told t a y k h)) z in
      record {
        multiple = c;
        none =
            λ j q.
            let w : ℕ → ℕ = λ i. c i * rows i j in
            let r = weight_at m y w s k h in
            null_cancel p (t j + weight m w (without s y)) (rows y j * c y)
            (null_equal p (t j + weight m w (without s y) + rows y j * c y) (t j + weight m w s) (omega arith) (a.none j q))
            (null_multiple p (rows y j) (c y) e);
      }

  -- a row whose rest is zero is spanned
  pub rest_spans : (t : ℕ → ℕ) → ((j : ℕ) → j < l → Null p (rest p l rows fs m s t j)) → Spans p l rows m s t
  rest_spans t h = record { multiple = λ y. p - dot l (fs y) t % p; none = h }

  -- the rest of a spanned row is zero
  pub spans_rest : (t : ℕ → ℕ) → Spans p l rows m s t → (j : ℕ) → j < l → Null p (rest p l rows fs m s t j)
  spans_rest t a j q =
      let c = a.multiple in
      let w = weight m (λ i. c i * rows i j) s in
      let v = weight m (λ y. (p - dot l (fs y) t % p) * rows y j) s in
      let e : Same p v w = weight_same p m (λ y. (p - dot l (fs y) t % p) * rows y j) (λ i. c i * rows i j) s (λ y k h. alike y k h) in
      null_same p (t j + v) (t j + w) (same_sum p (t j) (t j) v w (same_refl p (t j)) e) (a.none j q)
    where
      alike : (y : ℕ) → y < m → s y ≡ true → Same p ((p - dot l (fs y) t % p) * rows y j) (a.multiple y * rows y j)
      alike y k h =
          let d = dot l (fs y) t in
          let b = p - d % p in
          let c = a.multiple y in
          let e : Same p b c =
          same_cancel p b c d d positive
          (same_trans p (b + d) 0 (c + d) (null_is p (b + d) (null_lack p d positive))
          (same_sym p (c + d) 0 (null_is p (c + d) (null_equal p (c + d) (d + c) (omega arith) (told t a y k h)))))
          (same_refl p d) in
          same_trans p (b * rows y j) (rows y j * b) (c * rows y j) (same_from p (b * rows y j) (rows y j * b) (omega arith))
          (same_trans p (rows y j * b) (rows y j * c) (c * rows y j) (same_multiple p (rows y j) b c e) (same_from p (rows y j * c) (c * rows y j) (omega arith)))
