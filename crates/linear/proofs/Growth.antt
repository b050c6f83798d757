-- A dual basis with one row more.
use Rattle.std.proofs.Common.{◌≡◌, ℕ, suc, ◌+◌, ◌-◌, ◌*◌, ◌%◌, ◌<◌, true, eqb, ap, ◌∙◌, ⊎_elim, mod-eq_of_lt, arith}
use Rattle.std.proofs.lemmas.Bool.{cases_eq}
use Rattle.sets.specs.Matroid.{Set, pick, weight, without}
use Rattle.linear.specs.Kept.{dot, Dual, rest, fresh}
use Rattle.linear.proofs.Modulo.{Same, Null, same_refl, same_sym, same_sum, same_from, same_trans, same_is, same_cancel, same_null, null_multiple, null_same, null_lack, null_is, rest_null, null_rest}
use Rattle.linear.proofs.Sums.{weight_same, weight_null, weight_times, weight_at, dot_mixed, dot_single, dot_plus, dot_alike}
use Rattle.linear.proofs.Span.{null_equal}
use Rattle.linear.proofs.DualBasis.{same_one, own_one}

-- g is the new functional, found at column q of the rest of row r; the functionals of s below r are corrected by it
module _
    (p l : ℕ) (rows fs : ℕ → ℕ → ℕ) (r : ℕ) (s : Set) (big : 1 < p) (dual : Dual p l rows fs r s) (q scale : ℕ) (g : ℕ → ℕ) (low : q < l)
    (unit : Same p (scale * rest p l rows fs r s (rows r) q) 1) (made : (j : ℕ) → j < l → Same p (g j) (fresh p rows fs r s q scale j))
  where
    pos : 0 < p
    pos = omega arith

    -- the value of the new functional
    value : (t : ℕ → ℕ) → Same p (dot l g t) (scale * t q + weight r (λ z. (p - scale * rows z q % p) * dot l (fs z) t) s)
    value t =
        same_trans p (dot l g t) (dot l (fresh p rows fs r s q scale) t) (scale * t q + weight r (λ z. (p - scale * rows z q % p) * dot l (fs z) t) s)
        (dot_alike p l g (fresh p rows fs r s q scale) t made)
        (same_from p (dot l (fresh p rows fs r s q scale) t) (scale * t q + weight r (λ z. (p - scale * rows z q % p) * dot l (fs z) t) s)
        (dot_mixed l r (λ j. pick (eqb j q) scale 0) t (λ z. p - scale * rows z q % p) fs s
        ∙ ap (λ v. v + weight r (λ z. (p - scale * rows z q % p) * dot l (fs z) t) s) (dot_single l q scale t low)))

    -- it is 0 at the old rows
    at_old : (w : ℕ) → w < r → s w ≡ true → Null p (dot l g (rows w))
    at_old w k h =
        let c : ℕ → ℕ = λ z. p - scale * rows z q % p in
        let v : ℕ → ℕ = λ z. c z * dot l (fs z) (rows w) in
        let e = weight_at r w v s k h in
        let o = weight r v (without s w) in
        let z : Null p o = weight_null p r v (without s w) (λ i a b. null_multiple p (c i) (dot l (fs i) (rows w)) (across i a b)) in
        let u : Same p (v w) (c w) = same_one p (c w) (dot l (fs w) (rows w)) (own_one p l rows fs r s big dual w k h) in
        let n : Null p (c w + scale * rows w q) = null_lack p (scale * rows w q) pos in
        let a : Same p (scale * rows w q + (v w + o)) (scale * rows w q + c w) =
        same_sum p (scale * rows w q) (scale * rows w q) (v w + o) (c w) (same_refl p (scale * rows w q))
        (same_trans p (v w + o) (v w) (c w) (same_null p (v w) o z) u) in
        null_same p (dot l g (rows w)) (scale * rows w q + weight r v s) (value (rows w))
        (null_equal p (scale * rows w q + weight r v s) (scale * rows w q + (v w + o)) (ap (λ x. scale * rows w q + x) e)
        (null_same p (scale * rows w q + (v w + o)) (scale * rows w q + c w) a
        (null_equal p (scale * rows w q + c w) (c w + scale * rows w q) (omega arith) n)))
      where
        across : (i : ℕ) → i < r → without s w i ≡ true → Null p (dot l (fs i) (rows w))
        across i a b =
            let e : s i ≡ true = grind arith in
            rest_null p (dot l (fs i) (rows w)) (dual.other i w a k e h (λ f. differ i f b))
          where
            differ : (i : ℕ) → i ≡ w → without s w i ≡ true → ⊥
            differ i f b = grind arith

    -- and 1 at the new row
    at_new : Same p (dot l g (rows r)) 1
    at_new =
        same_trans p (dot l g (rows r)) (scale * rows r q + one) 1 (value (rows r))
        (same_trans p (scale * rows r q + one) (scale * rows r q + scale * two) 1
        (same_sum p (scale * rows r q) (scale * rows r q) one (scale * two) (same_refl p (scale * rows r q))
        (same_trans p one (weight r (λ z. scale * (lack z * rows z q)) s) (scale * two)
        (weight_same p r (λ z. (p - scale * rows z q % p) * d z) (λ z. scale * (lack z * rows z q)) s (λ z a b. term (scale * rows z q) (d z) (scale * (lack z * rows z q)) (crossed scale (rows z q) (d z))))
        (same_from p (weight r (λ z. scale * (lack z * rows z q)) s) (scale * two) (weight_times r scale (λ z. lack z * rows z q) s))))
        (same_trans p (scale * rows r q + scale * two) (scale * (rows r q + two)) 1 (same_from p (scale * rows r q + scale * two) (scale * (rows r q + two)) (omega arith)) unit))
      where
        d : ℕ → ℕ
        d z = dot l (fs z) (rows r)

        lack : ℕ → ℕ
        lack z = p - d z % p

        one : ℕ
        one = weight r (λ z. (p - scale * rows z q % p) * d z) s

        two : ℕ
        two = weight r (λ z. lack z * rows z q) s

        crossed : (k b e : ℕ) → Null p (k * ((p - e % p) * b) + k * b * e)
        crossed k b e =
            null_equal p (k * ((p - e % p) * b) + k * b * e) (k * b * (p - e % p + e)) (omega arith) (null_multiple p (k * b) (p - e % p + e) (null_lack p e pos))

        term : (a e x : ℕ) → Null p (x + a * e) → Same p ((p - a % p) * e) x
        term a e x h =
            let n : Null p ((p - a % p) * e + a * e) =
            null_equal p ((p - a % p) * e + a * e) (e * (p - a % p + a)) (omega arith) (null_multiple p e (p - a % p + a) (null_lack p a pos)) in
            same_cancel p ((p - a % p) * e) x (a * e) (a * e) pos
            (same_trans p ((p - a % p) * e + a * e) 0 (x + a * e) (null_is p ((p - a % p) * e + a * e) n) (same_sym p (x + a * e) 0 (null_is p (x + a * e) h)))
            (same_refl p (a * e))

    -- the corrected functionals and the new one are a dual basis
    pub dual_more :
        (hs : ℕ → ℕ → ℕ) →
        ((z j : ℕ) → z < r → s z ≡ true → j < l → Same p (hs z j) (fs z j + (p - dot l (fs z) (rows r) % p) * g j)) →
        ((j : ℕ) → j < l → Same p (hs r j) (g j)) → Dual p l rows hs (suc r) s
    dual_more hs old new = record { own = own_more; other = other_more }
      where
        lack : ℕ → ℕ
        lack z = p - dot l (fs z) (rows r) % p

        corrected : (z : ℕ) → z < r → s z ≡ true → (t : ℕ → ℕ) → Same p (dot l (hs z) t) (dot l (fs z) t + lack z * dot l g t)
        corrected z k h t =
            same_trans p (dot l (hs z) t) (dot l (λ j. fs z j + lack z * g j) t) (dot l (fs z) t + lack z * dot l g t)
            (dot_alike p l (hs z) (λ j. fs z j + lack z * g j) t (λ j a. old z j k h a))
            (same_from p (dot l (λ j. fs z j + lack z * g j) t) (dot l (fs z) t + lack z * dot l g t) (dot_plus l (lack z) (fs z) g t))

        older : (z w : ℕ) → z < r → s z ≡ true → w < r → s w ≡ true → Same p (dot l (hs z) (rows w)) (dot l (fs z) (rows w))
        older z w a b c d =
            same_trans p (dot l (hs z) (rows w)) (dot l (fs z) (rows w) + lack z * dot l g (rows w)) (dot l (fs z) (rows w)) (corrected z a b (rows w))
            (same_null p (dot l (fs z) (rows w)) (lack z * dot l g (rows w)) (null_multiple p (lack z) (dot l g (rows w)) (at_old w c d)))

        newer : (z : ℕ) → z < r → s z ≡ true → Null p (dot l (hs z) (rows r))
        newer z a b =
            let d = dot l (fs z) (rows r) in
            null_same p (dot l (hs z) (rows r)) (d + lack z * dot l g (rows r)) (corrected z a b (rows r))
            (null_same p (d + lack z * dot l g (rows r)) (d + lack z)
            (same_sum p d d (lack z * dot l g (rows r)) (lack z) (same_refl p d) (same_one p (lack z) (dot l g (rows r)) at_new))
            (null_equal p (d + lack z) (lack z + d) (omega arith) (null_lack p d pos)))

        own_more : (y : ℕ) → y < suc r → s y ≡ true → dot l (hs y) (rows y) % p ≡ 1
        own_more y a b =
            ⊎_elim
            (λ e.
            let f : Same p (dot l (hs r) (rows r)) 1 =
            same_trans p (dot l (hs r) (rows r)) (dot l g (rows r)) 1 (dot_alike p l (hs r) g (rows r) new) at_new in
            rw e (same_is p (dot l (hs r) (rows r)) 1 f ∙ mod-eq_of_lt big))
            (λ ne.
            let k : y < r = omega arith in
            same_is p (dot l (hs y) (rows y)) (dot l (fs y) (rows y)) (older y y k b k b) ∙ dual.own y k b)
            (cases_eq y r)

        other_more : (y z : ℕ) → y < suc r → z < suc r → s y ≡ true → s z ≡ true → (y ≡ z → ⊥) → dot l (hs y) (rows z) % p ≡ 0
        other_more y z a b c d ne =
            ⊎_elim
            (λ e.
            let k : z < r = omega (arith, ne) in
            rw e (null_rest p (dot l (hs r) (rows z)) pos
            (null_same p (dot l (hs r) (rows z)) (dot l g (rows z)) (dot_alike p l (hs r) g (rows z) new) (at_old z k d))))
            (λ ny.
            let k : y < r = omega arith in
            ⊎_elim (λ e. rw e (null_rest p (dot l (hs y) (rows r)) pos (newer y k c)))
            (λ nz.
            let q : z < r = omega arith in
            same_is p (dot l (hs y) (rows z)) (dot l (fs y) (rows z)) (older y z k c q d) ∙ dual.other y z k q c d ne)
            (cases_eq z r))
            (cases_eq y r)
