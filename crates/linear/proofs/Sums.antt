-- Sums over the elements of a set, and the value of a functional at a row.
use Rattle.std.proofs.Common.{◌≡◌, ℕ, zero, suc, ◌+◌, ◌*◌, ◌<◌, ◌≤◌, Bool, true, false, eqb, sym, refl, ap, ◌∙◌, ⊎_elim, arith}
use Rattle.std.proofs.lemmas.Bool.{cases_Bool, cases_eq, eq-eqb, ne_eqb}
use Rattle.sets.specs.Matroid.{Set, pick, weight, without}
use Rattle.linear.specs.Kept.{dot}
use Rattle.linear.proofs.Modulo.{Same, Null, same_refl, same_sum, same_multiple, same_from, same_trans, null_zero, null_sum, null_multiple}

-- one step of a sum over a set, by whether the element is in it
step_in : (m : ℕ) (w : ℕ → ℕ) (s : Set) → s m ≡ true → weight (suc m) w s ≡ w m + weight m w s
step_in m w s h = rw h

-- an element outside adds nothing
step_out : (m : ℕ) (w : ℕ → ℕ) (s : Set) → s m ≡ false → weight (suc m) w s ≡ weight m w s
step_out m w s h = rw h (omega arith)

-- sums of equal numbers are equal
pub weight_equal : (m : ℕ) (w v : ℕ → ℕ) (s : Set) → ((i : ℕ) → i < m → s i ≡ true → w i ≡ v i) → weight m w s ≡ weight m v s
weight_equal zero w v s h = refl
weight_equal (suc m) w v s h =
    let e : weight m w s ≡ weight m v s = weight_equal m w v s (λ i l. h i (omega arith)) in
    let f = h m (omega arith) in
    ⊎_elim (λ y. step_in m w s y ∙ (let g = f y in omega arith) ∙ sym (step_in m v s y))
    (λ y. step_out m w s y ∙ e ∙ sym (step_out m v s y)) (cases_Bool (s m))

-- the same modulo p
pub weight_same : (p m : ℕ) (w v : ℕ → ℕ) (s : Set) → ((i : ℕ) → i < m → s i ≡ true → Same p (w i) (v i)) → Same p (weight m w s) (weight m v s)
weight_same p zero w v s h = same_refl p 0
weight_same p (suc m) w v s h =
    let e : Same p (weight m w s) (weight m v s) = weight_same p m w v s (λ i l. h i (omega arith)) in
    let f = h m (omega arith) in
    same_sum p (pick (s m) (w m) 0) (pick (s m) (v m) 0) (weight m w s) (weight m v s) (go (s m) f) e
  where
    go : (b : Bool) → (b ≡ true → Same p (w m) (v m)) → Same p (pick b (w m) 0) (pick b (v m) 0)
    go true f = f refl
    go false f = same_refl p 0

-- a sum of zeros modulo p
pub weight_null : (p m : ℕ) (w : ℕ → ℕ) (s : Set) → ((i : ℕ) → i < m → s i ≡ true → Null p (w i)) → Null p (weight m w s)
weight_null p zero w s h = null_zero p
weight_null p (suc m) w s h =
    null_sum p (pick (s m) (w m) 0) (weight m w s) (go (s m) (h m (omega arith))) (weight_null p m w s (λ i l. h i (omega arith)))
  where
    go : (b : Bool) → (b ≡ true → Null p (w m)) → Null p (pick b (w m) 0)
    go true f = f refl
    go false f = null_zero p

-- a sum of sums
pub weight_sum : (m : ℕ) (w v : ℕ → ℕ) (s : Set) → weight m (λ i. w i + v i) s ≡ weight m w s + weight m v s
weight_sum zero w v s = refl
weight_sum (suc m) w v s =
    let e : weight m (λ i. w i + v i) s ≡ weight m w s + weight m v s = weight_sum m w v s in
    let f : pick (s m) (w m + v m) 0 ≡ pick (s m) (w m) 0 + pick (s m) (v m) 0 = go (s m) in omega arith
  where
    go : (b : Bool) → pick b (w m + v m) 0 ≡ pick b (w m) 0 + pick b (v m) 0
    go true = refl
    go false = refl

-- a sum of multiples
pub weight_times : (m k : ℕ) (w : ℕ → ℕ) (s : Set) → weight m (λ i. k * w i) s ≡ k * weight m w s
weight_times zero k w s = omega arith
weight_times (suc m) k w s =
    let e : weight m (λ i. k * w i) s ≡ k * weight m w s = weight_times m k w s in
    let f : pick (s m) (k * w m) 0 ≡ k * pick (s m) (w m) 0 = go (s m) in omega arith
  where
    go : (b : Bool) → pick b (k * w m) 0 ≡ k * pick b (w m) 0
    go true = refl
    go false = omega arith

-- a sum over a set that is the same below m
pub weight_set : (m : ℕ) (w : ℕ → ℕ) (s t : Set) → ((i : ℕ) → i < m → s i ≡ t i) → weight m w s ≡ weight m w t
weight_set zero w s t h = refl
weight_set (suc m) w s t h =
    let e : weight m w s ≡ weight m w t = weight_set m w s t (λ i l. h i (omega arith)) in
    let f = h m (omega arith) in cc

-- one element's part of a sum
pub weight_at : (m x : ℕ) (w : ℕ → ℕ) (s : Set) → x < m → s x ≡ true → weight m w s ≡ w x + weight m w (without s x)
weight_at zero x w s l h = absurd (omega arith)
weight_at (suc m) x w s l h = ⊎_elim here (λ ne. there ne (weight_at m x w s (omega arith) h)) (cases_eq m x)
  where
    past : (k : ℕ) → k ≤ x → weight k w s ≡ weight k w (without s x)
    past k le =
        weight_set k w s (without s x) (λ i l. let e : eqb i x ≡ false = ne_eqb i x (λ q. omega arith) in grind arith)

    here : m ≡ x → weight (suc m) w s ≡ w x + weight (suc m) w (without s x)
    here e =
        let f : weight m w s ≡ weight m w (without s x) = past m (omega arith) in
        let g : eqb m x ≡ true = eq-eqb m x e in
        let a : s m ≡ true = rw e h in
        let b : without s x m ≡ false = grind arith in
        let c : w m ≡ w x = ap w e in
        let d = step_in m w s a in
        let k = step_out m w (without s x) b in omega arith

    there : (m ≡ x → ⊥) → weight m w s ≡ w x + weight m w (without s x) → weight (suc m) w s ≡ w x + weight (suc m) w (without s x)
    there ne e =
        let g : eqb m x ≡ false = ne_eqb m x ne in
        let b : without s x m ≡ s m = grind arith in
        let f : pick (without s x m) (w m) 0 ≡ pick (s m) (w m) 0 = ap (λ y. pick y (w m) 0) b in omega arith

-- a functional at rows that are equal
pub dot_equal : (l : ℕ) (f t u : ℕ → ℕ) → ((j : ℕ) → j < l → t j ≡ u j) → dot l f t ≡ dot l f u
dot_equal zero f t u h = refl
dot_equal (suc l) f t u h =
    let e : dot l f t ≡ dot l f u = dot_equal l f t u (λ j k. h j (omega arith)) in
    let g = h l (omega arith) in cc

-- a functional at rows that are equal modulo p
pub dot_same : (p l : ℕ) (f t u : ℕ → ℕ) → ((j : ℕ) → j < l → Same p (t j) (u j)) → Same p (dot l f t) (dot l f u)
dot_same p zero f t u h = same_refl p 0
dot_same p (suc l) f t u h =
    same_sum p (f l * t l) (f l * u l) (dot l f t) (dot l f u) (same_multiple p (f l) (t l) (u l) (h l (omega arith)))
    (dot_same p l f t u (λ j k. h j (omega arith)))

-- a functional at a row of zeros
pub dot_null : (p l : ℕ) (f t : ℕ → ℕ) → ((j : ℕ) → j < l → Null p (t j)) → Null p (dot l f t)
dot_null p zero f t h = null_zero p
dot_null p (suc l) f t h =
    null_sum p (f l * t l) (dot l f t) (null_multiple p (f l) (t l) (h l (omega arith))) (dot_null p l f t (λ j k. h j (omega arith)))

-- the two may change places
pub dot_turned : (l : ℕ) (f t : ℕ → ℕ) → dot l f t ≡ dot l t f
dot_turned zero f t = refl
dot_turned (suc l) f t =
    let e : dot l f t ≡ dot l t f = dot_turned l f t in omega arith

-- a functional at a row plus a sum of multiples of rows
pub dot_mix :
    (l m : ℕ) (f t c : ℕ → ℕ) (rows : ℕ → ℕ → ℕ) (s : Set) →
    dot l f (λ j. t j + weight m (λ i. c i * rows i j) s) ≡ dot l f t + weight m (λ i. c i * dot l f (rows i)) s
dot_mix zero m f t c rows s =
    let e = weight_times m 0 c s in
    let g = weight_equal m (λ i. c i * 0) (λ i. 0 * c i) s (λ i l h. omega arith) in omega arith
dot_mix (suc l) m f t c rows s =
    let e = dot_mix l m f t c rows s in
    let a : weight m (λ i. c i * (f l * rows i l + dot l f (rows i))) s ≡ weight m (λ i. f l * (c i * rows i l) + c i * dot l f (rows i)) s =
    weight_equal m (λ i. c i * (f l * rows i l + dot l f (rows i))) (λ i. f l * (c i * rows i l) + c i * dot l f (rows i)) s (λ i q h. omega arith) in
    let b = weight_sum m (λ i. f l * (c i * rows i l)) (λ i. c i * dot l f (rows i)) s in
    let d = weight_times m (f l) (λ i. c i * rows i l) s in omega arith

-- the same on the side of the functional
pub dot_mixed :
    (l m : ℕ) (g t c : ℕ → ℕ) (fs : ℕ → ℕ → ℕ) (s : Set) →
    dot l (λ j. g j + weight m (λ i. c i * fs i j) s) t ≡ dot l g t + weight m (λ i. c i * dot l (fs i) t) s
dot_mixed l m g t c fs s =
    let a = dot_turned l (λ j. g j + weight m (λ i. c i * fs i j) s) t in
    let b = dot_mix l m t g c fs s in
    let d = dot_turned l t g in
    let e = weight_equal m (λ i. c i * dot l t (fs i)) (λ i. c i * dot l (fs i) t) s (λ i q h. ap (λ x. c i * x) (dot_turned l t (fs i))) in
    a ∙ b ∙ omega arith

-- the functional that takes k times number q of a row
pub dot_single : (l q k : ℕ) (t : ℕ → ℕ) → q < l → dot l (λ j. pick (eqb j q) k 0) t ≡ k * t q
dot_single zero q k t h = absurd (omega arith)
dot_single (suc l) q k t h = ⊎_elim here (λ ne. there ne (dot_single l q k t (omega arith))) (cases_eq l q)
  where
    none : (m : ℕ) → m ≤ q → dot m (λ j. pick (eqb j q) k 0) t ≡ 0
    none zero le = refl
    none (suc m) le =
        let e : eqb m q ≡ false = ne_eqb m q (λ y. omega arith) in
        let f : dot m (λ j. pick (eqb j q) k 0) t ≡ 0 = none m (omega arith) in
        rw e (omega arith)

    here : l ≡ q → dot (suc l) (λ j. pick (eqb j q) k 0) t ≡ k * t q
    here y =
        let e : eqb l q ≡ true = eq-eqb l q y in
        let f : dot l (λ j. pick (eqb j q) k 0) t ≡ 0 = none l (omega arith) in
        let g : k * t l ≡ k * t q = ap (λ x. k * t x) y in
        rw e (omega arith)

    there : (l ≡ q → ⊥) → dot l (λ j. pick (eqb j q) k 0) t ≡ k * t q → dot (suc l) (λ j. pick (eqb j q) k 0) t ≡ k * t q
    there y f =
        let e : eqb l q ≡ false = ne_eqb l q y in
        rw e (omega arith)

-- a functional plus a multiple of another
pub dot_plus : (l k : ℕ) (f g t : ℕ → ℕ) → dot l (λ j. f j + k * g j) t ≡ dot l f t + k * dot l g t
dot_plus zero k f g t = omega arith
dot_plus (suc l) k f g t =
    let e : dot l (λ j. f j + k * g j) t ≡ dot l f t + k * dot l g t = dot_plus l k f g t in omega arith

-- functionals that are equal modulo p
pub dot_alike : (p l : ℕ) (f g t : ℕ → ℕ) → ((j : ℕ) → j < l → Same p (f j) (g j)) → Same p (dot l f t) (dot l g t)
dot_alike p l f g t h =
    same_trans p (dot l f t) (dot l t f) (dot l g t) (same_from p (dot l f t) (dot l t f) (dot_turned l f t))
    (same_trans p (dot l t f) (dot l t g) (dot l g t) (dot_same p l t f g h) (same_from p (dot l t g) (dot l g t) (dot_turned l t g)))
