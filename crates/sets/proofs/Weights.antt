-- Lemmas on what finite sets weigh, and the layer cake: a weight is the sum over c of the number of elements above c.
use Rattle.std.proofs.Common.{◌≡◌, ℕ, zero, suc, ◌+◌, ◌*◌, ◌<◌, ◌≤◌, min, max, Bool, true, false, ◌&&◌, ltb, refl, ⊎_elim, arith}
use Rattle.std.proofs.lemmas.Bool.{cases_lt}
use Rattle.sets.specs.Matroid.{pick, Set, size, weight, both, outside, without, with, none}

-- sets that agree below n, under numbers that agree there, weigh the same
pub weight_same : (n : ℕ) (a b : ℕ → ℕ) (s t : Set) → ((x : ℕ) → x < n → a x ≡ b x) → ((x : ℕ) → x < n → s x ≡ t x) →
    weight n a s ≡ weight n b t
weight_same zero a b s t e h = refl
weight_same (suc n) a b s t e h =
    let r : weight n a s ≡ weight n b t = weight_same n a b s t (λ x p. e x (omega arith)) (λ x p. h x (omega arith)) in
    let c : a n ≡ b n = e n (omega arith) in
    let d : s n ≡ t n = h n (omega arith) in
    grind arith

-- greater numbers weigh no less
pub weight_mono : (n : ℕ) (a b : ℕ → ℕ) (s : Set) → ((x : ℕ) → x < n → s x ≡ true → a x ≤ b x) → weight n a s ≤ weight n b s
weight_mono zero a b s e = omega arith
weight_mono (suc n) a b s e =
    let r : weight n a s ≤ weight n b s = weight_mono n a b s (λ x p. e x (omega arith)) in
    let c : s n ≡ true → a n ≤ b n = e n (omega arith) in
    grind arith

-- the empty set weighs nothing
pub weight_none : (n : ℕ) (a : ℕ → ℕ) → weight n a none ≡ 0
weight_none zero a = refl
weight_none (suc n) a = let r : weight n a none ≡ 0 = weight_none n a in grind arith

-- an element from n on changes no weight below n
pub weight_with_beyond : (n : ℕ) (a : ℕ → ℕ) (s : Set) (x : ℕ) → n ≤ x → weight n a (with s x) ≡ weight n a s
weight_with_beyond n a s x h = weight_same n a a (with s x) s (λ v p. refl) (λ v p. grind arith)

pub weight_without_beyond : (n : ℕ) (a : ℕ → ℕ) (s : Set) (x : ℕ) → n ≤ x → weight n a (without s x) ≡ weight n a s
weight_without_beyond n a s x h = weight_same n a a (without s x) s (λ v p. refl) (λ v p. grind arith)

-- a new element adds its weight
pub weight_with : (n : ℕ) (a : ℕ → ℕ) (s : Set) (x : ℕ) → x < n → s x ≡ false → weight n a (with s x) ≡ weight n a s + a x
weight_with zero a s x h e = absurd (omega arith)
weight_with (suc n) a s x h e =
    ⊎_elim
    (λ p. let r : weight n a (with s x) ≡ weight n a s + a x = weight_with n a s x p e in grind arith)
    (λ p. let r : weight n a (with s x) ≡ weight n a s = weight_with_beyond n a s x p in
    let q : x ≡ n = omega arith in
    grind arith)
    (cases_lt x n)

-- an element that goes takes its weight along
pub weight_without : (n : ℕ) (a : ℕ → ℕ) (s : Set) (x : ℕ) → x < n → s x ≡ true → weight n a (without s x) + a x ≡ weight n a s
weight_without zero a s x h e = absurd (omega arith)
weight_without (suc n) a s x h e =
    ⊎_elim
    (λ p. let r : weight n a (without s x) + a x ≡ weight n a s = weight_without n a s x p e in grind arith)
    (λ p. let r : weight n a (without s x) ≡ weight n a s = weight_without_beyond n a s x p in
    let q : x ≡ n = omega arith in
    grind arith)
    (cases_lt x n)

-- one element for another
pub weight_exchange : (n : ℕ) (a : ℕ → ℕ) (s : Set) (y x : ℕ) → y < n → x < n → s y ≡ true → s x ≡ false →
    weight n a (with (without s y) x) + a y ≡ weight n a s + a x
weight_exchange n a s y x p q e d =
    let r : weight n a (without s y) + a y ≡ weight n a s = weight_without n a s y p e in
    let k : weight n a (with (without s y) x) ≡ weight n a (without s y) + a x = weight_with n a (without s y) x q (grind arith) in
    omega arith

-- a set weighs as much as its parts in and outside of another
pub weight_parts : (n : ℕ) (a : ℕ → ℕ) (s u : Set) → weight n a (both s u) + weight n a (outside s u) ≡ weight n a s
weight_parts zero a s u = refl
weight_parts (suc n) a s u =
    let r : weight n a (both s u) + weight n a (outside s u) ≡ weight n a s = weight_parts n a s u in grind arith

-- the weight by a sum of numbers is the sum of the weights
pub weight_sum : (n : ℕ) (a b : ℕ → ℕ) (s : Set) → weight n (λ x. a x + b x) s ≡ weight n a s + weight n b s
weight_sum zero a b s = refl
weight_sum (suc n) a b s =
    let r : weight n (λ x. a x + b x) s ≡ weight n a s + weight n b s = weight_sum n a b s in grind arith

-- where every element has the same number, the weight is that many times the size
pub weight_constant : (n : ℕ) (c : ℕ) (s : Set) → weight n (λ x. c) s ≡ c * size n s
weight_constant zero c s = omega arith
weight_constant (suc n) c s =
    let r : weight n (λ x. c) s ≡ c * size n s = weight_constant n c s in
    constant_step (s n) c (size n s) (weight n (λ x. c) s) r
  where
    constant_step : (b : Bool) (c k w : ℕ) → w ≡ c * k → pick b c 0 + w ≡ c * (pick b 1 0 + k)
    constant_step true c k w r = omega arith
    constant_step false c k w r = omega arith

-- the elements of a set with a number above c
abbrev pub above : (ℕ → ℕ) → ℕ → Set → Set
above a c s x = s x && ltb c (a x)

-- a number above all numbers of elements below n
pub highest : (n : ℕ) (a : ℕ → ℕ) → (m : ℕ) × ((x : ℕ) → x < n → a x ≤ m)
highest zero a = (0, λ x h. absurd (omega arith))
highest (suc n) a =
    let r = highest n a in
    (max (a n) r.0, λ x h. ⊎_elim (λ p. let k : a x ≤ r.0 = r.1 x p in omega arith) (λ p. let k : x ≡ n = omega arith in grind arith) (cases_lt x n))

-- one layer more
pub layer : (n : ℕ) (a : ℕ → ℕ) (c : ℕ) (s : Set) →
    weight n (λ x. min (a x) (suc c)) s ≡ weight n (λ x. min (a x) c) s + size n (above a c s)
layer zero a c s = refl
layer (suc n) a c s =
    let r : weight n (λ x. min (a x) (suc c)) s ≡ weight n (λ x. min (a x) c) s + size n (above a c s) = layer n a c s in
    grind arith

-- no layer at all
pub no_layer : (n : ℕ) (a : ℕ → ℕ) (s : Set) → weight n (λ x. min (a x) 0) s ≡ 0
no_layer zero a s = refl
no_layer (suc n) a s = let r : weight n (λ x. min (a x) 0) s ≡ 0 = no_layer n a s in grind arith

-- by layers: two sets that have together no more elements above any c than two others weigh together no more, up to m
layers : (n : ℕ) (a : ℕ → ℕ) (r s t u : Set) →
    ((c : ℕ) → size n (above a c r) + size n (above a c t) ≤ size n (above a c s) + size n (above a c u)) → (m : ℕ) →
    weight n (λ x. min (a x) m) r + weight n (λ x. min (a x) m) t ≤ weight n (λ x. min (a x) m) s + weight n (λ x. min (a x) m) u
layers n a r s t u h zero = omega (arith, no_layer n a r, no_layer n a s, no_layer n a t, no_layer n a u)
layers n a r s t u h (suc m) =
    omega (arith, layers n a r s t u h m, h m, layer n a m r, layer n a m s, layer n a m t, layer n a m u)

-- under a bound of all numbers the weight is by the numbers themselves
capped : (n : ℕ) (a : ℕ → ℕ) (m : ℕ) → ((x : ℕ) → x < n → a x ≤ m) → (s : Set) → weight n (λ x. min (a x) m) s ≡ weight n a s
capped n a m h s = weight_same n (λ x. min (a x) m) a s s (λ x p. let k : a x ≤ m = h x p in omega arith) (λ x p. refl)

-- the layer cake for two sets against two others
pub layer_cake_two : (n : ℕ) (a : ℕ → ℕ) (r s t u : Set) →
    ((c : ℕ) → size n (above a c r) + size n (above a c t) ≤ size n (above a c s) + size n (above a c u)) →
    weight n a r + weight n a t ≤ weight n a s + weight n a u
layer_cake_two n a r s t u h =
    let k = highest n a in
    let c = capped n a k.0 k.1 in
    omega (arith, layers n a r s t u h k.0, c r, c s, c t, c u)

-- the layer cake: a set that has no more elements above any c than another weighs no more
pub layer_cake : (n : ℕ) (a : ℕ → ℕ) (s t : Set) → ((c : ℕ) → size n (above a c t) ≤ size n (above a c s)) → weight n a t ≤ weight n a s
layer_cake n a s t h =
    let e : weight n a none ≡ 0 = weight_none n a in
    let d : weight n a t + weight n a none ≤ weight n a s + weight n a none =
    layer_cake_two n a t s none none (λ c. let k : size n (above a c t) ≤ size n (above a c s) = h c in omega arith) in
    omega arith
