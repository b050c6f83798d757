-- The weights gained from size to size never rise.
use Rattle.std.proofs.Common.{◌≡◌, ℕ, suc, ◌+◌, ◌-◌, ◌*◌, ◌<◌, ◌≤◌, ap, ⊎_elim, arith}
use borrow.Author.Differences.{up, down}
use Rattle.std.proofs.lemmas.Bool.{cases_lt}
use Rattle.sets.specs.Matroid.{size, weight}
use Rattle.sets.proofs.FiniteSets.{size_within}
use Rattle.sets.proofs.Weights.{above, layer_cake_two}
use Rattle.matroid.specs.Gains.{GainsByOne, GainsNeverRise, GainsNeverRiseSigned}
use Rattle.matroid.proofs.OneMatroid.{above_no_fewer}
use Rattle.matroid.proofs.Optimality.{split_sum, signed_is_split}

-- one matroid, layer by layer: where not all of s is above c, neither t nor r has more above c than s; else their sizes tell
pub gains_by_one : GainsByOne
gains_by_one n f a r s t m d e h best more less = layer_cake_two n a t s r s (λ c. ⊎_elim (some c) (all c) (cases_lt (size n (above a c s)) (size n s)))
  where
    some : (c : ℕ) → size n (above a c s) < size n s → size n (above a c t) + size n (above a c r) ≤ size n (above a c s) + size n (above a c s)
    some c k = omega (arith, above_no_fewer n f a s t m e h best c k, above_no_fewer n f a s r m e d best c k)

    all : (c : ℕ) → size n s ≤ size n (above a c s) → size n (above a c t) + size n (above a c r) ≤ size n (above a c s) + size n (above a c s)
    all c k =
        let i : size n (above a c t) ≤ size n t = size_within n (above a c t) t (λ v q j. grind arith) in
        let j : size n (above a c r) ≤ size n r = size_within n (above a c r) r (λ v q j. grind arith) in
        omega arith

-- two matroids: the sum over the two parts
pub gains_never_rise : GainsNeverRise
gains_never_rise n f g w a b r s t m k d fr gr ft gt more less =
    let p : weight n a t + weight n a r ≤ weight n a s + weight n a s = gains_by_one n f a r s t m fr d.first ft d.best_first more less in
    let q : weight n b t + weight n b r ≤ weight n b s + weight n b s = gains_by_one n g b r s t k gr d.second gt d.best_second more less in
    let i : d.lift * size n t ≡ d.lift * suc (size n s) = ap (λ c. d.lift * c) more in
    let j : d.lift * size n s ≡ d.lift * suc (size n r) = ap (λ c. d.lift * c) less in
    omega (arith, split_sum n w a b d.lift r d.parts, split_sum n w a b d.lift s d.parts, split_sum n w a b d.lift t d.parts)

-- numbers of either sign are a splitting over a lift
pub gains_never_rise_signed : GainsNeverRiseSigned
gains_never_rise_signed n f g w p q r s t m k d =
    let l = signed_is_split n f g w p q s d in
    gains_never_rise n f g w (λ x. up (p x) + (l.0 - down (p x))) (λ x. up (q x) + (l.0 - down (q x))) r s t m k l.1
