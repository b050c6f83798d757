use Rattle.std.proofs.Common.{◌≡◌, ℕ, ◌<◌, Bool, true, false, ℤ, ◌<ℤ◌, get_or, length, Decides, MatchBool, sym, refl, subst, arith, rules, tests}
use Rattle.std.specs.List.{HoldsAt, AllWithin, range_with_len}
use Rattle.std.proofs.lemmas.Bool.{false≢true}
use Rattle.std.proofs.lemmas.Int.{ints, to_z-of_z}
use Rattle.std.proofs.lemmas.Iterator.{cases_from_any, YieldsList-from_range}
use Rattle.std.proofs.lemmas.List.FromFn.{get_or-range_with_len, length-range_with_len}
use Rattle.sets.specs.Bits.{marked}
use Rattle.sets.specs.Matroid.{Set, with, without}
use Rattle.matroid.specs.Rules.{allows}
use Rattle.certificate.specs.Layout.{part}
use Rattle.certificate.proofs.split.Numbers.outdoes.Goals as goal

-- the number at a place of 0..n
there : (n k : ℕ) → k < n → get_or (range_with_len 0 n) k 0 ≡ k
there n k l = omega (arith, get_or-range_with_len 0 n k 0 l)

-- what is found in 0..n
found : (n : ℕ) (P : ℕ → Type 0) (r : Bool) →
    MatchBool r ((k : ℕ) × (k < length (range_with_len 0 n)) × HoldsAt P (range_with_len 0 n) k)
    (AllWithin (λ y. P y → ⊥) (range_with_len 0 n) 0 (length (range_with_len 0 n))) → Decides r ((y : ℕ) × (y < n) × P y)
found n P true h =
    let l : h.0 < n = omega (arith, length-range_with_len 0 n) in
    (λ _. (h.0, l, subst P (there n h.0 l) (h.2 0)), λ _. refl)
found n P false h = (
  λ e. absurd (false≢true e),
  λ (y, l, o). absurd (h y 0 (omega arith) (omega (arith, length-range_with_len 0 n)) (subst P (sym (there n y l)) o)),
)

-- offer y is chosen and has a lesser number than x, which can come for it
abbrev Outdone : (Set → Bool) → (ℕ → ℤ) → Set → ℕ → ℕ → Type 0
Outdone f p s x y = (s y ≡ true) × (p y <ℤ p x) × (f (with (without s y) x) ≡ true)

pub returns : goal.returns
returns c =
    let n = c.args.oracle.now.n in
    let f = allows c.args.oracle.now.file.now n c.args.oracle.now.rule in
    let P : ℕ → Type 0 = Outdone f (part c.args.self.now.sheet.now c.args.self.now.at) (marked c.args.set.now) c.args.x in
    let d = found n P c.any.result
    (cases_from_any _ _ _ P (λ y. P y → ⊥) c.any.ensures.ran (YieldsList-from_range 0 n n refl (omega arith))
    (λ y q k. (search (rules, tests), grind (arith, ints, tests, to_z-of_z), search (rules, tests)))
    (λ y q k. (search rules, λ (i, l, o). grind (arith, ints, tests, to_z-of_z)))) in
    (λ e. let o = d.0 e in (o.0, o.1, o.2.0, o.2.1, o.2.2), λ o. d.1 (o.0, o.1, (o.2, o.3, o.4)))
