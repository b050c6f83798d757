-- What the bytes of a file of offers mean: the number of offers, their weights, two rules.
use Rattle.std.specs.Prelude.{◌≡◌, ℕ, ◌+◌, ◌*◌, ◌<◌, ◌≤◌, List, length, slice_index}
use Rattle.sets.specs.Bits.{le2, le4, row_bytes}
use Rattle.matroid.specs.declared.rule.Rule.{Rule}
use Rattle.matroid.specs.declared.rule.Rule.TheVariants.{Limits, Volunteers, Links, Rows}
use Rattle.matroid.specs.declared.problem.Problem.{Problem}
use Rattle.laminar.specs.Limits as laminar
use Rattle.transversal.specs.Volunteers as transversal
use Rattle.graphic.specs.Links as graphic
use Rattle.linear.specs.Rows as linear

-- how many offers the file says there are
abbrev pub offers : List ℕ → ℕ
offers file = le2 file 0

-- the weight of offer i
abbrev pub weight_of : List ℕ → ℕ → ℕ
weight_of file i = le4 file (2 + 4 * i)

-- where the first rule begins
abbrev pub rules_at : ℕ → ℕ
rules_at n = 2 + 4 * n

-- the place behind a rule
abbrev pub rule_end : ℕ → Rule → ℕ
rule_end n (Limits groups at) = at + groups * (2 + row_bytes n)
rule_end n (Volunteers volunteers at) = at + volunteers * row_bytes n
rule_end n (Links towns at) = at + 4 * n
rule_end n (Rows prime long at) = at + n * long

-- a rule stands in the file at p: its kind, its counts, and behind them all that they promise
abbrev pub Stands : List ℕ → ℕ → ℕ → Rule → Type 0
Stands file n p (Limits groups at) =
    (p + 2 ≤ length file) × (slice_index file p ≡ 1) × (groups ≡ slice_index file (p + 1)) × (at ≡ p + 2) × laminar.Well file n groups at
Stands file n p (Volunteers volunteers at) =
    (p + 3 ≤ length file) × (slice_index file p ≡ 2) × (volunteers ≡ le2 file (p + 1)) × (at ≡ p + 3) × transversal.Well file n volunteers at
Stands file n p (Links towns at) =
    (p + 3 ≤ length file) × (slice_index file p ≡ 3) × (towns ≡ le2 file (p + 1)) × (at ≡ p + 3) × graphic.Well file n towns at
Stands file n p (Rows prime long at) =
    (p + 3 ≤ length file) × (slice_index file p ≡ 4) × ((prime ≡ slice_index file (p + 1)) × (long ≡ slice_index file (p + 2))) × (at ≡ p + 3)
    × linear.Well file n prime long at

-- a file means a problem: 1 to 600 offers, no weight above a million, one rule behind the weights, one behind that, and no more
pub record Means (file : List ℕ) (problem : Problem) : Type 0 where
  pub number : problem.n ≡ offers file
  pub some : 1 ≤ problem.n
  pub few : problem.n ≤ 600
  pub light : (i : ℕ) → i < problem.n → weight_of file i ≤ 1000000
  pub first : Stands file problem.n (rules_at problem.n) problem.first
  pub second : Stands file problem.n (rule_end problem.n problem.first) problem.second
  pub whole : rule_end problem.n problem.second ≡ length file

-- a well-formed file means some problem
abbrev pub WellFormed : List ℕ → Type 0
WellFormed file = (problem : Problem) × Means file problem
