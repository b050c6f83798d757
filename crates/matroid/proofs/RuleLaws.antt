-- Rules of the four kinds: each is a matroid, and its test says what the kind allows.
use Rattle.matroid.specs.declared.rule.Rule.TheVariants.{Limits, Volunteers, Links, Rows}
use Rattle.matroid.specs.Rules.{RulesMatroid, RulesNatural}
use Rattle.laminar.proofs.Laws as laminar
use Rattle.transversal.proofs.Laws as transversal
use Rattle.graphic.proofs.Laws as graphic
use Rattle.linear.proofs.Laws as linear

-- a well-formed rule of any kind is a matroid
pub rule_matroid : RulesMatroid
rule_matroid file n (Limits groups at) w = laminar.rule_matroid file n groups at w
rule_matroid file n (Volunteers volunteers at) w = transversal.rule_matroid file n volunteers at w
rule_matroid file n (Links towns at) w = graphic.rule_matroid file n towns at w
rule_matroid file n (Rows prime long at) w = linear.rows_matroid file n prime long at w

-- the test of any kind says what the kind allows in its own words
pub natural : RulesNatural
natural file n (Limits groups at) s w = laminar.natural file n groups at s
natural file n (Volunteers volunteers at) s w = transversal.natural file n volunteers at s
natural file n (Links towns at) s w = graphic.natural file n towns at s
natural file n (Rows prime long at) s w = let e = linear.natural file n prime long at w s in (e.0, e.1)
