-- The laws of links that stand on contracts.
use Rattle.std.proofs.Common.{◌≡◌, true}
use Rattle.sets.proofs.ClosureTheorem.{closure_matroid}
use Rattle.graphic.specs.Links.{from_town, to_town, spanned, JoinedLeast, LinksMatroid, NoRing}
use Rattle.graphic.proofs.Closed.{closure}
use Rattle.graphic.proofs.Joined.{joined_refl, joined_sym, joined_trans, joined_link, joined_least}
use Rattle.graphic.proofs.Rings.{no_ring}

-- to be joined is the least equivalence that the links make
pub least : JoinedLeast
least from to n s = (
  (record { self = joined_refl from to n s; back = joined_sym from to n s; on = joined_trans from to n s }),
  (λ x l h. joined_link from to n s x l h),
  (λ same e h. joined_least from to n s (λ u v. same u v ≡ true) e.self e.back e.on h),
)

-- links are a matroid, by the closure theorem
pub rule_matroid : LinksMatroid
rule_matroid file n towns at _ =
    closure_matroid n (spanned (from_town file at) (to_town file at) n) (closure (from_town file at) (to_town file at) n)

-- the test says that there is no ring
pub natural : NoRing
natural file n towns at s = no_ring (from_town file at) (to_town file at) n s
