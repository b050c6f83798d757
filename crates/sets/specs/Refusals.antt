-- The number and the place of each refusal.
use Rattle.std.specs.Prelude.{◌≡◌, ℕ, ◌+◌, ◌*◌, ◌<◌, ◌≤◌, ◌⊎◌, Some, None, Option, List, ◌++◌, codes}
use Rattle.std.specs.Fmt.{decimal}
use Rattle.sets.specs.declared.refusal.Refusal.{Refusal}
use Rattle.sets.specs.declared.refusal.Refusal.TheVariants.{Length, Offers, Weight, Kind, Range, Overlap, Town, Row, Short, Refused, Dual, Split}
use Rattle.sets.specs.declared.refusal.Source.{Source}
use Rattle.sets.specs.declared.refusal.Source.TheVariants.{Certificate}
use Rattle.sets.specs.declared.refusal.Lent.{Lent}
use Rattle.sets.specs.declared.refusal.Lent.TheVariants.{Sets, Numbers, Work}
use Rattle.sets.specs.declared.refusal.Which.{Which}
use Rattle.sets.specs.declared.refusal.Which.TheVariants.{Second}

abbrev pub number : Refusal → ℕ
number (Length _ _) = 1
number Offers = 2
number (Weight _) = 3
number (Kind _) = 4
number (Range _ _) = 5
number (Overlap _) = 6
number (Town _) = 7
number (Row _) = 8
number (Short _) = 9
number (Refused _ _) = 10
number (Dual _) = 11
number (Split _ _) = 12

abbrev pub slice_place : Lent → ℕ
slice_place Sets = 0
slice_place Numbers = 1
slice_place Work = 2

abbrev pub rule_place : Which → ℕ
rule_place Which.First = 0
rule_place Second = 1

abbrev pub place : Refusal → ℕ
place (Length _ p) = p
place Offers = 0
place (Weight p) = p
place (Kind p) = p
place (Range _ p) = p
place (Overlap p) = p
place (Town p) = p
place (Row p) = p
place (Short l) = slice_place l
place (Refused k which) = k * 2 + rule_place which
place (Dual x) = x
place (Split k x) = x

-- which input a place in bytes or a set belongs to; none for lent memory
abbrev pub source : Refusal → Option Source
source (Length s _) = Some s
source Offers = Some Source.Offers
source (Weight _) = Some Source.Offers
source (Kind _) = Some Source.Offers
source (Range s _) = Some s
source (Overlap _) = Some Source.Offers
source (Town _) = Some Source.Offers
source (Row _) = Some Source.Offers
source (Short _) = None
source (Refused _ _) = Some Certificate
source (Dual _) = Some Certificate
source (Split _ _) = Some Certificate

-- what is printed of an input and of a refusal
abbrev pub source_text : Source → List ℕ
source_text Source.Offers = codes "the offers"
source_text Certificate = codes "the certificate"

abbrev pub refusal_text : Refusal → List ℕ
refusal_text e = codes "refused " ++ (decimal (number e) ++ (codes " at " ++ decimal (place e)))

-- one refusal comes before another: at an earlier place, or at the same place by a number that is no greater
abbrev pub Precedes : Refusal → Refusal → Type 0
Precedes e f = (place e < place f) ⊎ ((place e ≡ place f) × (number e ≤ number f))

-- the first of all faults: it is one, and it comes before every other
abbrev pub First : (Refusal → Type 0) → Refusal → Type 0
First fault e = fault e × ((f : Refusal) → fault f → Precedes e f)
