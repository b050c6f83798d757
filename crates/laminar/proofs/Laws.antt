-- The rule of limits: its test says what its natural reading says, and it is a matroid.
use Rattle.laminar.specs.Limits.{limit, in_group, ReadingAgrees, LimitsMatroid}
use Rattle.laminar.proofs.Fits.{fits_each, each_fits, fits_matroid}

-- a well-formed rule of limits is a matroid
pub rule_matroid : LimitsMatroid
rule_matroid file n groups at w = fits_matroid n (in_group file n at) (limit file n at) groups w.nested

-- the natural reading and the test say the same
pub natural : ReadingAgrees
natural file n groups at s =
    (each_fits n (in_group file n at) (limit file n at) groups s, fits_each n (in_group file n at) (limit file n at) groups s)
