-- What each kind of rule promises of its reading, in one form for all four.
use Rattle.std.proofs.Common.{◌≡◌, ℕ, ◌+◌, ◌≤◌, List, length, get_or, arith}
use Rattle.sets.specs.Bits.{le2}
use Rattle.sets.specs.declared.refusal.Refusal.{Refusal}
use Rattle.matroid.proofs.Stages.{Sound, Located}
use Rattle.laminar.specs.Reading as laminar
use Rattle.transversal.specs.Reading as transversal
use Rattle.graphic.specs.Links as graphic
use Rattle.graphic.proofs.Reading as links
use Rattle.transversal.proofs.Reading as volunteers
use Rattle.laminar.proofs.Reading as limits
use Rattle.linear.proofs.Reading as rows
use Rattle.linear.specs.declared.Shape.{Shape}
use Rattle.linear.specs.Reading as linear
use Rattle.laminar.specs.Limits as limits_spec
use Rattle.transversal.specs.Volunteers as volunteers_spec
use Rattle.linear.specs.Rows as rows_spec

-- the header is there, it says this count, and the rule behind it is well formed
abbrev pub LimitsGood : List ℕ → ℕ → ℕ → ℕ → Type 0
LimitsGood file n p groups = (p + 1 ≤ length file) × (groups ≡ get_or file p 0) × limits_spec.Well file n groups (p + 1)

-- the same of volunteers
abbrev pub VolunteersGood : List ℕ → ℕ → ℕ → ℕ → Type 0
VolunteersGood file n p volunteers = (p + 2 ≤ length file) × (volunteers ≡ le2 file p) × volunteers_spec.Well file n volunteers (p + 2)

-- of links
abbrev pub LinksGood : List ℕ → ℕ → ℕ → ℕ → Type 0
LinksGood file n p towns = (p + 2 ≤ length file) × (towns ≡ le2 file p) × graphic.Well file n towns (p + 2)

-- of rows
abbrev pub RowsGood : List ℕ → ℕ → ℕ → Shape → Type 0
RowsGood file n p shape = (p + 2 ≤ length file) × (shape ≡ linear.shape_at file p) × rows_spec.Well file n shape.prime shape.len (p + 2)

module _ (file : List ℕ) (n p : ℕ) where
  -- what the reading of limits promises
  pub limits_sound : Sound ℕ (laminar.read file n p) (laminar.Fault file n p) (LimitsGood file n p)
  limits_sound =
      record {
        ok_good = λ c h. let g = limits.ok_well file n p c h in (omega (arith, g.0), g.1, g.2);
        good_ok = λ c g. rw g.1 (limits.well_ok file n p (omega (arith, g.0)) (rw g.1 at g.2));
        err_first = λ e h. limits.err_first file n p e h;
        faultless = λ c g f k. limits.well_faultless file n p f (omega (arith, g.0)) (rw g.1 at g.2) k;
      }

  -- where the faults of limits are
  pub limits_located : (f : Refusal) → laminar.Fault file n p f → Located file p (laminar.end file n p) f
  limits_located f k = limits.fault_place file n p f k

  -- what the reading of volunteers promises
  pub volunteers_sound : Sound ℕ (transversal.read file n p) (transversal.Fault file n p) (VolunteersGood file n p)
  volunteers_sound =
      record {
        ok_good = λ c h. volunteers.ok_well file n p c h;
        good_ok = λ c g. rw g.1 (volunteers.well_ok file n p g.0 (rw g.1 at g.2));
        err_first = λ e h. volunteers.err_first file n p e h;
        faultless = λ c g f k. volunteers.well_faultless file n p f g.0 (rw g.1 at g.2) k;
      }

  -- where the faults of volunteers are
  pub volunteers_located : (f : Refusal) → transversal.Fault file n p f → Located file p (transversal.end file n p) f
  volunteers_located f k = volunteers.fault_place file n p f k

  -- what the reading of links promises
  pub links_sound : Sound ℕ (graphic.read file n p) (graphic.Fault file n p) (LinksGood file n p)
  links_sound =
      record {
        ok_good = λ c h. links.ok_well file n p c h;
        good_ok = λ c g. rw g.1 (links.well_ok file n p g.0 (rw g.1 at g.2));
        err_first = λ e h. links.err_first file n p e h;
        faultless = λ c g f k. links.well_faultless file n p f g.0 (rw g.1 at g.2) k;
      }

  -- where the faults of links are
  pub links_located : (f : Refusal) → graphic.Fault file n p f → Located file p (graphic.end file n p) f
  links_located f k = links.fault_place file n p f k

  -- what the reading of rows promises
  pub rows_sound : Sound Shape (linear.read file n p) (linear.Fault file n p) (RowsGood file n p)
  rows_sound =
      record {
        ok_good = λ c h. rows.ok_well file n p c h;
        good_ok = λ c g. rw g.1 (rows.well_ok file n p g.0 (rw g.1 at g.2));
        err_first = λ e h. rows.err_first file n p e h;
        faultless = λ c g f k. rows.well_faultless file n p f g.0 (rw g.1 at g.2) k;
      }

  -- where the faults of rows are
  pub rows_located : (f : Refusal) → linear.Fault file n p f → Located file p (linear.end file n p) f
  rows_located f k = rows.fault_place file n p f k
