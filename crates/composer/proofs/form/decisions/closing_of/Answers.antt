-- The row is one of the table. Assumes nothing.
use mathlib.Core.List.{[], ◌∷◌}
use native.Mathlib.Omega.{arith}
use Rattle.composer.specs.Form.Decisions.{closing_of}
use Rattle.composer.proofs.BandLaws.{band_le}
use Rattle.composer.proofs.form.decisions.closing_of.Goals as goal

pub offset_bounds-row : goal.offset_bounds-row
offset_bounds-row c = omega (arith, c.band-row.ensures, band_le c.args.u 14 (11 ∷ 10 ∷ 18 ∷ 31 ∷ 7 ∷ 4 ∷ []))

pub bounds-row-row : goal.bounds-row-row
bounds-row-row c = omega (arith, c.band-row.ensures, band_le c.args.u 14 (11 ∷ 10 ∷ 18 ∷ 31 ∷ 7 ∷ 4 ∷ []))

pub returns : goal.returns
unfolding closing_of
returns c = rw c.band-row.ensures
