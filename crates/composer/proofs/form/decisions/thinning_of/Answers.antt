-- The row is one of the table. Assumes nothing.
use mathlib.Core.List.{[], ◌∷◌}
use native.Mathlib.Omega.{arith}
use Rattle.composer.specs.Form.Decisions.{thinning_of}
use Rattle.composer.proofs.BandLaws.{band_le}
use Rattle.composer.proofs.form.decisions.thinning_of.Goals as goal

pub bounds-row-row : goal.bounds-row-row
bounds-row-row c = omega (arith, c.band-row.ensures, band_le c.args.u 3 (5 ∷ 2 ∷ []))

pub returns : goal.returns
unfolding thinning_of
returns c = rw c.band-row.ensures
