-- The row is one of three. Assumes nothing.
use mathlib.Core.List.{[], ◌∷◌}
use native.Mathlib.Omega.{arith}
use Rattle.composer.specs.Form.Decisions.{cut_of}
use Rattle.composer.proofs.BandLaws.{band_le}
use Rattle.composer.proofs.form.decisions.cut_of.Goals as goal

pub overflow_cast-result : goal.overflow_cast-result
overflow_cast-result c = omega (arith, c.band-row.ensures, band_le c.args.v 55 (20 ∷ 25 ∷ []))

pub overflow_add-result : goal.overflow_add-result
overflow_add-result c = omega (arith, c.band-row.ensures, band_le c.args.v 55 (20 ∷ 25 ∷ []))

pub returns : goal.returns
unfolding cut_of
returns c = rw c.band-row.ensures
