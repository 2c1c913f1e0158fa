-- The row is one of the style's table. Assumes nothing.
use mathlib.Core.List.{[], ◌∷◌}
use native.Mathlib.Omega.{arith}
use Rattle.composer.specs.Voice.{voice_by}
use Rattle.composer.proofs.BandLaws.{band_le}
use Rattle.composer.proofs.voice.voice_by.Goals as goal

pub bounds-row-row : goal.bounds-row-row
bounds-row-row c = omega (arith, c.band-row.ensures, band_le c.args.u 35 (25 ∷ 40 ∷ []))

pub bounds-row-row-in-Sleep : goal.bounds-row-row-in-Sleep
bounds-row-row-in-Sleep c = omega (arith, c.band-row-in-Sleep.ensures, band_le c.args.u 35 (65 ∷ []))

pub returns-in-Hiphop : goal.returns-in-Hiphop
unfolding voice_by
returns-in-Hiphop c = rw (c.in-Hiphop.is, c.band-row.ensures)

pub returns-in-Sleep : goal.returns-in-Sleep
unfolding voice_by
returns-in-Sleep c = rw (c.in-Sleep.is, c.band-row-in-Sleep.ensures)
