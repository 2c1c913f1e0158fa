-- The table is the definition's. Assumes nothing.
use mathlib.Core.Path.{refl}
use Rattle.composer.specs.Drums.Grooves.{hiphop_groove_of}
use Rattle.composer.proofs.drums.grooves.hiphop_groove.Goals as goal

pub returns : goal.returns
unfolding hiphop_groove_of
returns c = refl
