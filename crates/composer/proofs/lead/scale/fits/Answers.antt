-- The scale is asked once, and the tests are joined. Assumes nothing.
use Rattle.composer.specs.Lead.Scale.{fits_of}
use Rattle.composer.proofs.lead.scale.fits.Goals as goal

pub returns : goal.returns
unfolding fits_of
returns c = rw c.has-sung.ensures
