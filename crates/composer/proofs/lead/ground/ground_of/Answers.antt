-- Tones and rootless tones are the callee's. Assumes nothing.
use Rattle.composer.specs.Lead.Ground.{ground_from}
use Rattle.composer.proofs.lead.ground.ground_of.Goals as goal

pub returns : goal.returns
unfolding ground_from
returns c = rw (c.strong_of.ensures, c.chord_tones-found.ensures)
