-- The size is that of the definition. Assumes nothing.
use Rattle.composer.specs.Lead.Beats.{near_of}
use Rattle.composer.proofs.lead.beats.near.Goals as goal

pub returns : goal.returns
unfolding near_of
returns c = rw c.size.ensures
