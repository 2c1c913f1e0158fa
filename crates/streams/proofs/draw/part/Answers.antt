-- The truncated product is the definition's, and so is its cap. Assumes nothing.
use Rattle.streams.specs.Draw.{picked_of}
use Rattle.streams.proofs.draw.part.Goals as goal

pub returns : goal.returns
unfolding picked_of
returns c = rw (c.min.ensures, c.saturating_sub.ensures, c.truncated-t.ensures, c.min-parts.ensures)
