-- The head, then the events, whose bytes are as many as the head says. Assumes nothing.
use mathlib.Core.Path.{refl}
use Rattle.laws.proofs.Writes.{wrote_then, wrote_as}
use Rattle.pages.specs.Bytes.{field}
use Rattle.pages.proofs.lane.put_run.Goals as goal

pub returns : goal.returns
unfolding field
returns c =
    wrote_as refl (rw (c.tag.ensures, c.width.ensures, c.put_events.ensures.size)) (wrote_then c.put_head-a.ensures c.put_events.ensures)
