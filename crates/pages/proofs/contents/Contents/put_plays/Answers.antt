-- The head, then the bars, which are as many bytes as the head says. Assumes nothing.
use mathlib.Core.Path.{refl}
use Rattle.laws.proofs.Writes.{wrote_then, wrote_as}
use Rattle.pages.specs.Bytes.{field}
use Rattle.pages.proofs.contents.Contents.put_plays.Goals as goal

pub returns : goal.returns
unfolding field
returns c =
    wrote_as refl (rw c.put_bars.ensures.size) (wrote_then c.put_head-a.ensures c.put_bars.ensures)
