-- The head, then the chords, which are 32 bytes. Assumes nothing.
use mathlib.Core.Path.{refl}
use Rattle.laws.proofs.Writes.{wrote_then, wrote_as}
use Rattle.pages.specs.Bytes.{field}
use Rattle.pages.proofs.contents.Contents.put_chords.Goals as goal

pub returns : goal.returns
unfolding field
returns c =
    wrote_as refl (rw (← c.bar_chords.ensures, c.put_eight.ensures.size)) (wrote_then c.put_head-a.ensures c.put_eight.ensures)
