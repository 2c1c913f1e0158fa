-- The notes read so far, over zeros. Assumes nothing.
use mathlib.Core.Path.{◌≡◌}
use Rattle.laws.specs.Lists.{pad}
use Rattle.composer.specs.Note.{no_note}
use Rattle.reader.specs.Song.{notes_at}
use Rattle.reader.proofs.event.notes_at.Given as goal

abbrev pub invariant-loop-i : goal.invariant-loop-i
invariant-loop-i g l = l.out ≡ pad no_note g.row.N (notes_at l.edition l.leads l.bytes l.at l.i)
