-- The hits read so far, over zeros. Assumes nothing.
use mathlib.Core.Path.{◌≡◌}
use Rattle.laws.specs.Lists.{pad}
use Rattle.composer.specs.Note.{no_hit}
use Rattle.reader.specs.Song.{hits_at}
use Rattle.reader.proofs.event.hits_at.Given as goal

abbrev pub invariant-loop-i : goal.invariant-loop-i
invariant-loop-i g l = l.out ≡ pad no_hit g.row.N (hits_at l.bytes l.at l.i)
