-- The chords before the index are written. Assumes nothing.
use Prim.Native.Nat.{◌*◌}
use lib.ListN.{take}
use Rattle.laws.specs.Lists.{joined}
use Rattle.laws.specs.Writes.{Wrote}
use Rattle.pages.proofs.contents.put_eight.Given as goal

abbrev pub invariant-loop-notes : goal.invariant-loop-notes
invariant-loop-notes l = Wrote l.initial.buf l.buf l.at l.o (4 * l.notes-index) (joined (take l.notes-index l.chords))
