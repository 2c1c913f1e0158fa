-- The bars before the index are written. Assumes nothing.
use mathlib.Core.List.{map}
use lib.ListN.{take}
use Rattle.laws.specs.Writes.{Wrote}
use Rattle.composer.specs.Form.Plays.{bits_of}
use Rattle.pages.proofs.contents.Contents.put_bars.Given as goal

abbrev pub invariant-loop-p : goal.invariant-loop-p
invariant-loop-p l = Wrote l.initial.buf l.buf l.at l.o l.p-index (map bits_of (take l.p-index l.p-items))
