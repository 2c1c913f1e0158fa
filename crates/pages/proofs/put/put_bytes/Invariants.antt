-- The bytes before the index are written. Assumes nothing.
use lib.ListN.{take}
use Rattle.laws.specs.Writes.{Wrote}
use Rattle.pages.proofs.put.put_bytes.Given as goal

abbrev pub invariant-loop-b : goal.invariant-loop-b
invariant-loop-b l = Wrote l.initial.buf l.buf l.at l.o l.b-index (take l.b-index l.bytes)
