-- The events before the index are written. Assumes nothing.
use mathlib.Core.List.{map}
use Prim.Native.Nat.{◌*◌}
use lib.ListN.{take}
use Rattle.laws.specs.Lists.{joined}
use Rattle.laws.specs.Writes.{Wrote}
use Rattle.pages.proofs.lane.put_each.Given as goal

abbrev pub invariant-loop-e : goal.invariant-loop-e
invariant-loop-e g l =
    Wrote l.initial.buf l.buf l.at l.o (g.E.Event.width l.edition * l.e-index) (joined (map (g.E.Event.bytes l.edition) (take l.e-index l.e-items)))
