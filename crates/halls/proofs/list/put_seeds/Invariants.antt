-- After i turns the first i seeds are written. Assumes nothing.
use Rattle.std.proofs.Common.{◌*◌}
use Rattle.laws.specs.Writes.{Wrote}
use Rattle.halls.specs.List.{list_bytes}
use Rattle.halls.proofs.list.put_seeds.Given as goal

abbrev pub invariant-loop-i : goal.invariant-loop-i
invariant-loop-i l = Wrote l.initial.buf l.buf 0 l.at (8 * l.i) (list_bytes l.hall l.i)
