-- The hits tested so far. Assumes nothing.
use mathlib.Core.Path.{◌≡◌}
use Prim.Native.Nat.{◌+◌, ◌*◌}
use lib.Dec.{leb}
use Rattle.pages.specs.Bytes.{byte_at}
use Rattle.reader.specs.Tests.{all_to}
use Rattle.reader.proofs.codes.kinds_known.Given as goal

abbrev pub invariant-loop-i : goal.invariant-loop-i
invariant-loop-i l = l.ok ≡ all_to (λ k. leb (byte_at l.bytes (l.at + 10 * k + 1)) 3) l.i
