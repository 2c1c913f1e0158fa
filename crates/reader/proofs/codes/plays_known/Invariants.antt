-- The bars tested so far. Assumes nothing.
use mathlib.Core.Path.{◌≡◌}
use Prim.Native.Nat.{◌+◌}
use lib.Dec.{ltb}
use Rattle.pages.specs.Bytes.{byte_at}
use Rattle.reader.specs.Tests.{all_to}
use Rattle.reader.proofs.codes.plays_known.Given as goal

abbrev pub invariant-loop-b : goal.invariant-loop-b
invariant-loop-b l = l.ok ≡ all_to (λ k. ltb (byte_at l.bytes (l.at + k)) 16) l.b
