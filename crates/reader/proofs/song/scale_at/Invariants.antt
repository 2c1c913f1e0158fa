-- The bytes read so far, over zeros. Assumes nothing.
use mathlib.Core.Path.{◌≡◌}
use Prim.Native.Nat.{◌+◌}
use Rattle.laws.specs.Lists.{pad, list_to}
use Rattle.pages.specs.Bytes.{byte_at}
use Rattle.reader.proofs.song.scale_at.Given as goal

abbrev pub invariant-loop-i : goal.invariant-loop-i
invariant-loop-i l = l.pcs ≡ pad 0 6 (list_to (λ k. byte_at l.bytes (l.at + k)) l.i)
