-- Each turn passes a head and a body. Assumes nothing.
use mathlib.Core.Path.{◌≡◌}
use Prim.Native.Nat.{ℕ, ◌+◌, ◌*◌, ◌≤◌, ◌<◌}
use lib.ListN.{length, get_or}
use Rattle.reader.specs.Layout.{start_at, body_at, size_at}
use Rattle.reader.proofs.layout.Fields.of.Given as goal

abbrev pub invariant-loop-k : goal.invariant-loop-k
invariant-loop-k l = record {
  near : l.at ≤ 4 + 65538 * l.k;
  at : l.at ≡ start_at l.bytes l.k;
  long : (length l.bodies ≡ 10) × (length l.sizes ≡ 10);
  bodies : (i : ℕ) → i < l.k → get_or l.bodies i 0 ≡ body_at l.bytes i;
  sizes : (i : ℕ) → i < l.k → get_or l.sizes i 0 ≡ size_at l.bytes i;
}
