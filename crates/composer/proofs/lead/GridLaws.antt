-- The grid's formula gives the table: every beat is exact, and the seven are equal bit for bit. Assumes nothing.
use mathlib.Core.Path.{refl}
use mathlib.Core.Bool.{false}
use Prim.Native.Nat.{ℕ, ◌+◌, ◌≤◌}
use native.Mathlib.Omega.{arith}
use lib.Dec.{lit≤}
use lib.Ieee.{binary32, div, of_int, of_bits, to_bits}
use lib.Ieee.Exact.{HasValue}
use Rattle.laws.specs.Lists.{list_to}
use Rattle.laws.proofs.Exact.{over_power}
use Rattle.composer.specs.Lead.Grid.{grid_beat_of, GridPromise}

two_value : HasValue (of_bits binary32 0x4000_0000) false 2 1
unfolding of_bits
two_value = (refl, refl)

grid_exact : (i : ℕ) → i ≤ 6 → HasValue (grid_beat_of i) false (i + 1) 2
grid_exact i h = over_power (i + 1) 1 (of_bits binary32 0x4000_0000) (omega arith) (lit≤ tt) two_value

pub grid_promise : GridPromise
unfolding list_to div of_int of_bits to_bits
grid_promise = record { exact = grid_exact; bits = refl; same = refl }
