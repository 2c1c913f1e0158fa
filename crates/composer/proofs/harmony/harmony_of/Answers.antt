-- Each call is its definition, a pick of n is below n, and a loop holds degrees. Assumes nothing.
use borrow.Author.Rules.{rules}
use Prim.Native.Nat.{◌<◌}
use native.Mathlib.Omega.{arith}
use Rattle.streams.proofs.DrawLaws.{pick_lt}
use Rattle.composer.specs.Harmony.{rows_of, harmony_in, harmony_of}
use Rattle.composer.proofs.HarmonyLaws.{loop_degree, rows_some}
use Rattle.composer.proofs.harmony.harmony_of.Goals as goal

pub map-requires : goal.map-requires
map-requires c =
    let key : c.pick.result.value < 12 = rw c.pick.ensures (pick_lt _ 12 (omega arith)) in
    let row : c.pick-row.result.value < rows_of c.chance-major.result.value = rw (c.pick-row.ensures, c.rows.ensures) (pick_lt _ (rows_of c.chance-major.result.value) (rows_some c.chance-major.result.value)) in
    search (rules, key, row, loop_degree)

pub returns : goal.returns
unfolding harmony_of harmony_in
returns c = search rules
