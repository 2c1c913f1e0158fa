-- The exponent stands in the first two bytes; below 127 the first alone says that it is not all ones. Assumes nothing.
use mathlib.Core.Path.{sym, ap, ◌∙◌}
use mathlib.Core.Bool.{Bool, ◌||◌}
use Prim.Native.Nat.{◌+◌, ◌%◌, ◌<◌}
use native.Mathlib.Omega.{arith}
use borrow.Author.Tests.{lt-ltb}
use lib.Dec.{ltb}
use Rattle.pages.specs.Bytes.{byte_at, be16_at}
use Rattle.pages.proofs.FiniteLaws.{finite_first}
use Rattle.pages.proofs.get.finite_at.Goals as goal

pub returns-then-a-lt127 : goal.returns-then-a-lt127
returns-then-a-lt127 c =
    let few = c.type_inv.bytes in
    let x = byte_at c.args.bytes.now c.args.at in
    let y = byte_at c.args.bytes.now (c.args.at + 1) in
    let small : x < 127 = omega (arith, c.if-a-lt127.true, c.byte_in-a.ensures) in
    let low : be16_at c.args.bytes.now (c.args.at + 2) < 65536 = omega (arith, few (c.args.at + 2), few (c.args.at + 2 + 1)) in
    sym (ap (λ (b : Bool). b || ltb y 128) (lt-ltb (x % 128) 127 (omega arith)))
    ∙ finite_first x y (be16_at c.args.bytes.now (c.args.at + 2)) (omega arith) (omega (arith, few (c.args.at + 1))) low

pub returns : goal.returns
returns c =
    let few = c.type_inv.bytes in
    let low : be16_at c.args.bytes.now (c.args.at + 2) < 65536 = omega (arith, few (c.args.at + 2), few (c.args.at + 2 + 1)) in
    rw (c.byte_in-b.ensures, c.byte_in-a.ensures)
    (finite_first (byte_at c.args.bytes.now c.args.at) (byte_at c.args.bytes.now (c.args.at + 1)) (be16_at c.args.bytes.now (c.args.at + 2)) (omega (arith, few c.args.at)) (omega (arith, few (c.args.at + 1))) low)
