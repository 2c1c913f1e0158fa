-- A turn writes one byte more. Assumes nothing.
use mathlib.Core.Path.{refl, sym}
use native.Mathlib.Numerals.{add-one}
use native.Mathlib.Omega.{arith}
use lib.Seq.{take-suc}
use Rattle.laws.proofs.Writes.{wrote_none, wrote_then, wrote_as}
use Rattle.pages.proofs.put.put_bytes.Goals as goal

pub loop-b-init : goal.loop-b-init
loop-b-init c = wrote_none c.args.buf.now c.args.at (omega arith)

pub loop-b-preserved : goal.loop-b-preserved
loop-b-preserved c =
    let l = c.loop-b in
    wrote_as refl (rw add-one (sym (take-suc c.args.bytes.now l.b-index 0 (omega arith)))) (wrote_then l.invariant c.put_u8-o.ensures)
