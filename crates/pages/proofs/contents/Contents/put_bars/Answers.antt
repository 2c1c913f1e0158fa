-- A turn writes one bar more. Assumes nothing.
use mathlib.Core.Path.{refl}
use native.Mathlib.Omega.{arith}
use lib.ListN.{take}
use Rattle.laws.proofs.Lists.{map_take_on}
use Rattle.laws.proofs.Writes.{wrote_none, wrote_then, wrote_as}
use Rattle.composer.specs.Form.Plays.{bits_of, silent}
use Rattle.pages.proofs.contents.Contents.put_bars.Goals as goal

pub loop-p-init : goal.loop-p-init
loop-p-init c = wrote_none c.args.buf.now c.args.at (omega arith)

pub loop-p-preserved : goal.loop-p-preserved
loop-p-preserved c =
    let l = c.loop-p in
    let on = map_take_on bits_of (take c.args.self.now.form.now.bars c.args.self.now.form.now.plays) l.p-index silent (omega arith) in
    wrote_as refl (rw (on, c.bits.ensures)) (wrote_then l.invariant c.put_u8-o.ensures)
