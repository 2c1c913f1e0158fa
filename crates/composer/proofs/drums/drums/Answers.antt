-- Each arm is its clause; a pick of four is a groove. Assumes nothing.
use native.Mathlib.Omega.{arith}
use Rattle.streams.proofs.DrawLaws.{pick_lt}
use Rattle.composer.specs.Drums.{drums_of}
use Rattle.composer.proofs.drums.GroovesLaws.{hiphop_snares}
use Rattle.composer.proofs.drums.drums.Goals as goal

pub hiphop_groove-requires : goal.hiphop_groove-requires
hiphop_groove-requires c = rw c.pick-p.ensures (pick_lt c.args.s 4 (omega arith))

pub lay_groove-requires : goal.lay_groove-requires
lay_groove-requires c = rw c.hiphop_groove.ensures (hiphop_snares _)

pub returns-in-Hiphop : goal.returns-in-Hiphop
unfolding drums_of
returns-in-Hiphop c =
    rw (c.in-Hiphop.is, c.lay_groove.ensures, c.hiphop_groove.ensures, c.pick-p.ensures)

pub returns-in-Sleep : goal.returns-in-Sleep
unfolding drums_of
returns-in-Sleep c = rw c.in-Sleep.is c.lay_groove-in-Sleep.ensures
