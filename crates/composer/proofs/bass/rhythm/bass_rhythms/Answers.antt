-- The bars so far have their rhythms. Assumes nothing.
use Rattle.std.proofs.Common.{◌≡◌, refl, sym, arith, add-one}
use Rattle.composer.specs.Bass.Rhythm.{one_rhythm_of, rhythms_to, bass_rhythms_of}
use Rattle.composer.proofs.bass.rhythm.bass_rhythms.Goals as goal

pub loop-bar-init : goal.loop-bar-init
unfolding rhythms_to
loop-bar-init c = refl

pub loop-bar-preserved : goal.loop-bar-preserved
unfolding rhythms_to one_rhythm_of
loop-bar-preserved c = rw (add-one, c.loop-bar.invariant, ← c.bass_rhythm-d.ensures)

pub returns : goal.returns
unfolding bass_rhythms_of
returns c =
    let l = c.loop-bar in
    let e : l.bar-index ≡ 8 = omega arith in
    rw (← e) (sym l.invariant)
