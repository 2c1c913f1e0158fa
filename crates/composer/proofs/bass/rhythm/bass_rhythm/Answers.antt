-- After i turns the first i later steps are drawn, and at most i + 1 sound. Assumes nothing.
use mathlib.Core.Path.{◌≡◌, refl, sym}
use native.Mathlib.Omega.{arith}
use Rattle.composer.specs.Bass.Rhythm.{Steps, steps_to, bass_rhythm_of}
use Rattle.composer.proofs.bass.RhythmLaws.{turn_on}
use Rattle.laws.proofs.Bools.{bit_few}
use Rattle.composer.proofs.bass.rhythm.bass_rhythm.Goals as goal

pub loop-i-init : goal.loop-i-init
unfolding steps_to
loop-i-init c = (omega arith, omega arith, refl)

pub loop-i-preserved : goal.loop-i-preserved
loop-i-preserved c =
    let l = c.loop-i in
    let root = c.root_step-root.result in
    let t : Steps = record { at = l.at; n = l.n } in (
      omega arith,
      omega (arith, bit_few c.chance-c.result.value),
      turn_on root l.i t l.stream c.chance-c.result l.invariant.2 c.chance-c.ensures,
    )

pub returns : goal.returns
unfolding bass_rhythm_of
returns c =
    let l = c.loop-i in
    let e : l.i ≡ 12 = omega arith in
    rw (← c.root_step-root.ensures.value, ← e) (sym l.invariant.2)
