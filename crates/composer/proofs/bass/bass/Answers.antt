-- After b turns the first b bars are played, and after i turns in a bar its first i notes. Assumes nothing.
use mathlib.Core.Path.{◌≡◌, refl, sym, ap}
use native.Mathlib.Omega.{arith}
use Rattle.composer.specs.Bass.{part_of, bars_played, no_bass, bass_of}
use Rattle.composer.specs.Bass.Line.{BassLane, bar_played}
use Rattle.composer.proofs.bass.BassLaws.{drawn_rising, turn_asks, bars_on}
use Rattle.composer.proofs.bass.LineLaws.{bar_on}
use Rattle.composer.proofs.bass.bass.Goals as goal

pub loop-b-init : goal.loop-b-init
unfolding bars_played
loop-b-init c = (omega arith, refl)

pub loop-i-init : goal.loop-i-init
unfolding bar_played part_of
loop-i-init c =
    let l = c.loop-b in
    let drawn = c.bass_rhythms-rhythms.result in
    let asks = turn_asks c.args.h c.requires drawn.value (drawn_rising drawn c.args.s c.bass_rhythms-rhythms.ensures) c.bass_style-knobs.result c.args.beat_s (no_bass drawn.stream) l.b (omega arith) refl in
    let played = ap (λ (x : BassLane). x.value.n) l.invariant.1 in
    (omega arith, refl, rw (c.root_class-in-loop-b.ensures, c.root_class.ensures) asks.0, omega (arith, asks.1, played), omega arith, refl)

pub loop-i-preserved : goal.loop-i-preserved
loop-i-preserved c =
    let l = c.loop-i in
    (omega arith, l.invariant.1, l.invariant.2, l.invariant.3, omega arith, bar_on _ _ _ _ l.i _ c.played_note-d.result l.invariant.5 c.played_note-d.ensures)

pub loop-b-preserved : goal.loop-b-preserved
unfolding part_of
loop-b-preserved c =
    let i = c.loop-i in
    let l = c.loop-b in
    let drawn = c.bass_rhythms-rhythms.result in
    (omega arith, bars_on c.args.h.bars drawn.value c.bass_style-knobs.result c.args.beat_s (no_bass drawn.stream) l.b _ l.invariant.1 i.i (omega (arith, i.invariant.1)) _ (rw (c.root_class-in-loop-b.ensures, c.root_class.ensures) at i.invariant.5))

pub returns : goal.returns
unfolding bass_of
returns c =
    let l = c.loop-b in
    let e : l.b ≡ 8 = omega arith in
    rw (← c.bass_rhythms-rhythms.ensures, ← c.bass_style-knobs.ensures, ← e) (sym l.invariant.1)
