-- After b bars the lane is the definition's, with at most 16 notes for each; after e eighths of a bar, with at most two for each. Assumes nothing.
use mathlib.Core.Bool.{true}
use mathlib.Core.Path.{◌≡◌, refl}
use native.Mathlib.Omega.{arith}
use native.Mathlib.Numerals.{add-one}
use lib.ListN.{get_or}
use Rattle.composer.specs.Chord.{past_chord}
use Rattle.composer.specs.Keys.{KeysLane, bar_to, bar_of, bars_to, keys_of}
use Rattle.composer.specs.declared.chord.Chord.{Chord}
use Rattle.composer.proofs.keys.ShellLaws.{tonal_seventh_le, tonal_shell}
use Rattle.composer.proofs.keys.StrokeLaws.{lane_of, eighth_rest, eighth_shell, eighth_single}
use borrow.Author.Tests.{not-true, not-false}
use Rattle.composer.proofs.keys.keys.Goals as goal
use Rattle.composer.proofs.keys.keys.Goals.{In-loop-e, in-Shell, in-Single}

-- ---- an eighth's place in the loops
abbrev Turn : Type 0
Turn = In-loop-e

abbrev chord_at : Turn → Chord
chord_at t = get_or t.args.h.bars t.loop-b.b past_chord

abbrev lane_at : Turn → KeysLane
lane_at t = lane_of t.loop-e.notes t.loop-e.count t.loop-e.stream

pub loop-b-init : goal.loop-b-init
unfolding bars_to
loop-b-init c = (omega arith, omega arith, refl)

pub shell_of-shell-requires : goal.shell_of-shell-requires
shell_of-shell-requires c =
    tonal_shell c.args.h c.requires c.loop-b.b (omega arith)

pub loop-e-init : goal.loop-e-init
unfolding bar_to
loop-e-init c = (omega arith, omega arith, refl)

pub loop-e-preserved-then-not-struck : goal.loop-e-preserved-then-not-struck
unfolding bar_to
loop-e-preserved-then-not-struck c =
    let silent = eighth_rest (lane_at (goal.at.loop-e-preserved-then-not-struck c).In-loop-e) (chord_at (goal.at.loop-e-preserved-then-not-struck c).In-loop-e) c.keys_style-k.result c.density_draw-density.result.value c.loop-b.b c.loop-e.e c.args.beat_s c.chance-struck.result c.chance-struck.ensures (not-true _ c.if-not-struck.true) in
    (omega arith, omega arith, rw (add-one, ← c.loop-e.invariant.2) silent)

pub dyad_at-dyad-requires : goal.dyad_at-dyad-requires
dyad_at-dyad-requires c =
    rw c.shell_of-shell.ensures (tonal_seventh_le c.args.h c.requires c.loop-b.b (omega arith))

pub loop-e-preserved : goal.loop-e-preserved
unfolding bar_to
loop-e-preserved c =
    let k = c.keys_style-k.result in
    let p = c.density_draw-density.result.value in
    let beat_s = c.args.beat_s in
    let strikes : c.chance-struck.result.value ≡ true = not-false _ c.if-not-struck.false in
    let e = c.loop-e.e in
    let few = c.loop-e.invariant.1 in
    elim c.match-k.branch [
      | in-Shell w ↦ (
        omega (arith, c.loop-e-test.true),
        omega (arith, w.count-is, few),
        rw (add-one, ← c.loop-e.invariant.2, w.notes-is, w.count-is, w.stream-is)
            (eighth_shell (lane_at (goal.at.loop-e-preserved c).In-loop-e) (chord_at (goal.at.loop-e-preserved c).In-loop-e) k p c.loop-b.b e beat_s c.chance-struck.result c.chance-struck.ensures strikes c.draw-lag.result c.draw-lag.ensures c.grid_at.result c.grid_at.ensures c.shell_of-shell.result c.shell_of-shell.ensures w.dyad_at-dyad.result w.dyad_at-dyad.ensures w.in-Shell.is),
      )
      | in-Single w ↦ (
        omega (arith, c.loop-e-test.true),
        omega (arith, w.count-is, few),
        rw (add-one, ← c.loop-e.invariant.2, w.notes-is, w.count-is, w.stream-is)
            (eighth_single (lane_at (goal.at.loop-e-preserved c).In-loop-e) (chord_at (goal.at.loop-e-preserved c).In-loop-e) k p c.loop-b.b e beat_s c.chance-struck.result c.chance-struck.ensures strikes c.draw-lag.result c.draw-lag.ensures c.grid_at.result c.grid_at.ensures w.tone_at-tone.result w.tone_at-tone.ensures w.in-Single.is),
      )
    ]

pub loop-b-preserved : goal.loop-b-preserved
unfolding bars_to bar_of
loop-b-preserved c =
    let l2 = c.loop-e in
    let l = c.loop-b in
    let e : l2.e ≡ 8 = omega arith in
    (omega arith, omega arith, rw (add-one, ← l.invariant.2, ← e) l2.invariant.2)

pub returns : goal.returns
unfolding keys_of
returns c =
    let l = c.loop-b in
    let e : l.b ≡ 8 = omega arith in
    rw (l.invariant.2, e, c.density_draw-density.ensures, c.keys_style-k.ensures)
