-- After b turns the first b bars are played, and after i turns in a bar its first i notes. Assumes nothing.
use mathlib.Core.Path.{◌≡◌}
use Prim.Native.Nat.{◌+◌, ◌≤◌}
use Rattle.composer.specs.Bass.{bars_played}
use Rattle.composer.specs.Bass.Line.{bar_played, Playable}
use Rattle.composer.proofs.bass.bass.Given as goal

abbrev pub invariant-loop-i : goal.invariant-loop-i
invariant-loop-i l =
    (l.i ≤ l.i-end) × (l.i-end ≡ l.part.steps.n) × Playable l.part × (l.initial.count + l.i-end ≤ 104) × (l.count ≡ l.initial.count + l.i)
    × (bar_played (record { value = record { at = l.initial.notes; n = l.initial.count }; stream = l.initial.stream }) l.part l.knobs l.beat_s l.i ≡ record { value = record { at = l.notes; n = l.count }; stream = l.stream })

abbrev pub invariant-loop-b : goal.invariant-loop-b
invariant-loop-b l =
    (l.b ≤ 8) × (bars_played l.h.bars l.rhythms.value l.knobs l.beat_s (record { value = record { at = l.initial.notes; n = l.initial.count }; stream = l.initial.stream }) l.b ≡ record { value = record { at = l.notes; n = l.count }; stream = l.stream })
