-- After i turns the first i later steps are drawn, and at most i + 1 sound. Assumes nothing.
use mathlib.Core.Path.{◌≡◌}
use Prim.Native.Nat.{◌+◌, ◌≤◌}
use Rattle.composer.specs.Bass.Rhythm.{steps_to}
use Rattle.composer.proofs.bass.rhythm.bass_rhythm.Given as goal

abbrev pub invariant-loop-i : goal.invariant-loop-i
invariant-loop-i l =
    (l.i ≤ 12) × (l.n ≤ l.i + 1) × (steps_to (record { value = record { at = l.initial.at; n = l.initial.n }; stream = l.initial.stream }) l.i ≡ record { value = record { at = l.at; n = l.n }; stream = l.stream })
