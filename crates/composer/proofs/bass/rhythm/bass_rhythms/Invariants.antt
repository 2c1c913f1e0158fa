-- The bars so far have their rhythms. Assumes nothing.
use Rattle.std.proofs.Common.{◌≡◌}
use Rattle.composer.specs.Bass.Rhythm.{rhythms_to}
use Rattle.composer.proofs.bass.rhythm.bass_rhythms.Given as goal

abbrev pub invariant-loop-bar : goal.invariant-loop-bar
invariant-loop-bar l = rhythms_to (record { value = l.initial.bar-items; stream = l.initial.stream }) l.bar-index ≡ record { value = l.bar-items; stream = l.stream }
