-- Each bar so far is its degree voiced, over an array of none. Assumes nothing.
use Rattle.std.proofs.Common.{◌≡◌, map, take}
use Rattle.laws.specs.Lists.{pad}
use Rattle.composer.specs.Chord.{no_chord}
use Rattle.composer.specs.Harmony.{chord_in}
use Rattle.composer.proofs.harmony.chords.Given as goal

abbrev pub invariant-loop-k : goal.invariant-loop-k
invariant-loop-k l = l.out ≡ pad no_chord 8 (map (chord_in l.key) (take l.k l.d-items))
