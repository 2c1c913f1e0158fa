-- The chords read so far, over chords of zeros. Assumes nothing.
use mathlib.Core.Path.{◌≡◌}
use Prim.Native.Nat.{◌+◌, ◌*◌}
use Rattle.laws.specs.Lists.{pad, list_to}
use Rattle.composer.specs.Chord.{no_chord}
use Rattle.reader.specs.Song.{chord_from}
use Rattle.reader.proofs.song.chords_from.Given as goal

abbrev pub invariant-loop-b : goal.invariant-loop-b
invariant-loop-b l = l.out ≡ pad no_chord 8 (list_to (λ k. chord_from l.bytes (l.at + 4 * k)) l.b)
