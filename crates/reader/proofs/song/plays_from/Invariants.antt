-- The bars read so far, over silence. Assumes nothing.
use mathlib.Core.Path.{◌≡◌}
use Rattle.laws.specs.Lists.{pad}
use Rattle.composer.specs.Form.Plays.{silent}
use Rattle.reader.specs.Song.{plays_from}
use Rattle.reader.proofs.song.plays_from.Given as goal

abbrev pub invariant-loop-b : goal.invariant-loop-b
invariant-loop-b l = l.out ≡ pad silent 64 (plays_from l.bytes l.at l.b)
