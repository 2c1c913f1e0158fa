-- All bars so far stand before the padding, whichever loop makes them. Assumes nothing.
use Rattle.std.proofs.Common.{◌≡◌, ◌+◌, ◌*◌}
use Rattle.composer.specs.Form.Song.{song_plays_of}
use Rattle.composer.proofs.form.song.song_plays.Given as goal

abbrev pub invariant-loop-p : goal.invariant-loop-p
invariant-loop-p l = l.out ≡ song_plays_of l.d l.n (l.n + 8 * l.p)

abbrev pub invariant-loop-i : goal.invariant-loop-i
invariant-loop-i l = l.out ≡ song_plays_of l.d l.n (l.first + l.i)

abbrev pub invariant-loop-b : goal.invariant-loop-b
invariant-loop-b l = l.out ≡ song_plays_of l.d l.n l.b
