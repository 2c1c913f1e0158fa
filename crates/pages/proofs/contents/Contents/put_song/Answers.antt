-- The four fields, one after the other. Assumes nothing.
use mathlib.Core.Path.{refl}
use native.Mathlib.Omega.{arith}
use Rattle.laws.proofs.Writes.{wrote_then, wrote_as}
use Rattle.pages.specs.Sheet.{song_bytes}
use Rattle.pages.proofs.contents.Contents.put_song.Goals as goal

pub returns : goal.returns
unfolding song_bytes
returns c =
    wrote_as (omega arith) refl (wrote_then c.put_name-a.ensures (wrote_then c.put_tempo-b.ensures (wrote_then c.put_chords-c.ensures c.put_scale.ensures)))
