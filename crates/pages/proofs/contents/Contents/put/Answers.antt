-- The edition's field, what a song is before its events, its lanes, its form. Assumes nothing.
use mathlib.Core.Path.{refl}
use native.Mathlib.Omega.{arith}
use Rattle.laws.proofs.Writes.{wrote_then, wrote_as}
use Rattle.pages.specs.Sheet.{sheet_bytes}
use Rattle.pages.proofs.contents.Contents.put.Goals as goal

pub returns : goal.returns
unfolding sheet_bytes
returns c =
    wrote_as (omega arith) refl (wrote_then c.put_edition-z.ensures (wrote_then c.put_song-a.ensures (wrote_then c.put_lanes-b.ensures c.put_form.ensures)))
