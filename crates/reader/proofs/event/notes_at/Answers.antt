-- What passes together passes one by one. Assumes nothing.
use Prim.Native.Nat.{◌+◌, ◌*◌}
use native.Mathlib.Omega.{arith}
use Rattle.pages.specs.Edition.{note_width}
use Rattle.reader.specs.Layout.{edition_in, body_at}
use Rattle.reader.specs.Song.{note_at, note_count_in}
use Rattle.reader.specs.Within.{note_within}
use Rattle.reader.proofs.TestLaws.{all_to_at}
use Rattle.reader.proofs.event.notes_at.Goals as goal

pub note_at-requires-clause-within : goal.note_at-requires-clause-within
note_at-requires-clause-within g c =
    let f = c.args.formed.now.fields in
    let b = f.bytes.now in
    let k = c.args.k in
    let e = edition_in b in
    rw (c.body-at.ensures, c.note_width-width.ensures, f.edition_is) (all_to_at (λ i. note_within e c.args.leads (note_at e c.args.leads b (body_at b k + note_width e * i))) (note_count_in b k) c.requires.pass c.loop-i.i (omega arith))
