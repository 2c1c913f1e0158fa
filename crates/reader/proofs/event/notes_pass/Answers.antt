-- One by one, to the first that fails; a note of either edition's width has room. Assumes nothing.
use mathlib.Core.Path.{refl, ap, ◌∙◌}
use Prim.Native.Nat.{◌+◌, ◌*◌}
use native.Mathlib.Omega.{arith}
use borrow.Author.Tests.{tests}
use Rattle.std.proofs.Common.{rules}
use Rattle.std.proofs.iter.Serving.{serving}
use Rattle.std.proofs.lemmas.Iterator.{YieldsList-from_range, serves_from_Range}
use Rattle.std.proofs.lemmas.Iterator.Search.{all_from_yields_List}
use Rattle.pages.specs.Edition.{note_width}
use Rattle.reader.specs.Layout.{edition_in, body_at}
use Rattle.reader.specs.Song.{note_at}
use Rattle.reader.specs.Tests.{all_to}
use Rattle.reader.specs.Within.{note_within}
use Rattle.reader.proofs.LoopLaws.{all_in_range}
use Rattle.reader.proofs.WidthLaws.{width_fits}
use Rattle.reader.proofs.event.notes_pass.Goals as goal

pub all-requires-clause-callable : goal.all-requires-clause-callable
all-requires-clause-callable c =
    let f = c.args.formed.now in
    let room = f.roomy.notes c.args.k c.requires in
    serves_from_Range (λ i q r. search rules) (λ i lo hi. let fits = width_fits f.fields.edition i c.notes.result hi in grind serving)

pub returns : goal.returns
returns c =
    let k = c.args.k in
    let b = c.args.formed.now.fields.bytes.now in
    let e = edition_in b in
    all_from_yields_List (λ i. note_within e c.args.leads (note_at e c.args.leads b (body_at b k + note_width e * i))) _ _ _ c.all.ensures.ran (YieldsList-from_range 0 c.notes.result c.notes.result refl (omega arith)) (λ x b q k. search (rules, tests))
    ∙ all_in_range _ c.notes.result
    ∙ ap (all_to _) c.notes.ensures
