-- A song that is not refused has what its sheet asks for, by the promises of compose and arrange. Assumes nothing.
use Rattle.std.proofs.lemmas.Result.{IfOk-at_ok}
use Rattle.composer.specs.Promise.{ScorePromise}
use Rattle.composer.specs.declared.compose.Composed.{Composed}
use Rattle.composer.proofs.ComposeLaws.{events_promise}
use Rattle.composer.proofs.form.Arranged.{arranged_promise}
use Rattle.pages.proofs.WritableLaws.{writable}
use Rattle.pages.proofs.sheet.composed_into.Goals as goal

pub sheet_into-requires : goal.sheet_into-requires
sheet_into-requires c =
    let song = c.in_ok-known.known in
    let promise = IfOk-at_ok (λ (x : Composed). ScorePromise x.score.style x.score x.scale) c.in_ok-known.was c.requires in
    rw c.arrange.ensures (record { writable = writable song.score (events_promise promise); chorded = promise.range.chord_size; capacities = (promise.scale_most, (arranged_promise c.args.seed).most) })
