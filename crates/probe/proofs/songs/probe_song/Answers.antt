-- A song that is not refused has what its sums ask for, by the promises of compose and arrange. Assumes nothing.
use mathlib.Core.Path.{sym}
use Rattle.std.proofs.lemmas.Result.{IfOk-at_ok}
use Rattle.composer.specs.Promise.{ScorePromise}
use Rattle.composer.specs.declared.compose.Composed.{Composed}
use Rattle.composer.proofs.ComposeLaws.{done_promise, events_promise}
use Rattle.composer.proofs.form.Arranged.{arranged_promise}
use Rattle.probe.proofs.songs.probe_song.Goals as goal

pub score_sum-requires : goal.score_sum-requires
score_sum-requires c =
    events_promise (IfOk-at_ok (λ (x : Composed). ScorePromise x.score.style x.score x.scale) (sym c.in-Ok.ensures) (done_promise c.args.style c.args.seed))

pub form_sum-requires : goal.form_sum-requires
form_sum-requires c = rw c.arrange.ensures (arranged_promise c.args.seed).most
