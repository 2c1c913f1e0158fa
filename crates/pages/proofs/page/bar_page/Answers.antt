-- A refusal of the composer is passed on, and a song has its page. Assumes nothing.
use mathlib.Core.Path.{sym}
use Rattle.std.proofs.lemmas.Result.{IfOk-at_ok, err_from_is_err_and}
use Rattle.composer.specs.Promise.{ScorePromise}
use Rattle.composer.specs.declared.compose.Composed.{Composed}
use Rattle.composer.proofs.ComposeLaws.{done_promise, events_promise}
use Rattle.pages.specs.Page.{page_asked}
use Rattle.pages.proofs.WritableLaws.{paged}
use Rattle.pages.proofs.page.bar_page.Goals as goal

pub page_of-requires : goal.page_of-requires
page_of-requires c =
    let promise = IfOk-at_ok (λ (x : Composed). ScorePromise x.score.style x.score x.scale) (sym c.in_ok-song.ensures) (done_promise c.args.style c.args.seed) in
    record { paged = paged c.in_ok-song.song.score (events_promise promise); chorded = promise.range.chord_size }

pub returns-in_err-song : goal.returns-in_err-song
unfolding page_asked
returns-in_err-song c =
    let p = err_from_is_err_and c.from_residual.result c.from_residual.ensures.1 in
    record { value = rw (p.1, p.2, ← c.in_err-song.ensures); buf_after = rw (← c.in_err-song.ensures) }

pub returns : goal.returns
unfolding page_asked
returns c = rw (← c.in_ok-song.ensures, ← c.arrange.ensures) c.page_of.ensures
