-- The size by the runs is this very page's length, which decides between refusal 2 and the page. Assumes nothing.
use mathlib.Core.Path.{refl, sym, ◌∙◌}
use native.Mathlib.Omega.{arith}
use borrow.Author.Tests.{ltb-true}
use Rattle.laws.proofs.Writes.{wrote_as}
use Rattle.composer.specs.Form.{loop_bar_of}
use Rattle.pages.specs.Hits.{page_hits}
use Rattle.pages.specs.Inner.Hits.{run_hits}
use Rattle.pages.specs.Page.{page_bytes}
use Rattle.pages.proofs.AnswerLaws.{refused, served}
use Rattle.pages.proofs.PageLaws.{page_length, drawn_bytes, size_is, bytes_is}
use Rattle.pages.proofs.paged.PagedSong.page_into.Goals as goal

pub returns-then-buf-size : goal.returns-then-buf-size
returns-then-buf-size c =
    let song = c.args.self.now in
    let s = song.score.now in
    let f = song.form.now in
    let size = size_is s song.paged.lanes c.args.p f c.args.bar c.loop_bar-looped.ensures.value c.runs_in-runs.ensures.value c.heard_runs-hits.ensures.value c.size.ensures in
    let hits = page_hits s f c.args.bar in
    let all = refused c.args.buf.now (page_bytes s c.args.p (loop_bar_of f c.args.bar) hits)
    (omega (arith, ltb-true, size, page_length s song.chorded c.args.p (loop_bar_of f c.args.bar) hits (omega arith))) in
    record { value = all.0; buf_after = all.1 }

pub returns : goal.returns
returns c =
    let song = c.args.self.now in
    let s = song.score.now in
    let lanes = song.paged.lanes in
    let runs = c.runs_in-runs.ensures.value in
    let drawn = drawn_bytes s lanes c.args.p c.loop_bar-looped.result runs (run_hits s c.heard_runs-hits.result) in
    let bytes = bytes_is s lanes c.args.p song.form.now c.args.bar c.loop_bar-looped.ensures.value runs c.heard_runs-hits.ensures.value in
    let all = served (wrote_as refl (sym drawn ∙ bytes) c.put.ensures) in
    record { value = all.0; buf_after = all.1 }
