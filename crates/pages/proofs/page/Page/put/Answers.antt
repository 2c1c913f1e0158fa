-- The six fields, one after another; each run is that of the bar's notes. Assumes nothing.
use mathlib.Core.Path.{refl}
use native.Mathlib.Omega.{arith}
use Rattle.laws.proofs.Writes.{wrote_then, wrote_as}
use Rattle.pages.specs.Inner.Hits.{run_hits}
use Rattle.pages.specs.Page.{runs_bytes}
use Rattle.pages.proofs.PageLaws.{drawn_size, drawn_bytes}
use Rattle.pages.proofs.page.Page.put.Goals as goal

pub returns : goal.returns
unfolding runs_bytes
returns c =
    let page = c.args.self.now in
    let s = page.score.now in
    wrote_as (drawn_size s page.paged.lanes page.plays page.bar page.runs_drawn page.hits.count) (drawn_bytes s page.paged.lanes page.plays page.bar page.runs_drawn (run_hits s page.hits))
    (wrote_as (omega arith) refl
    (wrote_then c.put_edition-z.ensures (wrote_then c.put_chord-a.ensures (wrote_then c.put_run-b.ensures (wrote_then c.put_run-c.ensures (wrote_then c.put_hits-d.ensures c.put_run.ensures))))))
