-- The head, then both parts, whose bytes are as many as the head says. Assumes nothing.
use native.Mathlib.Omega.{arith}
use Rattle.laws.proofs.Writes.{wrote_then, wrote_as}
use Rattle.pages.proofs.HitsLaws.{parts_count, parts_field}
use Rattle.pages.proofs.page.Page.put_hits.Goals as goal

pub returns : goal.returns
returns c =
    let page = c.args.self.now in
    wrote_as (omega (arith, parts_count page.score.now page.hits page.hits_within)) (parts_field page.score.now page.hits page.hits_within)
    (wrote_then c.put_head-a.ensures (wrote_then c.put_part-b.ensures c.put_part.ensures))
