-- The head, then the classes in use, which are as many as the head says. Assumes nothing.
use mathlib.Core.Path.{◌≡◌}
use native.Mathlib.Omega.{arith}
use lib.ListN.{length}
use lib.Seq.{length-take-le}
use Rattle.laws.proofs.Writes.{wrote_then, wrote_as}
use Rattle.pages.specs.Bytes.{field}
use borrow.Author.Rules.{rules}
use Rattle.pages.proofs.contents.put_scale.Goals as goal

pub returns : goal.returns
unfolding field
returns c =
    let a = c.args.scale in
    let good = c.well_formed.1.1.0 in
    let k : length a.pcs ≡ 6 = search rules in
    let e = length-take-le a.n a.pcs (omega arith) in
    wrote_as (omega arith) (rw e) (wrote_then c.put_head-a.ensures c.put_bytes.ensures)
