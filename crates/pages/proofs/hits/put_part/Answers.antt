-- A turn writes one hit more, if it is in the part. Assumes nothing.
use mathlib.Core.Path.{sym, ◌∙◌}
use Prim.Native.Nat.{◌+◌, ◌*◌, ◌≤◌}
use native.Mathlib.Omega.{arith}
use lib.ListN.{length}
use Rattle.laws.specs.Lists.{joined, filter_of}
use Rattle.laws.proofs.Writes.{wrote_none}
use Rattle.pages.specs.Inner.Hits.{in_part}
use Rattle.pages.specs.Lane.{run_of}
use Rattle.pages.proofs.HitsLaws.{passed_no, passed_room, passed_wrote}
use Rattle.pages.proofs.hits.put_part.Goals as goal
use Rattle.pages.proofs.hits.put_part.Goals.{then-in_part, else-in_part}

pub loop-h-init : goal.loop-h-init
unfolding filter_of joined
loop-h-init c = wrote_none c.args.buf.now c.args.at (omega arith)

pub put-o-requires-clause-room : goal.put-o-requires-clause-room
put-o-requires-clause-room c =
    let test = in_part c.args.part c.beat_s_of-beat_s.result in
    let hits = run_of c.args.run c.args.s.now.hits.at in
    let most : c.args.at + 10 * length (filter_of test hits) ≤ length c.args.buf.now = rw c.beat_s_of-beat_s.ensures c.requires.room in
    omega (arith, c.loop-h.invariant.next, passed_room test hits c.loop-h.h-index _ (omega arith) (sym c.in_part.ensures ∙ c.if-in_part.true))

pub loop-h-preserved : goal.loop-h-preserved
loop-h-preserved c =
    let test = in_part c.args.part c.beat_s_of-beat_s.result in
    let hits = run_of c.args.run c.args.s.now.hits.at in
    let i = c.loop-h.h-index in
    elim c.if-in_part.branch [
      | then-in_part w ↦ rw (w.buf-is, w.o-is) (passed_wrote test hits i _ (omega arith) (sym c.in_part.ensures ∙ w.if-in_part.true) c.loop-h.invariant w.put-o.ensures)
      | else-in_part w ↦ rw (w.buf-is, w.o-is, passed_no test hits i _ (omega arith) (sym c.in_part.ensures ∙ w.if-in_part.false)) c.loop-h.invariant
    ]
