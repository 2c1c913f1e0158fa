-- A turn writes one event more of the run. Assumes nothing.
use mathlib.Core.List.{map}
use mathlib.Core.Path.{◌≡◌, refl, ap}
use Prim.Native.Nat.{ℕ, ◌-◌, ◌*◌}
use native.Mathlib.Nat.{mul-zero}
use native.Mathlib.Omega.{arith}
use lib.ListN.{length, take, drop, length-drop}
use lib.Seq.{take_all, length-take-le}
use Rattle.std.proofs.lemmas.List.{drop-map, take-map}
use Rattle.std.proofs.lemmas.List.Elements.{All-take, All-drop}
use Rattle.laws.specs.Lists.{joined}
use Rattle.laws.proofs.Writes.{wrote_none, wrote_as}
use Rattle.pages.specs.Lane.{run_of}
use Rattle.pages.proofs.LaneLaws.{event_wrote}
use Rattle.pages.proofs.lane.put_each.Goals as goal

pub loop-e-init : goal.loop-e-init
unfolding joined
loop-e-init g c = rw (mul-zero (g.E.Event.width c.args.edition)) (wrote_none c.args.buf.now c.args.at (omega (arith, c.requires.room)))

pub put-o-requires-clause-finite : goal.put-o-requires-clause-finite
put-o-requires-clause-finite g c =
    let P = g.E.Event.Finite in
    let run = c.args.run in
    let each = All-take P (run.to - run.from) _ (All-drop P run.from _ c.requires.finite) in
    rw c.e-item.is (each c.loop-e.e-index c.e-item.result (omega arith))

pub loop-e-preserved : goal.loop-e-preserved
loop-e-preserved g c =
    event_wrote (g.E.Event.bytes c.args.edition) (g.E.Event.width c.args.edition) (run_of c.args.run c.args.events.now) c.loop-e.e-index c.e-item.result (omega arith) c.e-item.is
    c.loop-e.invariant c.put-o.ensures

pub returns : goal.returns
returns g c =
    let run = c.args.run in
    let events = run_of run c.args.events.now in
    let long : length events ≡ run.to - run.from = length-take-le (run.to - run.from) (drop run.from c.args.events.now) (omega (arith, length-drop run.from c.args.events.now, c.requires.within)) in
    let all : c.loop-e.e-index ≡ run.to - run.from = omega arith in
    let same : map (g.E.Event.bytes c.args.edition) (take c.loop-e.e-index events) ≡ run_of run (map (g.E.Event.bytes c.args.edition) c.args.events.now) =
    rw (drop-map, take-map, take_all c.loop-e.e-index events (omega arith)) refl in
    wrote_as (ap (λ (n : ℕ). g.E.Event.width c.args.edition * n) all) (ap joined same) c.loop-e.invariant
