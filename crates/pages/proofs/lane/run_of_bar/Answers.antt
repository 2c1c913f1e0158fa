-- Each end is the place where later bars begin, and so counts the events before it. Assumes nothing.
use Rattle.std.proofs.Common.{refl, ◌+◌, leb, ltb, rules}
use Rattle.std.proofs.lemmas.List.Sorted.{IsPartitionPoint-from_clause, IsPartitionedBy-leb, IsPartitionedBy-ltb}
use Rattle.pages.proofs.LaneLaws.{ltb_next, bars_before}
use Rattle.pages.proofs.lane.run_of_bar.Goals as goal

pub returns : goal.returns
returns g c =
    let f = g.E.Event.bar_of in
    let es = c.args.events.now in
    let bar = c.args.bar in
    let below = IsPartitionPoint-from_clause (λ e. ltb (f e) bar) es _ c.partition_point.ensures.partitioned (IsPartitionedBy-ltb f es bar c.requires) (λ a r q k. search rules) in
    let upto = IsPartitionPoint-from_clause (λ e. leb (f e) bar) es _ c.partition_point-2.ensures.partitioned (IsPartitionedBy-leb f es bar c.requires) (λ a r q k. search rules) in
    let from = bars_before f (λ e. ltb (f e) bar) bar (λ e. refl) es _ c.partition_point.ensures.bound below in
    let to = bars_before f (λ e. leb (f e) bar) (bar + 1) (λ e. ltb_next (f e) bar) es _ c.partition_point-2.ensures.bound upto in
    rw (from, to) refl
