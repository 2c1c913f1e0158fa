-- The tests are those of the definition, and the pick is below the count. Assumes nothing.
use Prim.Native.Nat.{◌<◌}
use native.Mathlib.Omega.{arith}
use borrow.Author.Tests.{eq-eqb}
use Rattle.streams.proofs.DrawLaws.{pick_lt}
use Rattle.composer.specs.Lead.Answer.{drop_one_of}
use borrow.Author.Rules.{rules}
use Rattle.composer.proofs.lead.answer.drop_one.Goals as goal

pub returns-then-beats-eq0 : goal.returns-then-beats-eq0
unfolding drop_one_of
returns-then-beats-eq0 c = record { value = rw (eq-eqb _ _ c.if-beats-eq0.true); n_bound = search rules }

pub map-requires : goal.map-requires
map-requires c =
    let n = c.args.d.value.n in
    let below : c.pick.result.value < n = rw c.pick.ensures (pick_lt _ n (omega arith)) in
    search (rules, below)

pub returns-then-drops : goal.returns-then-drops
unfolding drop_one_of
returns-then-drops c = search rules

pub returns-else-drops : goal.returns-else-drops
unfolding drop_one_of
returns-else-drops c = search rules
