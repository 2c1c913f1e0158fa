-- The first beat and those of the loop so far are thinned. Assumes nothing.
use Rattle.std.proofs.Common.{◌≡◌, not, ◌+◌, ◌-◌, length, get_or, take, drop, arith, length-take, length-drop}
use Rattle.std.proofs.lemmas.Grind.{common_steps}
use Rattle.std.specs.Float.{nan}
use Rattle.laws.specs.Lists.{pad}
use Rattle.laws.proofs.Bools.{bit_few}
use Rattle.composer.specs.Lead.Beats.{thin_of}
use Rattle.composer.proofs.lead.BeatsLaws.{written_full, written_rest, thin_first, thin_on}
use Rattle.composer.proofs.lead.beats.thinned.Goals as goal

pub returns-then-n-eq0-clause-value : goal.returns-then-n-eq0-clause-value
unfolding thin_of pad
returns-then-n-eq0-clause-value c = rw c.if-n-eq0.true

pub loop-x-init : goal.loop-x-init
loop-x-init c = record { some = omega arith; few = omega arith; kept = thin_first c.args.a.now (omega arith) }

pub loop-x-preserved : goal.loop-x-preserved
loop-x-preserved c =
    let l = c.loop-x in
    let a = c.args.a.now in
    let next : get_or (take (c.args.n - 1) (drop 1 a)) l.x-index nan ≡ get_or a (l.x-index + 1) nan = grind (arith, common_steps) in
    let size : length (take (c.args.n - 1) (drop 1 a)) ≡ c.args.n - 1 = omega (arith, length-take (c.args.n - 1) (drop 1 a), length-drop 1 a) in
    record {
      some = omega arith;
      few = omega (arith, bit_few (not c.near-far.result));
      kept = rw next (thin_on a l.at (l.x-index + 1) l.m (omega arith) (omega arith) (omega arith) l.invariant.kept c.near-far.result (rw next at c.near-far.ensures));
    }

pub returns-then-m-eq7-clause-value : goal.returns-then-m-eq7-clause-value
returns-then-m-eq7-clause-value c =
    let l = c.loop-x in
    let a = c.args.a.now in
    let all : l.x-index + 1 ≡ c.args.n = omega (arith, length-take (c.args.n - 1) (drop 1 a), length-drop 1 a) in
    rw (← all) (written_full (thin_of nan (take (l.x-index + 1) a)) l.at l.m l.invariant.kept c.if-m-eq7.true)

pub returns-clause-value : goal.returns-clause-value
returns-clause-value c =
    let l = c.loop-x in
    let a = c.args.a.now in
    let all : l.x-index + 1 ≡ c.args.n = omega (arith, length-take (c.args.n - 1) (drop 1 a), length-drop 1 a) in
    rw (← all) (written_rest (thin_of nan (take (l.x-index + 1) a)) l.at l.m l.invariant.kept)
