-- What is left to try from a step on is the answer, and the loop stops at the first that comes. Assumes nothing.
use mathlib.Core.Path.{◌≡◌, sym, ap, ◌∙◌}
use borrow.Author.Rules.{rules}
use native.Mathlib.Omega.{arith}
use Rattle.composer.specs.Bass.Rhythm.{root_step_of}
use Rattle.composer.proofs.bass.RhythmLaws.{root_hit, root_miss, root_last}
use Rattle.composer.proofs.bass.rhythm.root_step.Goals as goal

pub returns-then-c : goal.returns-then-c
unfolding root_step_of
returns-then-c c =
    let l = c.loop-step in
    let hit = root_hit l.stream l.left l.step (omega arith) (ap (λ r. r.value) (sym c.chance-c.ensures) ∙ c.if-c.true) in
    record { value = rw (c.chance-c.ensures, ← c.first_beat_sum-left.ensures) (sym hit ∙ l.invariant.1); step_bound = omega arith }

pub loop-step-preserved : goal.loop-step-preserved
loop-step-preserved c =
    let l = c.loop-step in
    let miss = root_miss l.stream l.left l.step (omega arith) (ap (λ r. r.value) (sym c.chance-c.ensures) ∙ c.if-c.false) in
    (omega arith, rw c.chance-c.ensures (sym miss ∙ l.invariant.1))

pub returns : goal.returns
unfolding root_step_of
returns c =
    let l = c.loop-step in
    let last = root_last l.stream l.left l.step (omega arith) in
    let three : c.map.result ≡ record { value = 3; stream = c.chance.result.stream } = search rules in
    record { value = rw (three, c.chance.ensures, ← c.first_beat_sum-left.ensures) (sym last ∙ l.invariant.1); step_bound = rw three (omega arith) }
