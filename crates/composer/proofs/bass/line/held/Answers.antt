-- The lesser of the two is taken. Assumes nothing.
use Rattle.composer.specs.Bass.Line.{held_of}
use Rattle.composer.proofs.bass.line.held.Goals as goal

pub returns-then-a-b : goal.returns-then-a-b
unfolding held_of
returns-then-a-b c = rw c.if-a-b.true

pub returns-else-a-b : goal.returns-else-a-b
unfolding held_of
returns-else-a-b c = rw c.if-a-b.false
