-- Either branch is the definition's. Assumes nothing.
use mathlib.Core.Path.{sym, ◌∙◌}
use Rattle.composer.specs.Bass.Line.{pickup_drawn_of}
use Rattle.composer.proofs.bass.line.pickup_drawn.Goals as goal

pub returns-then-ends_late : goal.returns-then-ends_late
unfolding pickup_drawn_of
returns-then-ends_late c = rw (sym c.ends_late.ensures ∙ c.if-ends_late.true) c.draw.ensures

pub returns-else-ends_late : goal.returns-else-ends_late
unfolding pickup_drawn_of
returns-else-ends_late c = rw (sym c.ends_late.ensures ∙ c.if-ends_late.false)
