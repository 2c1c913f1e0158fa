-- The test decides whether the head has one note more. Assumes nothing.
use mathlib.Core.Path.{sym, ◌∙◌}
use Rattle.composer.specs.Lead.Line.{carried_of}
use Rattle.composer.proofs.lead.line.carried.Goals as goal

pub returns-then-opens_line : goal.returns-then-opens_line
unfolding carried_of
returns-then-opens_line c = rw (sym c.opens_line.ensures ∙ c.if-opens_line.true)

pub returns-else-opens_line : goal.returns-else-opens_line
unfolding carried_of
returns-else-opens_line c = rw (sym c.opens_line.ensures ∙ c.if-opens_line.false)
