-- The tests on the way lead to the note that the definition has. Assumes nothing.
use borrow.Author.Tests.{eq-eqb, ne_eqb}
use Rattle.composer.specs.Bass.Line.{note_drawn_of}
use Rattle.composer.proofs.bass.line.note_drawn.Goals as goal

pub returns-then-i-eq0 : goal.returns-then-i-eq0
unfolding note_drawn_of
returns-then-i-eq0 c = rw (eq-eqb _ 0 c.if-i-eq0.true) c.root_note.ensures

pub returns-then-pickup-p : goal.returns-then-pickup-p
unfolding note_drawn_of
returns-then-pickup-p c =
    rw (ne_eqb _ 0 c.if-i-eq0.false, ← c.pickup_drawn-pickup.ensures, c.if-pickup-p.true) c.pickup_note.ensures

pub returns-else-pickup-p : goal.returns-else-pickup-p
unfolding note_drawn_of
returns-else-pickup-p c =
    rw (ne_eqb _ 0 c.if-i-eq0.false, ← c.pickup_drawn-pickup.ensures, c.if-pickup-p.false) c.later_note.ensures
