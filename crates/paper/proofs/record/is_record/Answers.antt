-- The first test decides, or else the second. Assumes nothing.
use borrow.Author.Tests.{eq-eqb, ne_eqb}
use lib.ListN.{length}
use Rattle.paper.proofs.record.is_record.Goals as goal

pub returns-then-input-eq8 : goal.returns-then-input-eq8
returns-then-input-eq8 c = rw (eq-eqb (length c.args.input.now) 8 c.if-input-eq8.true)

pub returns-else-input-eq8 : goal.returns-else-input-eq8
returns-else-input-eq8 c = rw (ne_eqb (length c.args.input.now) 8 c.if-input-eq8.false)
