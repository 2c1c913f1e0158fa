-- Each arm is its clause. Assumes nothing.
use Rattle.composer.proofs.form.ends.Outro.plain.Goals as goal

pub returns-in-Ends : goal.returns-in-Ends
returns-in-Ends c = rw (c.in-Ends.is, c.plain.ensures)
