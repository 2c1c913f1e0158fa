-- Each arm is its clause. Assumes nothing.
use Rattle.composer.proofs.form.ends.End.plain.Goals as goal

pub returns-in-Plain : goal.returns-in-Plain
returns-in-Plain c = rw c.in-Plain.is

pub returns-in-Edged : goal.returns-in-Edged
returns-in-Edged c = rw c.in-Edged.is
