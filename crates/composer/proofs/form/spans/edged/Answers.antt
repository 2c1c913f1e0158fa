-- Each call is its definition. Assumes nothing.
use Rattle.composer.specs.Form.Spans.{edged_of}
use Rattle.composer.proofs.form.spans.edged.Goals as goal

pub returns : goal.returns
unfolding edged_of
returns c = rw (c.edged-2.ensures, c.edged.ensures)
