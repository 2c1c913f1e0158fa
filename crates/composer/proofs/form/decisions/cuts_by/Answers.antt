-- Each call is its definition. Assumes nothing.
use Rattle.composer.specs.Form.Decisions.{cuts_by}
use Rattle.composer.proofs.form.decisions.cuts_by.Goals as goal

pub returns : goal.returns
unfolding cuts_by
returns c =
    rw (c.cut_of-f.ensures, c.cut_of-e.ensures, c.cut_of-d.ensures, c.cut_of-c.ensures, c.cut_of-b.ensures, c.cut_of-a.ensures)
