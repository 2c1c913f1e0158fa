-- The test of the thinning is its definition; the rest is the same expression. Assumes nothing.
use Rattle.composer.specs.Form.Body.{cut_heard}
use Rattle.composer.proofs.form.BodyLaws.{break_test}
use Rattle.composer.proofs.form.body.cut_heard.Goals as goal

pub returns : goal.returns
unfolding cut_heard
returns c =
    rw (c.eq.ensures, break_test, c.requires.1)
