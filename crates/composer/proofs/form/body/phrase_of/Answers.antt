-- Each call is its definition; the rest is the same expression. Assumes nothing.
use Rattle.composer.specs.Form.Body.{phrase_of}
use Rattle.composer.proofs.form.BodyLaws.{break_test}
use Rattle.composer.proofs.form.body.phrase_of.Goals as goal

pub returns : goal.returns
unfolding phrase_of
returns c =
    rw (c.cut_heard-heard.ensures, c.takes_bass-low.ensures, c.eq-breaks.ensures, break_test, c.requires.2)
