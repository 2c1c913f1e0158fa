-- The sum of the parts is at most 8 + 2040 + 8, so u16 holds it. Assumes nothing.
use Rattle.composer.specs.Form.Ask.{sound_of}
use Rattle.composer.proofs.form.ask.is_sound.Goals as goal

pub returns : goal.returns
unfolding sound_of
returns c = rw (c.outro_bars-outro.ensures, c.body_bars-body.ensures, c.intro_bars-intro.ensures)
