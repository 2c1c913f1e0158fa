-- The same expression. Assumes nothing.
use mathlib.Core.Path.{refl}
use Rattle.composer.specs.Form.Body.{phrase_bar_of}
use Rattle.composer.proofs.form.body.phrase_bar.Goals as goal

pub returns : goal.returns
unfolding phrase_bar_of
returns c = refl
