-- The test is that of the definition, and each call is its definition. Assumes nothing.
use mathlib.Core.Path.{sym, ◌∙◌}
use native.Mathlib.Omega.{arith}
use Rattle.composer.specs.Form.Ask.{beatless_form, beatless_of}
use Rattle.composer.proofs.form.AskLaws.{sound_is}
use Rattle.composer.proofs.form.ask.beatless.Goals as goal

pub returns-then-not-sound : goal.returns-then-not-sound
unfolding beatless_of
returns-then-not-sound c = let e = sym c.is_sound-sound.ensures ∙ c.if-not-sound.true in rw e

pub fill-requires : goal.fill-requires
fill-requires c =
    let e = sym c.is_sound-sound.ensures ∙ c.if-not-sound.false in
    omega (arith, (sound_is _ e).1, c.body_bars-body.ensures, c.intro_bars-n.ensures)

pub returns : goal.returns
unfolding beatless_form beatless_of
returns c =
    let e = sym c.is_sound-sound.ensures ∙ c.if-not-sound.false in
    rw (e, c.fill.ensures, c.plain-2.ensures, c.plain.ensures, c.body_bars-body.ensures, c.intro_bars-n.ensures)
