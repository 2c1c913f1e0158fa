-- The two tests are those of the definition, in its order. Assumes nothing.
use mathlib.Core.Path.{sym, ◌∙◌}
use native.Mathlib.Omega.{arith}
use borrow.Author.Tests.{le-leb, lt-leb}
use Rattle.composer.specs.Form.Ask.{plays_of}
use Rattle.composer.proofs.form.AskLaws.{sound_bars}
use Rattle.composer.proofs.form.ask.plays.Goals as goal

pub returns-then-not-sound : goal.returns-then-not-sound
unfolding plays_of
returns-then-not-sound c = let e = sym c.is_sound-sound.ensures ∙ c.if-not-sound.true in rw e

pub returns-then-n-bar : goal.returns-then-n-bar
unfolding plays_of
returns-then-n-bar c =
    let e = sym c.is_sound-sound.ensures ∙ c.if-not-sound.false in
    rw (e, le-leb _ _ c.if-n-bar.true)

pub bounds-f-bar : goal.bounds-f-bar
bounds-f-bar c =
    let e = sym c.is_sound-sound.ensures ∙ c.if-not-sound.false in
    omega (arith, sound_bars _ e)

pub returns : goal.returns
unfolding plays_of
returns c =
    let e = sym c.is_sound-sound.ensures ∙ c.if-not-sound.false in
    rw (e, lt-leb _ _ c.if-n-bar.false)
