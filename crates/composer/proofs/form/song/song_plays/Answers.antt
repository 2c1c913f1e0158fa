-- All bars so far stand before the padding, whichever loop makes them. Assumes nothing.
use Rattle.std.proofs.Common.{◌≡◌, refl, ap, ◌∙◌, ◌+◌, ◌*◌, length, take, replicate, arith, length-take}
use Rattle.laws.proofs.Lists.{pad_on}
use Rattle.composer.specs.Form.Plays.{silent}
use Rattle.composer.specs.Form.Body.{phrase_bar_of}
use Rattle.composer.specs.Form.Song.{song_bar_of}
use Rattle.composer.specs.declared.form.body.Phrase.{Phrase}
use Rattle.composer.proofs.form.SongLaws.{intro_stands, in_phrase, in_outro}
use Rattle.composer.proofs.form.song.song_plays.Goals as goal

pub loop-p-init : goal.loop-p-init
loop-p-init c =
    let n = c.args.n in
    let size : length (take n (replicate 64 silent)) ≡ n = omega (arith, length-take n (replicate 64 silent)) in
    let is = rw size at c.fill.ensures.after (λ y e. e) in
    let none : n + 0 ≡ n = omega arith in
    rw (is, c.intro_plays-intro.ensures, none) (intro_stands c.args.d n (omega arith))

pub loop-i-preserved : goal.loop-i-preserved
loop-i-preserved c =
    let l = c.loop-i in
    let b = c.args.n + 8 * c.loop-p.p + l.i in
    let bar = c.phrase_bar.ensures ∙ ap (λ (h : Phrase). phrase_bar_of h l.i) c.phrase_of-phrase.ensures ∙ in_phrase c.args.d c.args.n c.loop-p.p l.i b (omega arith) (omega arith) refl in
    let next : c.args.n + 8 * c.loop-p.p + (l.i + 1) ≡ b + 1 = omega arith in
    rw (l.invariant, bar, next) (pad_on (song_bar_of c.args.d c.args.n) silent 64 b (omega arith))

pub loop-b-preserved : goal.loop-b-preserved
loop-b-preserved c =
    let l = c.loop-b in
    rw (l.invariant, c.outro_plays.ensures, in_outro c.args.d c.args.n l.b (omega arith)) (pad_on (song_bar_of c.args.d c.args.n) silent 64 l.b (omega arith))
