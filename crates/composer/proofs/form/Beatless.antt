-- A form without its beat keeps its parts, so every bar is found, and the filled span is the body. Assumes nothing.
use mathlib.Core.Path.{◌≡◌, refl, ap, ◌∙◌}
use mathlib.Core.Bool.{true}
use Prim.Native.Nat.{ℕ, ◌+◌, ◌≤◌}
use native.Mathlib.Omega.{arith}
use lib.ListN.{length, get_or, replicate, length-replicate, get_or-replicate}
use Rattle.laws.proofs.Splices.{splice_before, splice_in, splice_after}
use Rattle.composer.specs.Refusal.{Gives}
use Rattle.composer.specs.Form.{intro_bars_of, body_bars_of}
use Rattle.composer.specs.Form.Plays.{all, silent}
use Rattle.composer.specs.Form.Ask.{sound_of, plays_of, beatless_form, beatless_of}
use Rattle.composer.specs.Form.Spans.{edged_of}
use Rattle.composer.specs.Form.Song.{arrange_of}
use Rattle.composer.specs.Form.Promise.{plays_at, BeatlessPromise}
use Rattle.composer.specs.declared.form.Form.{Form}
use Rattle.composer.specs.declared.form.plays.Plays.{Plays}
use Rattle.composer.proofs.form.AskLaws.{sound_is, plays_found}
use Rattle.composer.proofs.form.SongLaws.{arranged_sound, arranged_holds}
use Rattle.composer.proofs.form.EndsLaws.{end_plain_bars, outro_plain_length, end_plain_edged, outro_plain_edged}

-- a sound form, in an array that holds it
module _ (f : Form) (sound : sound_of f ≡ true) (holds : f.bars ≤ length f.plays) where
  abbrev g : Form
  g = beatless_form f

  same_bars : g.bars ≡ f.bars
  unfolding beatless_form
  same_bars = refl

  still_sound : sound_of g ≡ true
  unfolding sound_of beatless_form
  still_sound = rw (end_plain_bars f.intro, outro_plain_length f.outro) sound

  -- where the array's entry is the same, so is the answer
  same_answer : (b : ℕ) → get_or g.plays b silent ≡ get_or f.plays b silent → plays_at g b ≡ plays_at f b
  unfolding plays_of
  same_answer b e = rw (still_sound, sound, same_bars, e)

  fits : intro_bars_of f ≤ length f.plays
  fits = omega (arith, (sound_is f sound).0)

  pub beatless_promise : BeatlessPromise f
  unfolding beatless_form beatless_of edged_of
  beatless_promise =
      let a = intro_bars_of f in
      let n = body_bars_of f in
      let size = length-replicate n all in
      record {
        answer = rw sound;
        intro = λ b h. same_answer b (splice_before f.plays a (replicate n all) silent fits b h);
        body = λ b h. plays_found g still_sound (a + b) (omega (arith, (sound_is f sound).0))
            ∙ ap (λ (p : Plays). Gives p) (splice_in f.plays a (replicate n all) silent fits b (omega (arith, size)) ∙ get_or-replicate n b all silent h);
        outro = λ b h. same_answer b (splice_after f.plays a (replicate n all) silent fits b (omega (arith, size)));
        still = rw (end_plain_edged f.intro, outro_plain_edged f.outro);
      }

-- every seed's form, without its beat
pub arranged_beatless : (seed : ℕ) → BeatlessPromise (arrange_of seed)
arranged_beatless seed = beatless_promise (arrange_of seed) (arranged_sound seed) (arranged_holds seed)
