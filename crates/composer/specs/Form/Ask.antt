-- What may be asked of a form, also of one that arrange did not make. Definitions only.
use Rattle.std.specs.Prelude.{Bool, false, ◌&&◌, cond, List, ℕ, leb, eqb, get_or, replicate, Result, Ok, Err}
use Rattle.laws.specs.Lists.{splice}
use Rattle.composer.specs.Form.{intro_bars_of, body_bars_of, parts_of}
use Rattle.composer.specs.Form.Plays.{all, silent}
use Rattle.composer.specs.Form.Ends.{end_plain_of, outro_plain_of}
use Rattle.composer.specs.declared.refusal.Refusal.{Refusal}
use Rattle.composer.specs.declared.form.Form.{Form}
use Rattle.composer.specs.declared.form.plays.Plays.{Plays}

-- the parts are the form's bars, and at most 64
unfoldable pub sound_of : Form → Bool
sound_of f = eqb (parts_of f) f.bars && leb (parts_of f) 64

unfoldable pub plays_of : Form → ℕ → Result Plays Refusal
plays_of f b =
    cond (sound_of f) (cond (leb f.bars b) (Err Refusal.NoSuchBar) (Ok (get_or f.plays b silent))) (Err Refusal.Malformed)

-- ---- without a beat
-- the n bars from a on play all
abbrev pub filled : List Plays → ℕ → ℕ → List Plays
filled ps a n = splice ps a (replicate n all)

unfoldable pub beatless_form : Form → Form
beatless_form f = record {
  intro = end_plain_of f.intro;
  phrases = f.phrases;
  outro = outro_plain_of f.outro;
  dip = false;
  plays = filled f.plays (intro_bars_of f) (body_bars_of f);
  bars = f.bars;
}

unfoldable pub beatless_of : Form → Result Form Refusal
beatless_of f = cond (sound_of f) (Ok (beatless_form f)) (Err Refusal.Malformed)
