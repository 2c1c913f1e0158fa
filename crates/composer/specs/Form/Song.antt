-- The whole song: intro, body and outro of what the draws decide. Definitions only.
use Rattle.std.specs.Prelude.{Bool, true, false, not, ◌&&◌, cond, List, ℕ, ◌+◌, ◌-◌, ◌*◌, ltb, eqb}
use Rattle.laws.specs.Lists.{list_to, pad}
use Rattle.streams.specs.Stage.{stream_of}
use Rattle.streams.specs.declared.stage.Stage.{Stage}
use Rattle.composer.specs.Form.Plays.{all, silent}
use Rattle.composer.specs.Form.Ends.{end_bars_of, outro_length_of}
use Rattle.composer.specs.Form.Decisions.{decide_of}
use Rattle.composer.specs.Form.Body.{cut_heard, body_bar_of}
use Rattle.composer.specs.declared.form.Form.{Form}
use Rattle.composer.specs.declared.form.plays.Plays.{Plays}
use Rattle.composer.specs.declared.form.ends.Bars.{Bars}
use Rattle.composer.specs.declared.form.ends.End.{End}
use Rattle.composer.specs.declared.form.ends.Outro.{Outro}
use Rattle.composer.specs.declared.form.decisions.Opening.{Opening}
use Rattle.composer.specs.declared.form.decisions.Closing.{Closing}
use Rattle.composer.specs.declared.form.decisions.Decisions.{Decisions}

abbrev pub bars_by : Bool → Bars
bars_by true = Bars.Eight
bars_by false = Bars.Four

abbrev pub intro_of : Opening → Bool → End
intro_of (Opening.Sparse p) long = End.Plain (bars_by long)
intro_of (Opening.Edged e) long = End.Edged (bars_by long) e
intro_of Opening.Cold long = End.Cold

abbrev pub intro_plays : Opening → Plays
intro_plays (Opening.Sparse p) = p
intro_plays (Opening.Edged e) = all
intro_plays Opening.Cold = all

abbrev pub outro_of : Closing → Bool → Outro
outro_of (Closing.Sparse p) long = Outro.Ends (End.Plain (bars_by long))
outro_of Closing.RingOut long = Outro.RingOut
outro_of (Closing.Edged e) long = Outro.Ends (End.Edged (bars_by long) e)
outro_of Closing.Cold long = Outro.Ends End.Cold

-- outro bar k: a ring-out is the pad's chord, then the room alone
abbrev pub outro_plays : Closing → ℕ → Plays
outro_plays (Closing.Sparse p) k = p
outro_plays Closing.RingOut k = record { pad = eqb k 0; keys = false; drums = false; bass = false }
outro_plays (Closing.Edged e) k = all
outro_plays Closing.Cold k = all

abbrev pub intro_length : Decisions → ℕ
intro_length d = end_bars_of (intro_of d.opening d.long_intro)

abbrev pub outro_length : Decisions → ℕ
outro_length d = outro_length_of (outro_of d.closing d.long_outro)

abbrev pub song_length : Decisions → ℕ
song_length d = intro_length d + 8 * d.phrases + outro_length d

-- song bar b, after an intro of n bars
unfoldable pub song_bar_of : Decisions → ℕ → ℕ → Plays
song_bar_of d n b =
    cond (ltb b n) (intro_plays d.opening)
    (cond (ltb (b - n) (8 * d.phrases)) (body_bar_of d (b - n)) (outro_plays d.closing (b - n - 8 * d.phrases)))

-- the song's bars, and silence past its end
abbrev pub song_plays_of : Decisions → ℕ → ℕ → List Plays
song_plays_of d n bars = pad silent 64 (list_to (song_bar_of d n) bars)

-- the dip is dropped where phrase 1 was cut
unfoldable pub form_of : Decisions → Form
form_of d = record {
  intro = intro_of d.opening d.long_intro;
  phrases = d.phrases;
  outro = outro_of d.closing d.long_outro;
  dip = d.dip && not (cut_heard d 1);
  plays = song_plays_of d (intro_length d) (song_length d);
  bars = song_length d;
}

abbrev pub decisions_of : ℕ → Decisions
decisions_of seed = (decide_of (stream_of Stage.Form seed)).value

abbrev pub arrange_of : ℕ → Form
arrange_of seed = form_of (decisions_of seed)
