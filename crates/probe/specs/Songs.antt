-- The numbers on a song's sheet, but for its style and seed, summed. Definitions only.
use Rattle.std.specs.Prelude.{List, ℕ, ◌+◌, get_or, map, sum, take, Result, Ok, Err}
use Rattle.std.specs.Float.{binary32}
use Rattle.std.specs.Float.Ieee.{to_bits}
use Rattle.composer.specs.Compose.{compose_of}
use Rattle.composer.specs.Form.{intro_bars_of, outro_bars_of}
use Rattle.composer.specs.Form.Ends.{end_code_of, outro_code_of}
use Rattle.composer.specs.Form.Plays.{bits_of}
use Rattle.composer.specs.Form.Song.{arrange_of}
use Rattle.composer.specs.Note.{kind_number_of}
use Rattle.composer.specs.Voice.{voice_number_of}
use Rattle.composer.specs.declared.chord.Chord.{Chord}
use Rattle.composer.specs.declared.form.Form.{Form}
use Rattle.composer.specs.declared.form.plays.Plays.{Plays}
use Rattle.composer.specs.declared.harmony.Scale.{Scale}
use Rattle.composer.specs.declared.note.Hit.{Hit}
use Rattle.composer.specs.declared.note.Note.{Note}
use Rattle.composer.specs.declared.compose.Composed.{Composed}
use Rattle.composer.specs.declared.refusal.Refusal.{Refusal}
use Rattle.composer.specs.declared.score.Score.{Score}
use Rattle.probe.specs.Draws.{flag_of}

-- ---- lanes
abbrev pub note_sum : Note → ℕ
note_sum n = n.bar + to_bits binary32 n.at + n.midi + to_bits binary32 n.vel + to_bits binary32 n.dur

abbrev pub hit_sum : Hit → ℕ
hit_sum h = h.bar + kind_number_of h.kind + to_bits binary32 h.at + to_bits binary32 h.gain

abbrev pub notes_sum : List Note → ℕ
notes_sum notes = sum (map note_sum notes)

abbrev pub hits_sum : List Hit → ℕ
hits_sum hits = sum (map hit_sum hits)

-- ---- harmony
abbrev pub chord_sum : Chord → ℕ
chord_sum c = get_or c.notes 0 0 + get_or c.notes 1 0 + get_or c.notes 2 0 + get_or c.notes 3 0

abbrev pub chords_sum : List Chord → ℕ
chords_sum bars = sum (map chord_sum bars)

-- places past the scale's classes are 0
abbrev pub scale_sum : Scale → ℕ
scale_sum s =
    get_or s.pcs 0 0 + get_or s.pcs 1 0 + get_or s.pcs 2 0 + get_or s.pcs 3 0 + (get_or s.pcs 4 0 + get_or s.pcs 5 0 + 0 + 0)

-- ---- form
abbrev pub ends_sum : Form → ℕ
ends_sum f = end_code_of f.intro + intro_bars_of f + f.phrases + outro_code_of f.outro + outro_bars_of f + flag_of f.dip

abbrev pub bits_sum : List Plays → ℕ
bits_sum plays = sum (map bits_of plays)

-- ---- the whole: of each lane its events, and of the form its bars
abbrev pub score_sum : Score → Scale → ℕ
score_sum s scale =
    to_bits binary32 s.bpm + voice_number_of s.lead_voice + (chords_sum s.bar_chords + scale_sum scale)
    + (notes_sum (take s.lead.n s.lead.at) + notes_sum (take s.keys.n s.keys.at) + hits_sum (take s.hits.n s.hits.at) + notes_sum (take s.bass.n s.bass.at))

abbrev pub form_sum : Form → ℕ
form_sum f = ends_sum f + bits_sum (take f.bars f.plays)

-- nothing of a song that is refused
abbrev pub sum_by : Result Composed Refusal → Form → ℕ
sum_by (Ok song) f = score_sum song.score song.scale + form_sum f
sum_by (Err r) f = 0

abbrev pub song_sum : ℕ → ℕ → ℕ
song_sum style seed = sum_by (compose_of style seed) (arrange_of seed)
