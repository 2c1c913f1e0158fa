-- Scores in words. Definitions only.
use Rattle.std.specs.Prelude.{cond, List, [], ◌∷◌, ℕ, ◌-◌, ◌/◌, ◌%◌, eqb, ltb, get_or, replicate, Result, Ok, Err}
use Rattle.std.specs.Result.{result_unwrap_or}
use Rattle.std.specs.Float.{binary32}
use Rattle.std.specs.Float.Ieee.{to_bits}
use Rattle.composer.specs.Chord.{root_class_of, past_chord}
use Rattle.composer.specs.Compose.{no_score}
use Rattle.composer.specs.Kicks.{unbeaten_of}
use Rattle.composer.specs.Note.{kind_number_of, past_note, past_hit}
use Rattle.composer.specs.Style.{style_number_of}
use Rattle.composer.specs.Voice.{voice_number_of}
use Rattle.composer.specs.declared.chord.Chord.{Chord}
use Rattle.composer.specs.declared.compose.Composed.{Composed}
use Rattle.composer.specs.declared.harmony.Scale.{Scale}
use Rattle.composer.specs.declared.note.Hit.{Hit}
use Rattle.composer.specs.declared.note.Note.{Note}
use Rattle.composer.specs.declared.refusal.Refusal.{Refusal}
use Rattle.composer.specs.declared.score.Counters.{Counters}
use Rattle.composer.specs.declared.score.Score.{Score}
use Rattle.probe.specs.Forms.{outcome_number_of}

-- in place of a song that is refused: zero throughout
abbrev pub no_song : Composed
no_song = record {
  score = no_score;
  scale = record { pcs = replicate 6 0; n = 0 };
  counters = record { harmony = 0; tempo = 0; lead = 0; keys = 0; drums = 0; bass = 0; voice = 0 };
}

abbrev pub song_or_none : Result Composed Refusal → Composed
song_or_none song = result_unwrap_or song no_song

-- ---- parts
-- the refusal's number, 0 for none, the style, the tempo, the lead's voice, and how many events each lane has
abbrev pub numbers_of : ℕ → Score → List ℕ
numbers_of refusal s =
    refusal ∷ style_number_of s.style ∷ to_bits binary32 s.bpm ∷ voice_number_of s.lead_voice
    ∷ s.lead.n ∷ s.keys.n ∷ s.hits.n ∷ s.bass.n ∷ []

abbrev pub counters_of : Counters → List ℕ
counters_of c = c.harmony ∷ c.tempo ∷ c.lead ∷ c.keys ∷ c.drums ∷ c.bass ∷ c.voice ∷ []

-- how many classes the scale has, then its six places
abbrev pub scale_word_of : Scale → ℕ → ℕ
scale_word_of s k = cond (eqb k 0) s.n (get_or s.pcs (k - 1) 0)

-- the root's class, then the four notes
abbrev pub chord_word_of : Chord → ℕ → ℕ
chord_word_of c k = cond (eqb k 0) (root_class_of c) (get_or c.notes (k - 1) 0)

abbrev pub note_words_of : Note → List ℕ
note_words_of n = n.bar ∷ to_bits binary32 n.at ∷ n.midi ∷ to_bits binary32 n.vel ∷ to_bits binary32 n.dur ∷ []

abbrev pub hit_words_of : Hit → List ℕ
hit_words_of h = h.bar ∷ to_bits binary32 h.at ∷ kind_number_of h.kind ∷ to_bits binary32 h.gain ∷ []

-- ---- the whole
-- 8 numbers, 7 counters, 7 for the scale, 5 for each bar's chord
unfoldable pub head_word_of : ℕ → Composed → ℕ → ℕ
head_word_of refusal c k =
    cond (ltb k 8) (get_or (numbers_of refusal c.score) k 0)
    (cond (ltb k 15) (get_or (counters_of c.counters) (k - 8) 0)
    (cond (ltb k 22) (scale_word_of c.scale (k - 15))
    (chord_word_of (get_or c.score.bar_chords ((k - 22) / 5) past_chord) ((k - 22) % 5))))

-- 56 lead notes, 128 keys notes, 98 hits, 104 bass notes
unfoldable pub lane_word_of : Score → ℕ → ℕ
lane_word_of s k =
    cond (ltb k 280) (get_or (note_words_of (get_or s.lead.at (k / 5) past_note)) (k % 5) 0)
    (cond (ltb k 920) (get_or (note_words_of (get_or s.keys.at ((k - 280) / 5) past_note)) ((k - 280) % 5) 0)
    (cond (ltb k 1312) (get_or (hit_words_of (get_or s.hits.at ((k - 920) / 4) past_hit)) ((k - 920) % 4) 0)
    (cond (ltb k 1832) (get_or (note_words_of (get_or s.bass.at ((k - 1312) / 5) past_note)) ((k - 1312) % 5) 0) 0)))

unfoldable pub song_word_of : ℕ → Composed → ℕ → ℕ
song_word_of refusal c k = cond (ltb k 62) (head_word_of refusal c k) (lane_word_of c.score (k - 62))

-- of what composing answers
abbrev pub word_of : Result Composed Refusal → ℕ → ℕ
word_of song k = song_word_of (outcome_number_of song) (song_or_none song) k

-- the song without its drums
abbrev pub unbeaten_song : Result Composed Refusal → Result Composed Refusal
unbeaten_song (Ok c) = Ok (record { score = unbeaten_of c.score; scale = c.scale; counters = c.counters })
unbeaten_song (Err r) = Err r
