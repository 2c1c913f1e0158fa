-- The song that bytes name, place by place, whether or not they are a sheet's. Definitions only.
use Rattle.std.specs.Prelude.{Bool, true, false, List, [], ◌∷◌, ℕ, ◌+◌, ◌*◌, ◌/◌, eqb}
use Rattle.laws.specs.Lists.{list_to, pad}
use Rattle.composer.specs.Compose.{style_by}
use Rattle.composer.specs.Form.Plays.{silent}
use Rattle.composer.specs.Note.{no_note, no_hit}
use Rattle.composer.specs.declared.chord.Chord.{Chord}
use Rattle.composer.specs.declared.form.Form.{Form}
use Rattle.composer.specs.declared.form.plays.Plays.{Plays}
use Rattle.composer.specs.declared.harmony.Scale.{Scale}
use Rattle.composer.specs.declared.note.Hit.{Hit}
use Rattle.composer.specs.declared.note.Note.{Note}
use Rattle.composer.specs.declared.score.Score.{Score}
use Rattle.pages.specs.Bytes.{byte_at, be64_at, f32_at}
use Rattle.pages.specs.Edition.{note_width}
use Rattle.pages.specs.Sheet.{sheet_bytes}
use Rattle.pages.specs.declared.edition.Edition.{Edition}
use Rattle.reader.specs.Codes.{voice_coded, role_at, kind_coded, end_coded, outro_coded, plays_coded}
use Rattle.reader.specs.Layout.{edition_in, body_at, size_at}
use Rattle.reader.specs.declared.song.Song.{Song}

-- ---- events
-- bar, time, MIDI note, velocity, duration and, in edition 2, role; `leads` where it is a note of the lead
unfoldable pub note_at : Edition → Bool → List ℕ → ℕ → Note
note_at edition leads bytes at = record {
  bar = byte_at bytes at;
  at = f32_at bytes (at + 1);
  midi = byte_at bytes (at + 5);
  vel = f32_at bytes (at + 6);
  dur = f32_at bytes (at + 10);
  role = role_at edition leads bytes (at + 14);
  spare = 0;
}

-- bar, kind, time, gain
unfoldable pub hit_at : List ℕ → ℕ → Hit
hit_at bytes at = record {
  bar = byte_at bytes at;
  kind = kind_coded (byte_at bytes (at + 1));
  at = f32_at bytes (at + 2);
  gain = f32_at bytes (at + 6);
  spare = 0;
}

-- n of them, from a place on
abbrev pub notes_at : Edition → Bool → List ℕ → ℕ → ℕ → List Note
notes_at edition leads bytes at n = list_to (λ i. note_at edition leads bytes (at + note_width edition * i)) n

abbrev pub hits_at : List ℕ → ℕ → ℕ → List Hit
hits_at bytes at n = list_to (λ i. hit_at bytes (at + 10 * i)) n

-- ---- chords and scale
unfoldable pub chord_from : List ℕ → ℕ → Chord
chord_from bytes at = record { notes = byte_at bytes at ∷ byte_at bytes (at + 1) ∷ byte_at bytes (at + 2) ∷ byte_at bytes (at + 3) ∷ [] }

abbrev pub chords_from : List ℕ → ℕ → List Chord
chords_from bytes at = list_to (λ b. chord_from bytes (at + 4 * b)) 8

unfoldable pub scale_at : List ℕ → ℕ → ℕ → Scale
scale_at bytes at n = record { pcs = pad 0 6 (list_to (λ i. byte_at bytes (at + i)) n); n = n }

-- ---- the score: lanes in arrays, zeros behind their events
-- how many notes or hits field k has
abbrev pub note_count_in : List ℕ → ℕ → ℕ
note_count_in bytes k = size_at bytes k / note_width (edition_in bytes)

abbrev pub hit_count_in : List ℕ → ℕ → ℕ
hit_count_in bytes k = size_at bytes k / 10

unfoldable pub score_in : List ℕ → Score
score_in bytes = record {
  style = style_by (byte_at bytes (body_at bytes 0));
  bpm = f32_at bytes (body_at bytes 1);
  bar_chords = chords_from bytes (body_at bytes 2);
  lead = record {
    at = pad no_note 56 (notes_at (edition_in bytes) true bytes (body_at bytes 4) (note_count_in bytes 4));
    n = note_count_in bytes 4;
  };
  keys = record {
    at = pad no_note 128 (notes_at (edition_in bytes) false bytes (body_at bytes 5) (note_count_in bytes 5));
    n = note_count_in bytes 5;
  };
  hits = record { at = pad no_hit 98 (hits_at bytes (body_at bytes 6) (hit_count_in bytes 6)); n = hit_count_in bytes 6 };
  bass = record {
    at = pad no_note 104 (notes_at (edition_in bytes) false bytes (body_at bytes 7) (note_count_in bytes 7));
    n = note_count_in bytes 7;
  };
  lead_voice = voice_coded (byte_at bytes (body_at bytes 0 + 9));
}

-- ---- the form: a byte for each bar
abbrev pub plays_from : List ℕ → ℕ → ℕ → List Plays
plays_from bytes at n = list_to (λ b. plays_coded (byte_at bytes (at + b))) n

unfoldable pub form_in : List ℕ → Form
form_in bytes =
    let at = body_at bytes 8 in
    record {
      intro = end_coded (byte_at bytes at) (byte_at bytes (at + 1));
      phrases = byte_at bytes (at + 2);
      outro = outro_coded (byte_at bytes (at + 3)) (byte_at bytes (at + 4));
      dip = eqb (byte_at bytes (at + 5)) 1;
      plays = pad silent 64 (plays_from bytes (body_at bytes 9) (size_at bytes 9));
      bars = size_at bytes 9;
    }

-- ---- the whole
unfoldable pub song_in : List ℕ → Song
song_in bytes = record {
  edition = edition_in bytes;
  seed = be64_at bytes (body_at bytes 0 + 1);
  score = score_in bytes;
  scale = scale_at bytes (body_at bytes 3) (size_at bytes 3);
  form = form_in bytes;
}

-- and back: the sheet of a song, in its edition
abbrev pub sheet_of : Song → List ℕ
sheet_of v = sheet_bytes v.edition v.seed v.score v.scale v.form
