-- A composed song and its form, as the value of their sheet in an edition. Definitions only.
use Rattle.std.specs.Prelude.{List, map, ℕ, take}
use Rattle.laws.specs.Lists.{pad}
use Rattle.composer.specs.Compose.{composed_of}
use Rattle.composer.specs.Form.Song.{arrange_of}
use Rattle.composer.specs.Note.{no_note}
use Rattle.composer.specs.declared.note.Note.{Note}
use Rattle.composer.specs.declared.note.NoteRole.{NoteRole}
use Rattle.composer.specs.declared.score.Score.{Score}
use Rattle.composer.specs.declared.style.Style.{Style}
use Rattle.pages.specs.declared.edition.Edition.{Edition}
use Rattle.reader.specs.declared.song.Song.{Song}

-- a note without its role
abbrev pub backed : Note → Note
backed x = record { bar = x.bar; midi = x.midi; role = NoteRole.Backing; spare = x.spare; at = x.at; vel = x.vel; dur = x.dur }

-- a lane of n such notes
abbrev pub backed_notes : ℕ → List Note → ℕ → List Note
backed_notes cap xs n = pad no_note cap (map backed (take n xs))

-- what an edition tells of a score: edition 1 no roles
abbrev pub told_in : Edition → Score → Score
told_in Edition.One s = record {
  style = s.style;
  bpm = s.bpm;
  bar_chords = s.bar_chords;
  lead = record { at = backed_notes 56 s.lead.at s.lead.n; n = s.lead.n };
  keys = record { at = backed_notes 128 s.keys.at s.keys.n; n = s.keys.n };
  hits = s.hits;
  bass = record { at = backed_notes 104 s.bass.at s.bass.n; n = s.bass.n };
  lead_voice = s.lead_voice;
}
told_in Edition.Two s = s

abbrev pub composed_song : Edition → Style → ℕ → Song
composed_song edition style seed = record {
  edition = edition;
  seed = seed;
  score = told_in edition (composed_of style seed).score;
  scale = (composed_of style seed).scale;
  form = arrange_of seed;
}
