-- The ranges: which numbers a sheet can have; Codes.antt has which codes. Definitions only.
use Rattle.std.specs.Prelude.{Bool, true, false, ◌&&◌, cond, List, ℕ, eqb, leb, ltb, get_or}
use Rattle.std.specs.Float.Ieee.Scale.{finite}
use Rattle.composer.specs.Chord.{past_chord}
use Rattle.composer.specs.Form.{parts_of}
use Rattle.composer.specs.Note.{role_number_of, past_note, past_hit}
use Rattle.composer.specs.declared.chord.Chord.{Chord}
use Rattle.composer.specs.declared.form.Form.{Form}
use Rattle.composer.specs.declared.harmony.Scale.{Scale}
use Rattle.composer.specs.declared.note.Hit.{Hit}
use Rattle.composer.specs.declared.note.Note.{Note}
use Rattle.composer.specs.declared.note.NoteRole.{NoteRole}
use Rattle.composer.specs.declared.score.Score.{Score}
use Rattle.pages.specs.declared.edition.Edition.{Edition}
use Rattle.reader.specs.Tests.{all_to}
use Rattle.reader.specs.declared.song.Song.{Song}

-- a role: in edition 2 the lead has 0 to 5 and all else 6, in edition 1 all have 6
unfoldable pub role_within : Edition → Bool → NoteRole → Bool
role_within Edition.One leads role = eqb (role_number_of role) 6
role_within Edition.Two leads role = cond leads (ltb (role_number_of role) 6) (eqb (role_number_of role) 6)

-- an event: its bar, its note, its role, and finite numbers of either sign
unfoldable pub note_within : Edition → Bool → Note → Bool
note_within edition leads n =
    ltb n.bar 8 && leb n.midi 127 && role_within edition leads n.role && eqb n.spare 0 && finite n.at && finite n.vel && finite n.dur

unfoldable pub hit_within : Hit → Bool
hit_within h = ltb h.bar 8 && eqb h.spare 0 && finite h.at && finite h.gain

-- a lane of n events in an array of `cap` entries
unfoldable pub notes_within : Edition → Bool → List Note → ℕ → ℕ → Bool
notes_within edition leads xs cap n = leb n cap && all_to (λ i. note_within edition leads (get_or xs i past_note)) n

unfoldable pub hits_within : List Hit → ℕ → ℕ → Bool
hits_within xs cap n = leb n cap && all_to (λ i. hit_within (get_or xs i past_hit)) n

-- four MIDI notes
unfoldable pub chord_within : Chord → Bool
chord_within c = all_to (λ k. leb (get_or c.notes k 0) 127) 4

unfoldable pub chords_within : List Chord → Bool
chords_within cs = all_to (λ b. chord_within (get_or cs b past_chord)) 8

-- 5 or 6 pitch classes
unfoldable pub scale_within : Scale → Bool
scale_within s = leb 5 s.n && leb s.n 6 && all_to (λ i. ltb (get_or s.pcs i 0) 12) s.n

-- 4 to 6 phrases, and as many bars as its parts have
unfoldable pub form_within : Form → Bool
form_within f = leb 4 f.phrases && leb f.phrases 6 && eqb (parts_of f) f.bars

unfoldable pub score_within : Edition → Score → Bool
score_within edition s =
    finite s.bpm && chords_within s.bar_chords
    && notes_within edition true s.lead.at 56 s.lead.n && notes_within edition false s.keys.at 128 s.keys.n
    && hits_within s.hits.at 98 s.hits.n && notes_within edition false s.bass.at 104 s.bass.n

unfoldable pub within : Song → Bool
within v = score_within v.edition v.score && scale_within v.scale && form_within v.form
