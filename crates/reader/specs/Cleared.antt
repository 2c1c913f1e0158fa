-- Unused entries: each is zero. Definitions only.
use Rattle.std.specs.Prelude.{Bool, ◌&&◌, ◌||◌, List, ℕ, eqb, ltb, Float, get_or}
use Rattle.std.specs.Float.{binary32}
use Rattle.std.specs.Float.Ieee.{to_bits}
use Rattle.composer.specs.Form.Plays.{bits_of, silent}
use Rattle.composer.specs.Note.{past_note, role_number_of, past_hit, kind_number_of}
use Rattle.composer.specs.declared.form.Form.{Form}
use Rattle.composer.specs.declared.harmony.Scale.{Scale}
use Rattle.composer.specs.declared.note.Hit.{Hit}
use Rattle.composer.specs.declared.note.Note.{Note}
use Rattle.composer.specs.declared.score.Score.{Score}
use Rattle.reader.specs.Tests.{all_to}
use Rattle.reader.specs.declared.song.Song.{Song}

-- 0.0, and not -0.0
abbrev pub is_zero : Float → Bool
is_zero x = eqb (to_bits binary32 x) 0

unfoldable pub note_zero : Note → Bool
note_zero n =
    eqb n.bar 0 && eqb n.midi 0 && eqb (role_number_of n.role) 0 && eqb n.spare 0 && is_zero n.at && is_zero n.vel && is_zero n.dur

unfoldable pub hit_zero : Hit → Bool
hit_zero h = eqb h.bar 0 && eqb (kind_number_of h.kind) 0 && eqb h.spare 0 && is_zero h.at && is_zero h.gain

-- of `cap` entries those past the first n
unfoldable pub notes_zero : List Note → ℕ → ℕ → Bool
notes_zero xs cap n = all_to (λ i. ltb i n || note_zero (get_or xs i past_note)) cap

unfoldable pub hits_zero : List Hit → ℕ → ℕ → Bool
hits_zero xs cap n = all_to (λ i. ltb i n || hit_zero (get_or xs i past_hit)) cap

unfoldable pub scale_zero : Scale → Bool
scale_zero s = all_to (λ i. ltb i s.n || eqb (get_or s.pcs i 0) 0) 6

-- no layer plays past the song's bars
unfoldable pub plays_zero : Form → Bool
plays_zero f = all_to (λ b. ltb b f.bars || eqb (bits_of (get_or f.plays b silent)) 0) 64

unfoldable pub score_zero : Score → Bool
score_zero s =
    notes_zero s.lead.at 56 s.lead.n && notes_zero s.keys.at 128 s.keys.n
    && hits_zero s.hits.at 98 s.hits.n && notes_zero s.bass.at 104 s.bass.n

unfoldable pub cleared : Song → Bool
cleared v = score_zero v.score && scale_zero v.scale && plays_zero v.form
