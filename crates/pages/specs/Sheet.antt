-- The sheet: a whole song in ten fields, and before them the edition's. Definitions only.
use Rattle.std.specs.Prelude.{Result, cond, List, [], ◌∷◌, ◌++◌, map, ℕ, ◌+◌, take}
use Rattle.laws.specs.Lists.{joined}
use Rattle.composer.specs.Compose.{compose_of}
use Rattle.composer.specs.Form.{intro_bars_of, outro_bars_of}
use Rattle.composer.specs.Form.Ends.{end_code_of, outro_code_of}
use Rattle.composer.specs.Form.Plays.{bits_of}
use Rattle.composer.specs.Form.Song.{arrange_of}
use Rattle.composer.specs.Harmony.{notes_of}
use Rattle.composer.specs.Lead.Scale.{pcs_of}
use Rattle.composer.specs.Style.{style_number_of}
use Rattle.composer.specs.Voice.{voice_number_of}
use Rattle.composer.specs.declared.compose.Composed.{Composed}
use Rattle.composer.specs.declared.refusal.Refusal.{Refusal}
use Rattle.composer.specs.declared.form.Form.{Form}
use Rattle.composer.specs.declared.harmony.Scale.{Scale}
use Rattle.composer.specs.declared.score.Score.{Score}
use Rattle.pages.specs.Answer.{Asked, Writes, asked_by}
use Rattle.pages.specs.Bytes.{be64, f32_bytes, field}
use Rattle.pages.specs.Edition.{edition_field, edition_size}
use Rattle.pages.specs.Lane.{tag_of, lane_size, events_of}
use Rattle.pages.specs.declared.edition.Edition.{Edition}
use Rattle.pages.specs.declared.lane.Lane.{Lane}

-- ---- before the events
-- style, seed, lead voice
abbrev pub name_field : ℕ → Score → List ℕ
name_field seed s = field 0x01 (style_number_of s.style ∷ (be64 seed ++ (voice_number_of s.lead_voice ∷ [])))

-- tempo in beats per minute
abbrev pub tempo_field : Score → List ℕ
tempo_field s = field 0x02 (f32_bytes s.bpm)

-- eight chords of four notes
abbrev pub chords_field : Score → List ℕ
chords_field s = field 0x03 (joined (notes_of s.bar_chords))

-- melody scale, 5 or 6 pitch classes
abbrev pub scale_field : Scale → List ℕ
scale_field scale = field 0x04 (pcs_of scale)

unfoldable pub song_bytes : ℕ → Score → Scale → List ℕ
song_bytes seed s scale = name_field seed s ++ (tempo_field s ++ (chords_field s ++ scale_field scale))

-- ---- the events: 0x05 lead, 0x06 keys, 0x07 hits, 0x08 bass
abbrev pub lane_field : Edition → Score → Lane → List ℕ
lane_field edition s lane = field (tag_of lane) (joined (events_of edition s lane))

unfoldable pub lanes_bytes : Edition → Score → List ℕ
lanes_bytes edition s = lane_field edition s Lane.Lead ++ (lane_field edition s Lane.Keys ++ (lane_field edition s Lane.Hits ++ lane_field edition s Lane.Bass))

-- ---- the form
-- intro ending and bars, phrases, outro ending and bars, dip
abbrev pub ends_field : Form → List ℕ
ends_field f =
    field 0x09 (end_code_of f.intro ∷ intro_bars_of f ∷ f.phrases ∷ outro_code_of f.outro ∷ outro_bars_of f ∷ cond f.dip 1 0 ∷ [])

-- one byte per bar
abbrev pub plays_bytes : Form → List ℕ
plays_bytes f = map bits_of (take f.bars f.plays)

abbrev pub plays_field : Form → List ℕ
plays_field f = field 0x0a (plays_bytes f)

unfoldable pub form_bytes : Form → List ℕ
form_bytes f = ends_field f ++ plays_field f

-- ---- the whole
unfoldable pub sheet_bytes : Edition → ℕ → Score → Scale → Form → List ℕ
sheet_bytes edition seed s scale f = edition_field edition ++ (song_bytes seed s scale ++ (lanes_bytes edition s ++ form_bytes f))

-- its length by the counts
abbrev pub sheet_size : Edition → Score → Scale → Form → ℕ
sheet_size edition s scale f =
    edition_size edition + 82 + scale.n + lane_size edition s Lane.Lead + lane_size edition s Lane.Keys + lane_size edition s Lane.Hits + lane_size edition s Lane.Bass + f.bars

abbrev pub lanes_size : Edition → Score → ℕ
lanes_size edition s = 12 + lane_size edition s Lane.Lead + lane_size edition s Lane.Keys + lane_size edition s Lane.Hits + lane_size edition s Lane.Bass

-- what the sheet of a seed has to write in an edition, with what composing gave: the sheet, or why there is no song
abbrev pub sheet_by : Edition → ℕ → Result Composed Refusal → Asked
sheet_by edition seed song = asked_by song (λ s. Writes (sheet_bytes edition seed s.score s.scale (arrange_of seed)))

-- what the sheet of a style and a seed has to write in an edition
unfoldable pub sheet_in : Edition → ℕ → ℕ → Asked
sheet_in edition style seed = sheet_by edition seed (compose_of style seed)

-- sheets are asked for in edition 2
abbrev pub sheet_asked : ℕ → ℕ → Asked
sheet_asked style seed = sheet_in Edition.Two style seed
