-- A sheet in the edition that is wanted: what the converter has to write. Definitions only.
use Rattle.std.specs.Prelude.{Bool, cond, List, ℕ, bytes_eq}
use Rattle.composer.specs.Style.{style_number_of}
use Rattle.composer.specs.declared.refusal.Refusal.{Refusal}
use Rattle.pages.specs.Answer.{Asked, Declines, bytes_of, asked_by}
use Rattle.pages.specs.Sheet.{sheet_in}
use Rattle.pages.specs.declared.edition.Edition.{Edition}
use Rattle.reader.specs.Read.{read_of}
use Rattle.reader.specs.declared.song.Song.{Song}

-- as many bytes, and the same ones
abbrev pub same_bytes : List ℕ → List ℕ → Bool
same_bytes a b = bytes_eq a b

-- the sheet, in an edition, of the style and the seed that a song names
abbrev pub named_asked : Edition → Song → Asked
named_asked edition v = sheet_in edition (style_number_of v.score.style) v.seed

abbrev pub named_sheet : Edition → Song → List ℕ
named_sheet edition v = bytes_of (named_asked edition v)

-- a sheet that names the song v: 9 unless it is, whole, what v's style and seed give in v's edition; else what they
-- give in the wanted one
unfoldable pub held_asked : Edition → List ℕ → Song → Asked
held_asked wanted sheet v = cond (same_bytes sheet (named_sheet v.edition v)) (named_asked wanted v) (Declines Refusal.OtherSong)

-- the reader's refusals come first; 2 for a short buffer comes last, in `written_of`
unfoldable pub convert_asked : Edition → List ℕ → Asked
convert_asked wanted sheet = asked_by (read_of sheet) (held_asked wanted sheet)
