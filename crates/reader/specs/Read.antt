-- What the reader answers, and what the writer has to write. Definitions only.
use Rattle.std.specs.Prelude.{Bool, ◌&&◌, cond, List, ℕ, Result, Ok, Err}
use Rattle.composer.specs.declared.refusal.Refusal.{Refusal}
use Rattle.pages.specs.Answer.{Asked, Writes, Declines, asked_by}
use Rattle.reader.specs.Codes.{coded}
use Rattle.reader.specs.Layout.{formed}
use Rattle.reader.specs.Song.{song_in, sheet_of}
use Rattle.reader.specs.Value.{valid}
use Rattle.reader.specs.Within.{within}
use Rattle.reader.specs.declared.song.Song.{Song}

-- 7 if bytes are not the fields of an edition, and only then 8 if a code is unknown or a value out of range, the song's
-- own length among them; else x
abbrev pub read_by : {A : Type 0} → Bool → Bool → A → Result A Refusal
read_by fields values x = cond fields (cond values (Ok x) (Err Refusal.SheetValues)) (Err Refusal.SheetFields)

-- the song that the bytes name
unfoldable pub read_of : List ℕ → Result Song Refusal
read_of bytes = read_by (formed bytes) (coded bytes && within (song_in bytes)) (song_in bytes)

-- what the canonical writer has to write: 4 for a value that no sheet has; 2 for a short buffer comes after it, in
-- `written_of`
unfoldable pub write_asked : Song → Asked
write_asked v = cond (valid v) (Writes (sheet_of v)) (Declines Refusal.Malformed)

-- what was read, written again
unfoldable pub reread_asked : List ℕ → Asked
reread_asked bytes = asked_by (read_of bytes) write_asked
