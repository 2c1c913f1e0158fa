-- That formed bytes have room for their ten bodies. Definitions only.
use Rattle.std.specs.Prelude.{List, ℕ, ◌+◌, ◌*◌, ◌<◌, ◌≤◌, length}
use Rattle.pages.specs.Edition.{note_width}
use Rattle.reader.specs.Layout.{edition_in, body_at, size_at}
use Rattle.reader.specs.Song.{note_count_in, hit_count_in}

-- every body stands in the bytes, whichever events it is read as, and no array is too small for it
pub record Roomy (bytes : List ℕ) : Type 0 where
  pub name : body_at bytes 0 + 10 ≤ length bytes
  pub tempo : body_at bytes 1 + 4 ≤ length bytes
  pub chords : body_at bytes 2 + 32 ≤ length bytes
  pub scale : body_at bytes 3 + size_at bytes 3 ≤ length bytes
  pub scale_few : size_at bytes 3 ≤ 6
  pub notes : (k : ℕ) → k < 10 → body_at bytes k + note_width (edition_in bytes) * note_count_in bytes k ≤ length bytes
  pub hits : (k : ℕ) → k < 10 → body_at bytes k + 10 * hit_count_in bytes k ≤ length bytes
  pub lead_few : note_count_in bytes 4 ≤ 56
  pub keys_few : note_count_in bytes 5 ≤ 128
  pub hits_few : hit_count_in bytes 6 ≤ 98
  pub bass_few : note_count_in bytes 7 ≤ 104
  pub ends : body_at bytes 8 + 6 ≤ length bytes
  pub plays : body_at bytes 9 + size_at bytes 9 ≤ length bytes
  pub plays_few : size_at bytes 9 ≤ 64
