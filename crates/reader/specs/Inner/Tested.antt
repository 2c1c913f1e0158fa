-- The tests of a sheet, which make no song of it. Definitions only.
use Rattle.std.specs.Prelude.{◌&&◌, List, ℕ, Result}
use Rattle.composer.specs.declared.refusal.Refusal.{Refusal}
use Rattle.reader.specs.Codes.{coded}
use Rattle.reader.specs.Layout.{formed}
use Rattle.reader.specs.Read.{read_by}
use Rattle.reader.specs.Song.{song_in}
use Rattle.reader.specs.Within.{within}

-- the bytes, if they pass the tests of `read_of`; its refusals else
unfoldable pub tested_of : List ℕ → Result (List ℕ) Refusal
tested_of bytes = read_by (formed bytes) (coded bytes && within (song_in bytes)) bytes
