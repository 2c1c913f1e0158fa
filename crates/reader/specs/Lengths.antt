-- The lengths that values have: a sheet is refused with 7 if no value has its lengths. Definitions only.
use Rattle.std.specs.Prelude.{◌≡◌, true, ℕ, ◌<◌}
use Rattle.pages.specs.declared.edition.Edition.{Edition}
use Rattle.reader.specs.Layout.{size_at}
use Rattle.reader.specs.Song.{sheet_of}
use Rattle.reader.specs.Value.{valid, Typed}
use Rattle.reader.specs.declared.song.Song.{Song}

-- some value of an edition has n bytes in field k of the ten, counted from 0
pub record Had (edition : Edition) (k n : ℕ) : Type 0 where
  pub v : Song
  pub of : v.edition ≡ edition
  pub valid : valid v ≡ true
  pub typed : Typed v
  pub size : size_at (sheet_of v) k ≡ n

-- and some value has all ten lengths at once
pub record AllHad (edition : Edition) (lengths : ℕ → ℕ) : Type 0 where
  pub v : Song
  pub of : v.edition ≡ edition
  pub valid : valid v ≡ true
  pub typed : Typed v
  pub sizes : (k : ℕ) → k < 10 → size_at (sheet_of v) k ≡ lengths k
