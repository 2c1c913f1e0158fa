-- What the converter takes, what it makes of it, and what each call answers in numbers. Definitions only.
use Rattle.std.specs.Prelude.{◌≡◌, List, ◌++◌, ℕ, ◌^◌, ◌≤◌, ◌<◌, length, drop}
use Rattle.composer.specs.Compose.{composed_of}
use Rattle.composer.specs.Form.Song.{arrange_of}
use Rattle.composer.specs.Refusal.{Gives, Refuses, answered}
use Rattle.composer.specs.Style.{style_number_of}
use Rattle.composer.specs.declared.style.Style.{Style}
use Rattle.pages.specs.Answer.{Writes, CallAnswers}
use Rattle.pages.specs.Sheet.{sheet_in}
use Rattle.pages.specs.declared.edition.Edition.{Edition}
use Rattle.reader.specs.Composed.{told_in, composed_song}
use Rattle.reader.specs.Promise.{Octets, Reads}
use Rattle.reader.specs.Read.{read_of}
use Rattle.reader.specs.declared.song.Song.{Song}
use Rattle.editions.specs.Convert.{named_asked, named_sheet, convert_asked}

-- the converter takes the sheet and makes these bytes of it
abbrev pub Converts : Edition → List ℕ → List ℕ → Type 0
Converts wanted sheet bytes = convert_asked wanted sheet ≡ Writes bytes

-- into some bytes
pub record Converted (wanted : Edition) (sheet : List ℕ) : Type 0 where
  pub bytes : List ℕ
  pub converts : Converts wanted sheet bytes

-- the sheet is that of some style and seed, in some edition
pub record SeedSheet (sheet : List ℕ) : Type 0 where
  pub edition : Edition
  pub style : Style
  pub seed : ℕ
  pub small : seed < 2 ^ 64
  pub asked : sheet_in edition (style_number_of style) seed ≡ Writes sheet

-- ---- whose song it is: score, scale and form are those of the style and the seed that it names. In edition 2 a score
-- has its roles; in edition 1 it tells none
pub record OfSeed (v : Song) : Type 0 where
  pub score : v.score ≡ told_in v.edition (composed_of v.score.style v.seed).score
  pub scale : v.scale ≡ (composed_of v.score.style v.seed).scale
  pub form : v.form ≡ arrange_of v.seed

-- the song, in an edition, of the style and the seed that v names
abbrev pub named_song : Edition → Song → Song
named_song edition v = composed_song edition v.score.style v.seed

-- a song without its roles, as edition 1 tells it
abbrev pub unroled : Song → Song
unroled v = record { edition = Edition.One; seed = v.seed; score = told_in Edition.One v.score; scale = v.scale; form = v.form }

-- ---- what is taken, and what becomes of it
pub record ConverterPromise : Type 0 where
  -- the sheet of every seed, in both styles and both editions, becomes that seed's sheet in the wanted one
  pub seeds : (wanted : Edition) (sheet : List ℕ) (s : SeedSheet sheet) → convert_asked wanted sheet ≡ sheet_in wanted (style_number_of s.style) s.seed
  -- exactly these are taken, whichever edition is wanted
  pub exactly : (wanted : Edition) (sheet : List ℕ) → Octets sheet → (Converted wanted sheet → SeedSheet sheet) × (SeedSheet sheet → Converted wanted sheet)
  -- of a sheet that is read, score, scale and form are the seed's exactly if the whole sheet is what the style and the
  -- seed that it names give in its edition
  pub whole : (sheet : List ℕ) (v : Song) → Octets sheet → Reads sheet v → (OfSeed v → named_asked v.edition v ≡ Writes sheet) × (named_asked v.edition v ≡ Writes sheet → OfSeed v)
  -- there and back gives the same bytes
  pub back : (wanted : Edition) (sheet bytes : List ℕ) (v : Song) → Octets sheet → Reads sheet v → Converts wanted sheet bytes → Converts v.edition bytes sheet
  -- one already in the wanted edition is copied
  pub copied : (sheet bytes : List ℕ) (v : Song) → Octets sheet → Reads sheet v → Converts v.edition sheet bytes → bytes ≡ sheet
  -- from 2 to 1 the roles are dropped, and all else stays
  pub dropped : (sheet bytes : List ℕ) (v : Song) → Octets sheet → Reads sheet v → v.edition ≡ Edition.Two → Converts Edition.One sheet bytes → Reads bytes (unroled v)
  -- from 1 to 2 they are taken from the song that the style and the seed give, and all else stays
  pub gained : (sheet bytes : List ℕ) (v : Song) → Octets sheet → Reads sheet v → v.edition ≡ Edition.One → Converts Edition.Two sheet bytes
      → Reads bytes (named_song Edition.Two v) × (unroled (named_song Edition.Two v) ≡ v)

-- ---- lent the buffer b: 7, then 8, then 9, then 2; else the sheet of the style and the seed in the wanted edition
pub record ConvertAnswers (wanted : Edition) (sheet b : List ℕ) : Type 0 where
  pub fields : answered (read_of sheet) ≡ Refuses 7 → CallAnswers (convert_asked wanted sheet) b (Refuses 7) b
  pub values : answered (read_of sheet) ≡ Refuses 8 → CallAnswers (convert_asked wanted sheet) b (Refuses 8) b
  pub other : (v : Song) → Reads sheet v → (OfSeed v → ⊥) → CallAnswers (convert_asked wanted sheet) b (Refuses 9) b
  pub short : (v : Song) → Reads sheet v → OfSeed v → length b < length (named_sheet wanted v) → CallAnswers (convert_asked wanted sheet) b (Refuses 2) b
  pub written : (v : Song) → Reads sheet v → OfSeed v → length (named_sheet wanted v) ≤ length b
      → CallAnswers (convert_asked wanted sheet) b (Gives (length (named_sheet wanted v))) (named_sheet wanted v ++ drop (length (named_sheet wanted v)) b)
