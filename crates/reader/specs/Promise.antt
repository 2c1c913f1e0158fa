-- What reading and writing promise each other, and what each call answers in numbers. Definitions only.
use Rattle.std.specs.Prelude.{◌≡◌, true, false, ◌&&◌, List, [], ◌∷◌, ◌++◌, ℕ, ◌^◌, ◌≤◌, ◌<◌, length, get_or, take, drop}
use Rattle.composer.specs.Note.{past_note}
use Rattle.composer.specs.Refusal.{Gives, Refuses, answered}
use Rattle.composer.specs.Style.{style_number_of}
use Rattle.composer.specs.declared.style.Style.{Style}
use Rattle.pages.specs.Answer.{Writes, CallAnswers}
use Rattle.pages.specs.Bytes.{byte_at}
use Rattle.pages.specs.Sheet.{sheet_in}
use Rattle.pages.specs.declared.edition.Edition.{Edition}
use Rattle.reader.specs.Codes.{coded}
use Rattle.reader.specs.Composed.{composed_song}
use Rattle.reader.specs.Fields.{TenFields}
use Rattle.reader.specs.Layout.{formed}
use Rattle.reader.specs.Read.{read_of, write_asked, reread_asked}
use Rattle.reader.specs.Song.{song_in, sheet_of}
use Rattle.reader.specs.Value.{valid, Typed, RoleIn, Value}
use Rattle.reader.specs.Within.{within}
use Rattle.reader.specs.declared.song.Song.{Song}

-- bytes, as every slice of them has
abbrev pub Octets : List ℕ → Type 0
Octets bytes = (i : ℕ) → byte_at bytes i < 256

-- the reader takes the bytes and gives v
abbrev pub Reads : List ℕ → Song → Type 0
Reads bytes v = answered (read_of bytes) ≡ Gives v

-- the canonical writer takes v, a value of the code's types, and makes these bytes of it
pub record Makes (v : Song) (bytes : List ℕ) : Type 0 where
  pub typed : Typed v
  pub asked : write_asked v ≡ Writes bytes

-- of some value
pub record Taken (bytes : List ℕ) : Type 0 where
  pub v : Song
  pub reads : Reads bytes v

pub record Made (bytes : List ℕ) : Type 0 where
  pub v : Song
  pub makes : Makes v bytes

-- ---- which values: what the writer tests says no more and no less than the facts
pub record ValueTells (v : Song) : Type 0 where
  pub facts : valid v ≡ true → Value v
  pub tests : Value v → valid v ≡ true

-- ---- there and back
pub record ReaderPromise : Type 0 where
  -- what is written and read gives an equal value
  pub back : (v : Song) (bytes : List ℕ) → Makes v bytes → Reads bytes v
  -- what is read and written again gives equal bytes
  pub again : (v : Song) (bytes : List ℕ) → Octets bytes → Reads bytes v → Makes v bytes
  -- the reader takes exactly the bytes that the writer makes of some value
  pub exactly : (bytes : List ℕ) → Octets bytes → (Taken bytes → Made bytes) × (Made bytes → Taken bytes)
  -- the sheet of every seed, in both styles and both editions, is taken and gives its song and form
  pub sheets : (edition : Edition) (style : Style) (seed : ℕ) → seed < 2 ^ 64
      → (sheet_in edition (style_number_of style) seed ≡ Writes (sheet_of (composed_song edition style seed))) × Reads (sheet_of (composed_song edition style seed)) (composed_song edition style seed)

-- ---- which number: 7 for the fields, whatever their values, and only then 8
pub record ReadAnswers (bytes : List ℕ) : Type 0 where
  pub fields : formed bytes ≡ false → answered (read_of bytes) ≡ Refuses 7
  pub values : formed bytes ≡ true → (coded bytes && within (song_in bytes)) ≡ false → answered (read_of bytes) ≡ Refuses 8
  pub given : formed bytes ≡ true → (coded bytes && within (song_in bytes)) ≡ true → Reads bytes (song_in bytes)

-- the same without the reader's own tests: by the fields, and by the values that the writer takes
pub record ReadTells (bytes : List ℕ) : Type 0 where
  pub fields : (TenFields bytes → ⊥) → answered (read_of bytes) ≡ Refuses 7
  pub values : TenFields bytes → (Made bytes → ⊥) → answered (read_of bytes) ≡ Refuses 8
  pub given : (m : Made bytes) → Reads bytes m.v

-- ---- the editions
-- every note in use has a role that its lane has there
pub record RolesIn (v : Song) : Type 0 where
  pub lead : (i : ℕ) → i < v.score.lead.n → RoleIn v.edition true (get_or v.score.lead.at i past_note)
  pub keys : (i : ℕ) → i < v.score.keys.n → RoleIn v.edition false (get_or v.score.keys.at i past_note)
  pub bass : (i : ℕ) → i < v.score.bass.n → RoleIn v.edition false (get_or v.score.bass.at i past_note)

pub record EditionTells (bytes : List ℕ) : Type 0 where
  -- what is read says which it is: edition 2 begins with 0x00, length 1, body 2, and edition 1 with 0x01
  pub one_begins : (v : Song) → Reads bytes v → v.edition ≡ Edition.One → byte_at bytes 0 ≡ 1
  pub two_begins : (v : Song) → Reads bytes v → v.edition ≡ Edition.Two → take 4 bytes ≡ 0 ∷ 0 ∷ 1 ∷ 2 ∷ []
  -- a 0x00 with another length or body is 7
  pub other : byte_at bytes 0 ≡ 0 → (take 4 bytes ≡ 0 ∷ 0 ∷ 1 ∷ 2 ∷ [] → ⊥) → answered (read_of bytes) ≡ Refuses 7
  -- and its roles are the edition's
  pub roles : (v : Song) → Reads bytes v → RolesIn v

-- ---- the reader does not compose: some bytes of an edition are taken that are no seed's sheet, in neither edition and
-- neither style
pub record NoSeed (edition : Edition) : Type 0 where
  pub bytes : List ℕ
  pub octets : Octets bytes
  pub v : Song
  pub of : v.edition ≡ edition
  pub reads : Reads bytes v
  pub other : (e : Edition) (style : Style) (seed : ℕ) → seed < 2 ^ 64 → sheet_of (composed_song e style seed) ≡ bytes → ⊥

-- ---- the writer, lent the buffer b: 4, then 2
pub record WriteAnswers (v : Song) (b : List ℕ) : Type 0 where
  pub other : valid v ≡ false → CallAnswers (write_asked v) b (Refuses 4) b
  pub short : valid v ≡ true → length b < length (sheet_of v) → CallAnswers (write_asked v) b (Refuses 2) b
  pub written : valid v ≡ true → length (sheet_of v) ≤ length b
      → CallAnswers (write_asked v) b (Gives (length (sheet_of v))) (sheet_of v ++ drop (length (sheet_of v)) b)

-- ---- read and written again: 7, then 8, then 2; else the sheet's own bytes
pub record RereadAnswers (bytes b : List ℕ) : Type 0 where
  pub fields : answered (read_of bytes) ≡ Refuses 7 → CallAnswers (reread_asked bytes) b (Refuses 7) b
  pub values : answered (read_of bytes) ≡ Refuses 8 → CallAnswers (reread_asked bytes) b (Refuses 8) b
  pub short : (v : Song) → Reads bytes v → length b < length bytes → CallAnswers (reread_asked bytes) b (Refuses 2) b
  pub written : (v : Song) → Reads bytes v → length bytes ≤ length b → CallAnswers (reread_asked bytes) b (Gives (length bytes)) (bytes ++ drop (length bytes) b)
