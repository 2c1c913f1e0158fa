-- Which edition a sheet is of, where its fields stand, and whether they are those that some value has. Definitions
-- only.
use Rattle.std.specs.Prelude.{Bool, true, not, ◌&&◌, cond, List, [], ◌∷◌, ℕ, zero, suc, ◌+◌, ◌/◌, ◌%◌, eqb, leb, length, get_or}
use Rattle.pages.specs.Bytes.{byte_at, be16_at}
use Rattle.pages.specs.Edition.{note_width, edition_size}
use Rattle.pages.specs.declared.edition.Edition.{Edition}
use Rattle.reader.specs.Tests.{all_to}

-- a sheet that begins with 0x00 is of edition 2, any other of edition 1
unfoldable pub edition_in : List ℕ → Edition
edition_in bytes = cond (eqb (byte_at bytes 0) 0) Edition.Two Edition.One

-- where field k of the ten begins, counted from 0: after the edition's own, and after the head and the body of the one
-- before
unfoldable pub start_at : List ℕ → ℕ → ℕ
start_at bytes zero = edition_size (edition_in bytes)
start_at bytes (suc k) = start_at bytes k + 3 + be16_at bytes (start_at bytes k + 1)

-- its body's first place, and its length
abbrev pub body_at : List ℕ → ℕ → ℕ
body_at bytes k = start_at bytes k + 3

abbrev pub size_at : List ℕ → ℕ → ℕ
size_at bytes k = be16_at bytes (start_at bytes k + 1)

-- ---- the lengths that a value's fields have, from 0x01 to 0x0A: entries of so many bytes, from so many to so many of
-- them; 0x0A, a byte for each bar, in pairs of bars
abbrev pub widths : Edition → List ℕ
widths edition = 10 ∷ 4 ∷ 32 ∷ 1 ∷ note_width edition ∷ note_width edition ∷ 10 ∷ note_width edition ∷ 6 ∷ 2 ∷ []

abbrev pub least : List ℕ
least = 1 ∷ 1 ∷ 1 ∷ 5 ∷ 0 ∷ 0 ∷ 0 ∷ 0 ∷ 1 ∷ 16 ∷ []

abbrev pub most : List ℕ
most = 1 ∷ 1 ∷ 1 ∷ 6 ∷ 56 ∷ 128 ∷ 98 ∷ 104 ∷ 1 ∷ 32 ∷ []

-- n bytes are whole entries of w bytes, lo to hi of them. A song has an even number of bars, 32 to 64, but never 62;
-- no other field has 62 bytes either, so all are tested for it
abbrev pub entries_fit : ℕ → ℕ → ℕ → ℕ → Bool
entries_fit n w lo hi = (eqb (n % w) 0 && leb lo (n / w)) && (leb (n / w) hi && not (eqb n 62))

unfoldable pub length_fits : Edition → ℕ → ℕ → Bool
length_fits edition k n = entries_fit n (get_or (widths edition) k 0) (get_or least k 0) (get_or most k 0)

-- field k has its tag and such a length
unfoldable pub field_fits : List ℕ → ℕ → Bool
field_fits bytes k = eqb (byte_at bytes (start_at bytes k)) (k + 1) && length_fits (edition_in bytes) k (size_at bytes k)

-- the 0x00 that edition 2 begins with has length 1 and body 2
unfoldable pub led : Edition → List ℕ → Bool
led Edition.One bytes = true
led Edition.Two bytes = eqb (be16_at bytes 1) 1 && eqb (byte_at bytes 3) 2

-- then ten such fields and nothing beyond: with a field missing a tag differs, and what is cut off would end past the
-- bytes
unfoldable pub formed : List ℕ → Bool
formed bytes = led (edition_in bytes) bytes && all_to (field_fits bytes) 10 && eqb (start_at bytes 10) (length bytes)
