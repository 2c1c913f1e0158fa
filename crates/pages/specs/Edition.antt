-- The two editions: in which numbers their sheets differ, and by which field; a note's bytes are in Lane.antt. A page is
-- of edition 2 alone. Definitions only.
use Rattle.std.specs.Prelude.{List, [], ◌∷◌, ℕ}
use Rattle.pages.specs.Bytes.{field}
use Rattle.pages.specs.declared.edition.Edition.{Edition}

-- the bytes of a note: bar, time, MIDI note, velocity, duration; in edition 2 its role last
abbrev pub note_width : Edition → ℕ
note_width Edition.One = 14
note_width Edition.Two = 15

-- edition 2 begins with a field of its number, edition 1 with none
abbrev pub edition_field : Edition → List ℕ
edition_field Edition.One = []
edition_field Edition.Two = field 0x00 (2 ∷ [])

abbrev pub edition_size : Edition → ℕ
edition_size Edition.One = 0
edition_size Edition.Two = 4

-- how many bytes a sheet has at most: every lane full, six classes, 64 bars
abbrev pub sheet_most : Edition → ℕ
sheet_most Edition.One = 5164
sheet_most Edition.Two = 5456

-- ---- `sheet` and `bar_page` write edition 2
-- how many fields a sheet and a page have, their edition's among them
abbrev pub sheet_fields : ℕ
sheet_fields = 11

abbrev pub page_fields : ℕ
page_fields = 6

-- how many bytes a page has at most: 7 notes of the lead, 16 of the keys and 13 of the bass, and 14 hits
abbrev pub page_most : ℕ
page_most = 703
