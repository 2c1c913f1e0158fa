-- No value's sheet is longer than a sheet of its edition can be, and what is read and written again has at most 5,456
-- bytes. Assumes nothing.
use mathlib.Core.Path.{◌≡◌}
use mathlib.Core.Bool.{true}
use mathlib.Core.List.{List}
use Prim.Native.Nat.{ℕ, ◌≤◌}
use native.Mathlib.Omega.{arith}
use lib.ListN.{length}
use Rattle.std.proofs.Common.{Ok}
use Rattle.pages.specs.Answer.{bytes_of}
use Rattle.pages.specs.Edition.{sheet_most}
use Rattle.pages.specs.Writable.{SizedLanes}
use Rattle.pages.specs.declared.edition.Edition.{Edition}
use Rattle.pages.proofs.AnswerLaws.{asked_most}
use Rattle.pages.proofs.SheetLaws.{chords_length, sheet_length, counts_most, edition_most}
use Rattle.reader.specs.Read.{read_of, write_asked, reread_asked}
use Rattle.reader.specs.Song.{song_in, sheet_of}
use Rattle.reader.specs.Value.{valid, Typed, Value}
use Rattle.reader.specs.declared.song.Song.{Song}
use Rattle.reader.proofs.ArrayLaws.{shaped_read}
use Rattle.reader.proofs.AskedLaws.{asked_valid, passes, read_song, read_valid}
use Rattle.reader.proofs.TestedLaws.{tested_value}

module _ (v : Song) (p : Value v) where
  lanes : SizedLanes v.score
  lanes = record {
    lead = record { size = p.lead.size; few = p.lead.few };
    keys = record { size = p.keys.size; few = p.keys.few };
    hits = record { size = p.hits.size; few = p.hits.few };
    bass = record { size = p.bass.size; few = p.bass.few };
  }

  most : length (sheet_of v) ≤ sheet_most v.edition
  most =
      let chords = chords_length v.score.bar_chords p.chords.size (λ b h. (p.chords.used b h).size) in
      let size = sheet_length v.edition v.seed v.score v.scale v.form lanes chords (omega (arith, p.classes.few, p.classes.size)) (omega (arith, p.plays.few, p.plays.size)) in
      rw size (counts_most v.edition _ _ _ _ _ _ p.classes.few p.lead.few p.keys.few p.hits.few p.bass.few p.plays.few)

pub value_most : (v : Song) → Typed v → valid v ≡ true → length (sheet_of v) ≤ sheet_most v.edition
value_most v t ok = most v (tested_value v t.shape ok)

read_most : (bytes : List ℕ) (v : Song) → read_of bytes ≡ Ok v → length (bytes_of (write_asked v)) ≤ sheet_most Edition.Two
read_most bytes v e =
    let ok = read_valid bytes v e in
    let s = read_song bytes v e in
    let p = tested_value (song_in bytes) (shaped_read bytes (passes bytes v e).formed) (rw s at ok) in
    rw (asked_valid v ok, s) (omega (arith, most (song_in bytes) p, edition_most (song_in bytes).edition))

pub reread_most : (bytes : List ℕ) → length (bytes_of (reread_asked bytes)) ≤ sheet_most Edition.Two
unfolding reread_asked
reread_most bytes = asked_most (read_of bytes) write_asked (sheet_most Edition.Two) (read_most bytes)
