-- Which number the reader answers, by the fields and by the values that the writer takes. Assumes nothing.
use mathlib.Core.Path.{◌≡◌, refl}
use mathlib.Core.Bool.{Bool, true, false, ◌&&◌}
use mathlib.Core.List.{List}
use Prim.Native.Nat.{ℕ}
use Rattle.composer.specs.Refusal.{Refuses, answered}
use Rattle.reader.specs.Codes.{coded}
use Rattle.reader.specs.Fields.{TenFields}
use Rattle.reader.specs.Layout.{formed}
use Rattle.reader.specs.Promise.{Octets, Made, ReadTells}
use Rattle.reader.specs.Read.{read_of}
use Rattle.reader.specs.Song.{song_in}
use Rattle.reader.specs.Within.{within}
use Rattle.reader.proofs.FieldsLaws.{formed_fields, fields_formed}
use Rattle.reader.proofs.PromiseLaws.{reader_promise, read_answers}

module _ (bytes : List ℕ) (octets : Octets bytes) where
  -- what is not refused for its fields is formed, so it is ten fields
  not_fields : (TenFields bytes → ⊥) → answered (read_of bytes) ≡ Refuses 7
  not_fields none = go (formed bytes) refl
    where
      go : (t : Bool) → formed bytes ≡ t → answered (read_of bytes) ≡ Refuses 7
      go true e = absurd (none (formed_fields bytes octets e))
      go false e = (read_answers bytes).fields e

  -- what is then not refused for its values is read, so the writer makes it
  not_made : TenFields bytes → (Made bytes → ⊥) → answered (read_of bytes) ≡ Refuses 8
  not_made fields none = go (coded bytes && within (song_in bytes)) refl
    where
      go : (t : Bool) → (coded bytes && within (song_in bytes)) ≡ t → answered (read_of bytes) ≡ Refuses 8
      go true e = absurd (none ((reader_promise.exactly bytes octets).0 (record { v = song_in bytes; reads = (read_answers bytes).given (fields_formed bytes fields) e })))
      go false e = (read_answers bytes).values (fields_formed bytes fields) e

  pub read_tells : ReadTells bytes
  read_tells = record { fields = not_fields; values = not_made; given = λ m. reader_promise.back m.v bytes m.makes }
