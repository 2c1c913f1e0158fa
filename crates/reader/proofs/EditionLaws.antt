-- Which edition was read and what roles it has, and what becomes of a 0x00 that is no edition's. Assumes nothing.
use mathlib.Core.Path.{◌≡◌, sym, ap, ◌∙◌}
use mathlib.Core.List.{List, [], ◌∷◌, ◌++◌}
use Prim.Native.Nat.{ℕ, ◌+◌}
use native.Mathlib.Omega.{arith}
use lib.ListN.{take}
use Rattle.laws.specs.Lists.{list_to, joined}
use Rattle.pages.specs.Answer.{bytes_of}
use Rattle.pages.specs.Bytes.{byte_at, field}
use Rattle.pages.specs.Edition.{edition_field}
use Rattle.pages.specs.Sheet.{song_bytes, sheet_bytes}
use Rattle.pages.specs.declared.edition.Edition.{Edition}
use Rattle.reader.specs.Fields.{TenFields}
use Rattle.reader.specs.Promise.{Octets, Reads, Makes, RolesIn, EditionTells}
use Rattle.reader.specs.Song.{sheet_of}
use Rattle.reader.specs.declared.song.Song.{Song}
use Rattle.reader.proofs.AskedLaws.{asked_valid, writes_valid}
use Rattle.reader.proofs.PromiseLaws.{reader_promise}
use Rattle.reader.proofs.TellsLaws.{read_tells}
use Rattle.reader.proofs.TestedLaws.{tested_value}

-- ---- how a sheet begins
one_first : (v : Song) → v.edition ≡ Edition.One → byte_at (sheet_of v) 0 ≡ 1
unfolding sheet_bytes song_bytes field
one_first v e = ap (λ (x : Edition). byte_at (sheet_bytes x v.seed v.score v.scale v.form) 0) e

two_first : (v : Song) → v.edition ≡ Edition.Two → take 4 (sheet_of v) ≡ 0 ∷ 0 ∷ 1 ∷ 2 ∷ []
unfolding sheet_bytes song_bytes field
two_first v e = ap (λ (x : Edition). take 4 (sheet_bytes x v.seed v.score v.scale v.form)) e

-- no bytes that begin with another 0x00 are the fields of an edition
other_fields : (bytes : List ℕ) → byte_at bytes 0 ≡ 0 → (take 4 bytes ≡ 0 ∷ 0 ∷ 1 ∷ 2 ∷ [] → ⊥) → TenFields bytes → ⊥
unfolding list_to joined field
other_fields bytes zero other t = go t.edition t.body t.split
  where
    go : (edition : Edition) (body : ℕ → List ℕ) → bytes ≡ edition_field edition ++ joined (list_to (λ k. field (k + 1) (body k)) 10) → ⊥
    go Edition.One body e = let one : byte_at bytes 0 ≡ 1 = ap (λ (b : List ℕ). byte_at b 0) e in omega arith
    go Edition.Two body e = other (ap (take 4) e)

-- ---- what was read
module _ (bytes : List ℕ) (octets : Octets bytes) (v : Song) (reads : Reads bytes v) where
  makes : Makes v bytes
  makes = reader_promise.again v bytes octets reads

  pub sheet_is : sheet_of v ≡ bytes
  sheet_is = ap bytes_of (sym (asked_valid v (writes_valid v bytes makes.asked)) ∙ makes.asked)

  roles_in : RolesIn v
  roles_in =
      let p = tested_value v makes.typed.shape (writes_valid v bytes makes.asked) in
      record { lead = λ i h. (p.lead.used i h).role; keys = λ i h. (p.keys.used i h).role; bass = λ i h. (p.bass.used i h).role }

pub edition_tells : (bytes : List ℕ) → Octets bytes → EditionTells bytes
edition_tells bytes octets = record {
  one_begins = λ v reads e. ap (λ (b : List ℕ). byte_at b 0) (sym (sheet_is bytes octets v reads)) ∙ one_first v e;
  two_begins = λ v reads e. ap (take 4) (sym (sheet_is bytes octets v reads)) ∙ two_first v e;
  other = λ zero other. (read_tells bytes octets).fields (other_fields bytes zero other);
  roles = roles_in bytes octets;
}
