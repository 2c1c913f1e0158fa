-- A sheet with no hit is taken, in either edition, and it is no seed's: every composed song has a hit in each loop
-- bar. Assumes nothing.
use mathlib.Core.Path.{◌≡◌, refl, ap, ◌∙◌}
use mathlib.Core.List.{List}
use Prim.Native.Nat.{ℕ, ◌*◌, ◌<◌}
use native.Mathlib.Omega.{arith}
use borrow.Author.Tests.{ltb-true}
use lib.Dec.{T, ltb, lit<}
use lib.Ieee.{to_bits, of_bits}
use Rattle.laws.specs.Lists.{all_of, joined}
use Rattle.laws.proofs.Bools.{holds}
use Rattle.laws.proofs.Lists.{all_at}
use Rattle.composer.specs.Compose.{composed_of}
use Rattle.composer.specs.declared.score.Score.{Score}
use Rattle.composer.specs.declared.style.Style.{Style}
use Rattle.composer.proofs.ComposeLaws.{song_promise}
use Rattle.pages.specs.Bytes.{byte_at, field}
use Rattle.pages.specs.Sheet.{song_bytes, lanes_bytes, form_bytes, sheet_bytes}
use Rattle.pages.specs.declared.edition.Edition.{Edition}
use Rattle.reader.specs.Composed.{told_in, composed_song}
use Rattle.reader.specs.Layout.{size_at}
use Rattle.reader.specs.Promise.{Reads, NoSeed}
use Rattle.reader.specs.Song.{sheet_of}
use Rattle.reader.specs.Value.{Value}
use Rattle.reader.specs.declared.song.Song.{Song}
use Rattle.reader.proofs.BlankLaws.{blank_song, blank_value}
use Rattle.reader.proofs.ComposedLaws.{composed_value}
use Rattle.reader.proofs.LengthLaws.{shortest, shortest_fits}
use Rattle.reader.proofs.PromiseLaws.{sheet_back}
use Rattle.reader.proofs.SongLaws.{as_fields, hits_size}
use Rattle.reader.proofs.ValueLaws.{value_valid, value_typed, value_stored}

-- how many bytes of hits a value's sheet has
hits_bytes : (v : Song) → Value v → size_at (sheet_of v) 6 ≡ 10 * v.score.hits.n
hits_bytes v p = ap (λ (b : List ℕ). size_at b 6) (as_fields v) ∙ hits_size v (value_stored v p)

-- an edition tells all hits
hits_kept : (edition : Edition) (s : Score) → (told_in edition s).hits.n ≡ s.hits.n
hits_kept Edition.One s = refl
hits_kept Edition.Two s = refl

-- a seed's has some
seed_hits : (edition : Edition) (style : Style) (seed : ℕ) → 0 < size_at (sheet_of (composed_song edition style seed)) 6
seed_hits edition style seed =
    omega (arith, hits_bytes (composed_song edition style seed) (composed_value style seed edition), hits_kept edition (composed_of style seed).score, ((song_promise style seed).score.hit_in_each 0 (omega arith)).until)

-- ---- the shortest song of zeros has none
module _ (edition : Edition) where
  abbrev bare : Song
  bare = blank_song edition (shortest edition)

  bare_value : Value bare
  bare_value = blank_value edition (shortest edition) (shortest_fits edition)

  bare_reads : Reads (sheet_of bare) bare
  bare_reads = sheet_back bare (value_typed bare bare_value (lit< tt)) (value_valid bare bare_value)

  bare_other : (e : Edition) (style : Style) (seed : ℕ) → sheet_of (composed_song e style seed) ≡ sheet_of bare → ⊥
  bare_other e style seed same = omega (arith, seed_hits e style seed, ap (λ (b : List ℕ). size_at b 6) same, hits_bytes bare bare_value)

-- its bytes, computed
bytes_few : (edition : Edition) → T (all_of (λ b. ltb b 256) (sheet_of (bare edition)))
unfolding all_of sheet_bytes song_bytes lanes_bytes form_bytes joined field of_bits to_bits
bytes_few Edition.One = tt
bytes_few Edition.Two = tt

pub no_seed : (edition : Edition) → NoSeed edition
no_seed edition =
    let bytes = sheet_of (bare edition) in
    record {
      bytes = bytes;
      octets = λ i. ltb-true (byte_at bytes i) 256 (holds (ltb (byte_at bytes i) 256) (all_at (λ b. ltb b 256) 0 tt bytes (bytes_few edition) i));
      v = bare edition;
      of = refl;
      reads = bare_reads edition;
      other = λ e style seed h. bare_other edition e style seed;
    }
