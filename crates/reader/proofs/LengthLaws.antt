-- A field's length fits exactly if some value has it there, and ten that fit are had by one value at once. Assumes
-- nothing.
use mathlib.Core.Path.{◌≡◌, refl, sym, ap, ◌∙◌}
use mathlib.Core.Bool.{Bool, true, false, cond}
use Prim.Native.Nat.{ℕ, ◌*◌, ◌<◌}
use borrow.Author.Tests.{eqb-true, eq-eqb}
use lib.Dec.{eqb}
use lib.ListN.{get_or}
use Rattle.pages.specs.declared.edition.Edition.{Edition}
use Rattle.reader.specs.Layout.{edition_in, size_at, widths, least, length_fits}
use Rattle.reader.specs.Lengths.{Had}
use Rattle.reader.specs.Song.{sheet_of}
use Rattle.reader.specs.Tests.{all_to}
use Rattle.reader.specs.Value.{valid, Typed}
use Rattle.reader.specs.declared.song.Song.{Song}
use Rattle.reader.proofs.BlankLaws.{lengths_had}
use Rattle.reader.proofs.FitLaws.{formed_fits}
use Rattle.reader.proofs.FormedLaws.{sheet_formed}
use Rattle.reader.proofs.SongLaws.{as_fields, edition_read}
use Rattle.reader.proofs.TestLaws.{all_to_at}
use Rattle.reader.proofs.TestedLaws.{tested_value}

-- ---- what fits is had
-- fields as short as they can be
abbrev pub shortest : Edition → ℕ → ℕ
shortest edition j = get_or least j 0 * get_or (widths edition) j 0

shortest_tests : (edition : Edition) → all_to (λ j. length_fits edition j (shortest edition j)) 10 ≡ true
unfolding all_to length_fits
shortest_tests Edition.One = refl
shortest_tests Edition.Two = refl

pub shortest_fits : (edition : Edition) (j : ℕ) → j < 10 → length_fits edition j (shortest edition j) ≡ true
shortest_fits edition j h = all_to_at (λ j. length_fits edition j (shortest edition j)) 10 (shortest_tests edition) j h

-- n bytes in field k, the other fields as short as they can be
abbrev lengths_by : Edition → ℕ → ℕ → ℕ → ℕ
lengths_by edition k n j = cond (eqb j k) n (shortest edition j)

pub length_had : (edition : Edition) (k n : ℕ) → k < 10 → length_fits edition k n ≡ true → Had edition k n
length_had edition k n h e =
    let all = lengths_had edition (lengths_by edition k n) (λ j i. go j i (eqb j k) refl) in
    record { v = all.v; of = all.of; valid = all.valid; typed = all.typed; size = all.sizes k h ∙ ap (λ (t : Bool). cond t n (shortest edition k)) (eq-eqb k k refl) }
  where
    go : (j : ℕ) → j < 10 → (t : Bool) → eqb j k ≡ t → length_fits edition j (cond t n (shortest edition j)) ≡ true
    go j i true q = rw (eqb-true j k q) e
    go j i false q = shortest_fits edition j i

-- ---- what is had fits
pub length_fits_lem : (k : ℕ) → k < 10 → (v : Song) → Typed v → valid v ≡ true → length_fits v.edition k (size_at (sheet_of v) k) ≡ true
length_fits_lem k h v t e =
    let told : edition_in (sheet_of v) ≡ v.edition = ap edition_in (as_fields v) ∙ edition_read v in
    ap (λ (x : Edition). length_fits x k (size_at (sheet_of v) k)) (sym told) ∙ formed_fits (sheet_of v) (sheet_formed v (tested_value v t.shape e)) k h

pub had_fits : (edition : Edition) (k n : ℕ) → k < 10 → Had edition k n → length_fits edition k n ≡ true
had_fits edition k n h d = rw (← d.size, ← d.of) (length_fits_lem k h d.v d.typed d.valid)
