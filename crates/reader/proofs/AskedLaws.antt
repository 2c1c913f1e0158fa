-- What the reader takes, and what the writer is asked. Assumes nothing.
use mathlib.Core.Path.{◌≡◌, refl, sym, ap, ◌∙◌}
use mathlib.Core.Bool.{Bool, true, false, ◌&&◌, cond}
use mathlib.Core.List.{List}
use Prim.Native.Nat.{ℕ}
use native.Mathlib.Omega.{arith}
use Rattle.std.proofs.Common.{Ok, Err}
use Rattle.laws.proofs.Bools.{both}
use Rattle.composer.specs.declared.refusal.Refusal.{Refusal}
use Rattle.pages.specs.Answer.{Writes, Declines}
use Rattle.reader.specs.Cleared.{cleared}
use Rattle.reader.specs.Codes.{coded}
use Rattle.reader.specs.Layout.{formed}
use Rattle.reader.specs.Inner.Tested.{tested_of}
use Rattle.reader.specs.Read.{read_by, read_of, write_asked}
use Rattle.reader.specs.Song.{song_in, sheet_of}
use Rattle.reader.specs.Value.{valid}
use Rattle.reader.specs.Within.{within}
use Rattle.reader.specs.declared.song.Song.{Song}
use Rattle.reader.proofs.ArrayLaws.{cleared_read}

-- ---- the writer
pub tests_valid : (v : Song) {w z t : Bool} → w ≡ within v → z ≡ cleared v → (w && z) ≡ t → valid v ≡ t
unfolding valid
tests_valid v p q e = rw (p, q) at e

pub asked_valid : (v : Song) → valid v ≡ true → write_asked v ≡ Writes (sheet_of v)
unfolding write_asked
asked_valid v e = rw e

pub asked_other : (v : Song) → valid v ≡ false → write_asked v ≡ Declines Refusal.Malformed
unfolding write_asked
asked_other v e = rw e

written_by : (t : Bool) (written bytes : List ℕ) → cond t (Writes written) (Declines Refusal.Malformed) ≡ Writes bytes → t ≡ true
written_by true written bytes e = refl
written_by false written bytes e = let z : ◌≡◌ {A = ℕ} 0 1 = cc in absurd (omega arith)

-- nothing else is written
pub writes_valid : (v : Song) (bytes : List ℕ) → write_asked v ≡ Writes bytes → valid v ≡ true
unfolding write_asked
writes_valid v bytes e = written_by (valid v) (sheet_of v) bytes e

-- ---- the reader
-- the bytes pass its tests
pub record Passes (bytes : List ℕ) : Type 0 where
  pub formed : formed bytes ≡ true
  pub coded : coded bytes ≡ true
  pub within : within (song_in bytes) ≡ true

-- what is given passed both tests
by_tests : {A : Type 0} (a b : Bool) (x y : A) → read_by a b x ≡ Ok y → (a ≡ true) × (b ≡ true) × (x ≡ y)
by_tests true true x y e = (refl, refl, cc)
by_tests true false x y e = let z : ◌≡◌ {A = ℕ} 0 1 = cc in absurd (omega arith)
by_tests false b x y e = let z : ◌≡◌ {A = ℕ} 0 1 = cc in absurd (omega arith)

-- a refusal is the tests' own, whatever else would be given
refused_by : {A B : Type 0} (a b : Bool) (x : A) (y : B) (r : Refusal) → read_by a b x ≡ Err r → read_by a b y ≡ Err r
refused_by true true x y r e = let z : ◌≡◌ {A = ℕ} 0 1 = cc in absurd (omega arith)
refused_by true false x y r e = let z : Refusal.SheetValues ≡ r = cc in ap (λ (q : Refusal). Err q) z
refused_by false b x y r e = let z : Refusal.SheetFields ≡ r = cc in ap (λ (q : Refusal). Err q) z

passed : (bytes : List ℕ) → formed bytes ≡ true → (coded bytes && within (song_in bytes)) ≡ true → Passes bytes
passed bytes f e = let b = both (coded bytes) (within (song_in bytes)) e in record { formed = f; coded = b.0; within = b.1 }

pub tested_passes : (bytes out : List ℕ) → tested_of bytes ≡ Ok out → Passes bytes
unfolding tested_of
tested_passes bytes out e =
    let a = by_tests (formed bytes) (coded bytes && within (song_in bytes)) bytes out e in
    passed bytes a.0 a.1

-- what is told of a sheet is told of its own bytes
pub tested_same : (bytes out : List ℕ) → tested_of bytes ≡ Ok out → bytes ≡ out
unfolding tested_of
tested_same bytes out e = (by_tests (formed bytes) (coded bytes && within (song_in bytes)) bytes out e).2

-- a refusal is what reading answers, and nothing else
pub read_refused_lem : (bytes : List ℕ) (r : Refusal) → tested_of bytes ≡ Err r → read_of bytes ≡ Err r
unfolding tested_of read_of
read_refused_lem bytes r e = refused_by (formed bytes) (coded bytes && within (song_in bytes)) bytes (song_in bytes) r e

pub passes : (bytes : List ℕ) (v : Song) → read_of bytes ≡ Ok v → Passes bytes
unfolding read_of
passes bytes v e =
    let a = by_tests (formed bytes) (coded bytes && within (song_in bytes)) (song_in bytes) v e in
    passed bytes a.0 a.1

pub passes_read : (bytes : List ℕ) → Passes bytes → read_of bytes ≡ Ok (song_in bytes)
unfolding read_of
passes_read bytes t = rw (t.formed, t.coded, t.within)

pub read_song : (bytes : List ℕ) (v : Song) → read_of bytes ≡ Ok v → v ≡ song_in bytes
read_song bytes v e = let z = sym e ∙ passes_read bytes (passes bytes v e) in cc

read_within : (bytes : List ℕ) (v : Song) → read_of bytes ≡ Ok v → within v ≡ true
read_within bytes v e = ap within (read_song bytes v e) ∙ (passes bytes v e).within

pub read_valid : (bytes : List ℕ) (v : Song) → read_of bytes ≡ Ok v → valid v ≡ true
unfolding valid
read_valid bytes v e = rw (read_within bytes v e) (ap cleared (read_song bytes v e) ∙ cleared_read bytes)
