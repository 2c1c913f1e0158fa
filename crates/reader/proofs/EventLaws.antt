-- Notes, hits and whole lanes are read back as they were written. Assumes nothing.
use mathlib.Core.Path.{◌≡◌, refl, sym, ap, ◌∙◌}
use mathlib.Core.Bool.{Bool, true, false}
use mathlib.Core.List.{List, [], ◌∷◌, ◌++◌, map, append_assoc}
use Prim.Native.Nat.{ℕ, zero, suc, ◌+◌, ◌*◌, ◌<◌}
use native.Mathlib.Nat.{add_assoc, not-suc-le-zero, le_of_suc-le-suc, mul-suc, mul-zero}
use native.Mathlib.Omega.{arith}
use lib.ListN.{length, get_or, get_or-append}
use lib.Seq.{get_or-append-add, ext_get_or}
use Rattle.laws.specs.Lists.{list_to, joined}
use Rattle.laws.specs.Sorts.{All}
use Rattle.laws.proofs.Lists.{list_to_at, length_list_to}
use Rattle.composer.specs.Note.{role_number_of, kind_number_of}
use Rattle.composer.specs.Plain.{Fits32}
use Rattle.composer.specs.declared.note.DrumKind.{DrumKind}
use Rattle.composer.specs.declared.note.Hit.{Hit}
use Rattle.composer.specs.declared.note.Note.{Note}
use Rattle.composer.specs.declared.note.NoteRole.{NoteRole}
use Rattle.pages.specs.Bytes.{byte_at, f32_at, f32_bytes}
use Rattle.pages.specs.Lane.{sound_bytes, note_bytes, hit_bytes}
use Rattle.pages.specs.declared.edition.Edition.{Edition}
use Rattle.reader.specs.Codes.{lead_role_coded, role_at, kind_coded}
use Rattle.reader.specs.Song.{note_at, hit_at}
use Rattle.reader.specs.Value.{RoleIn}
use Rattle.reader.proofs.NumberLaws.{Shifts, f32_back}

-- ---- one event
-- floats of f32's values, a role that its lane has, and nothing in the gap
pub record StoredNote (edition : Edition) (leads : Bool) (n : Note) : Type 0 where
  pub role : RoleIn edition leads n
  pub at : Fits32 n.at
  pub vel : Fits32 n.vel
  pub dur : Fits32 n.dur
  pub spare : n.spare ≡ 0

pub record StoredHit (h : Hit) : Type 0 where
  pub at : Fits32 h.at
  pub gain : Fits32 h.gain
  pub spare : h.spare ≡ 0

pub note_shifts : (edition : Edition) (leads : Bool) → Shifts (note_at edition leads)
unfolding note_at role_at
note_shifts Edition.One leads xs ys k = simp (add_assoc, get_or-append-add)
note_shifts Edition.Two leads xs ys k = simp (add_assoc, get_or-append-add)

pub hit_shifts : Shifts hit_at
unfolding hit_at
hit_shifts xs ys k = simp (add_assoc, get_or-append-add)

lead_role_back : (r : NoteRole) → lead_role_coded (role_number_of r) ≡ r
lead_role_back NoteRole.Quote = refl
lead_role_back NoteRole.Close = refl
lead_role_back NoteRole.Peak = refl
lead_role_back NoteRole.Resolve = refl
lead_role_back NoteRole.ChordTone = refl
lead_role_back NoteRole.Passing = refl
lead_role_back NoteRole.Backing = refl

role_back : (edition : Edition) (leads : Bool) (n : Note) (rest : List ℕ) → RoleIn edition leads n → role_at edition leads (note_bytes edition n ++ rest) 14 ≡ n.role
unfolding role_at note_bytes sound_bytes
role_back Edition.One leads n rest p = sym p
role_back Edition.Two true n rest p = lead_role_back n.role
role_back Edition.Two false n rest p = rw p

-- what both editions tell stands first in either
sound_first : (edition : Edition) (n : Note) (rest : List ℕ) → (byte_at (note_bytes edition n ++ rest) 0 ≡ n.bar) × (byte_at (note_bytes edition n ++ rest) 5 ≡ n.midi)
unfolding note_bytes sound_bytes
sound_first Edition.One n rest = (refl, refl)
sound_first Edition.Two n rest = (refl, refl)

floats_back : (edition : Edition) (leads : Bool) (n : Note) (rest : List ℕ) → StoredNote edition leads n
    → (f32_at (note_bytes edition n ++ rest) 1 ≡ n.at) × (f32_at (note_bytes edition n ++ rest) 6 ≡ n.vel) × (f32_at (note_bytes edition n ++ rest) 10 ≡ n.dur)
unfolding note_bytes sound_bytes
floats_back Edition.One leads n rest p = (
  f32_back n.at (n.midi ∷ (f32_bytes n.vel ++ (f32_bytes n.dur ++ rest))) p.at,
  f32_back n.vel (f32_bytes n.dur ++ rest) p.vel,
  f32_back n.dur rest p.dur,
)
floats_back Edition.Two leads n rest p =
    let last = role_number_of n.role ∷ rest in (
      f32_back n.at (n.midi ∷ (f32_bytes n.vel ++ (f32_bytes n.dur ++ last))) p.at,
      f32_back n.vel (f32_bytes n.dur ++ last) p.vel,
      f32_back n.dur last p.dur,
    )

pub note_back : (edition : Edition) (leads : Bool) (n : Note) (rest : List ℕ) → StoredNote edition leads n → note_at edition leads (note_bytes edition n ++ rest) 0 ≡ n
unfolding note_at
note_back edition leads n rest p =
    let s = sound_first edition n rest in
    let f = floats_back edition leads n rest p in
    rw (s.0, s.1, f.0, f.1, f.2, role_back edition leads n rest p.role, ← p.spare)

kind_back : (k : DrumKind) → kind_coded (kind_number_of k) ≡ k
kind_back DrumKind.Kick = refl
kind_back DrumKind.Snare = refl
kind_back DrumKind.Hat = refl
kind_back DrumKind.OpenHat = refl

pub hit_back : (h : Hit) (rest : List ℕ) → StoredHit h → hit_at (hit_bytes h ++ rest) 0 ≡ h
unfolding hit_at hit_bytes
hit_back h rest p =
    let a : f32_at (hit_bytes h ++ rest) 2 ≡ h.at = f32_back h.at (f32_bytes h.gain ++ rest) p.at in
    let b : f32_at (hit_bytes h ++ rest) 6 ≡ h.gain = f32_back h.gain rest p.gain in
    rw (a, b, kind_back h.kind, ← p.spare)

-- ---- many, each of w bytes
module _ {A : Type 0} (w : ℕ) (f : List ℕ → ℕ → A) (g : A → List ℕ) (P : A → Type 0)
    (wide : (x : A) → P x → length (g x) ≡ w) (shifts : Shifts f) (back : (x : A) (rest : List ℕ) → P x → f (g x ++ rest) 0 ≡ x) where
  entry_back : (xs : List A) (rest : List ℕ) (i : ℕ) (d : A) → All P xs → i < length xs → f (joined (map g xs) ++ rest) (w * i) ≡ get_or xs i d
  unfolding joined
  entry_back [] rest i d a h = absurd (not-suc-le-zero h)
  entry_back (x ∷ xs) rest zero d a h = rw (append_assoc, mul-zero w) (back x (joined (map g xs) ++ rest) a.0)
  entry_back (x ∷ xs) rest (suc i) d a h =
      let e : w * suc i ≡ length (g x) + w * i = omega (arith, mul-suc w i, wide x a.0) in
      rw (append_assoc, e) (shifts (g x) (joined (map g xs) ++ rest) (w * i) ∙ entry_back xs rest i d a.1 (le_of_suc-le-suc h))

  -- from a place on, by which the bytes read as these entries do
  pub entries_back : (bytes : List ℕ) (at : ℕ) (xs : List A) (rest : List ℕ) (d : A) → All P xs → ((j : ℕ) → f bytes (at + j) ≡ f (joined (map g xs) ++ rest) j)
      → list_to (λ i. f bytes (at + w * i)) (length xs) ≡ xs
  entries_back bytes at xs rest d a reads =
      let l = length_list_to (λ i. f bytes (at + w * i)) (length xs) in
      ext_get_or d (list_to (λ i. f bytes (at + w * i)) (length xs)) xs l (λ i h.
      let k : i < length xs = omega (arith, l) in
      list_to_at (λ i. f bytes (at + w * i)) d (length xs) i k ∙ reads (w * i) ∙ entry_back xs rest i d a k)

-- ---- many, each of one byte
pub bytes_back : {A : Type 0} (f : ℕ → A) (bytes : List ℕ) (at : ℕ) (body rest : List ℕ) (xs : List A) (d : A) → length body ≡ length xs
    → ((i : ℕ) → i < length xs → f (byte_at body i) ≡ get_or xs i d) → ((j : ℕ) → byte_at bytes (at + j) ≡ byte_at (body ++ rest) j)
    → list_to (λ i. f (byte_at bytes (at + i))) (length xs) ≡ xs
bytes_back f bytes at body rest xs d same back reads =
    let l = length_list_to (λ i. f (byte_at bytes (at + i))) (length xs) in
    ext_get_or d (list_to (λ i. f (byte_at bytes (at + i))) (length xs)) xs l (λ i h.
    let k : i < length xs = omega (arith, l) in
    list_to_at (λ i. f (byte_at bytes (at + i))) d (length xs) i k
    ∙ ap f (reads i ∙ get_or-append body rest 0 i (omega (arith, same))) ∙ back i k)
