-- What the code's types say of a value: how long its arrays are, and which numbers it holds. Assumes nothing.
use mathlib.Core.Bool.{true}
use mathlib.Core.Path.{◌≡◌, sym, subst}
use mathlib.Core.List.{List, [], ◌∷◌}
use Prim.Native.Nat.{ℕ, zero, suc, ◌<◌}
use native.Mathlib.Nat.{not-suc-le-zero, le_of_suc-le-suc}
use native.Mathlib.Omega.{arith}
use mir.Val.{Val}
use denote.Array.{Array, each}
use denote.Builtin.{u8}
use denote.Laws.{Is}
use denote.RattleType.{RattleType}
use denote.Shadow.{shadow}
use lib.Dec.{T}
use lib.Ieee.{Float, fits, binary32}
use lib.ListN.{length, get_or}
use Rattle.composer.specs.Chord.{past_chord}
use Rattle.composer.specs.Note.{past_note, past_hit}
use Rattle.composer.specs.Plain.{Fits32}
use Rattle.composer.specs.declared.chord.Chord.{Chord}
use Rattle.composer.specs.declared.note.Hit.{Hit}
use Rattle.composer.specs.declared.note.Note.{Note}
use Rattle.composer.specs.contracts.chord.Chord as chord
use Rattle.composer.specs.contracts.form.plays.Plays as plays
use Rattle.composer.specs.contracts.note.Hit as hit
use Rattle.composer.specs.contracts.note.Note as note
use Rattle.reader.specs.Value.{TypedNote, TypedHit, TypedLane, Typed}
use Rattle.reader.specs.declared.song.Song.{Song}
use Rattle.reader.specs.contracts.song.Song as song

-- x is of the code's type R, at these machine values: what a proof is handed of a parameter. Of a struct, its fields
-- stand in their order behind two `.1`; of an array, `.1 .0 .1` is its length and `.1 .1` is of its entries; of a
-- number, `.1` says that its type holds it.
abbrev pub OfType : (R : RattleType) → R.Denot → List Val → Type 0
OfType R x us = Is R x us

float_fits : (x : Float) → fits binary32 x ≡ true → Fits32 x
float_fits x e = subst T (sym e) tt

-- ---- an array has as many entries as its type says, and what their type says holds of each
long : (R : RattleType) (n : ℕ) (xs : List R.Denot) (us : List Val) → OfType (Array R n) xs us → length xs ≡ n
long R n xs us p = p.1.0.1

module _ (R : RattleType) (P : R.Denot → Type 0) (d : R.Denot) (told : (x : R.Denot) (us : List Val) → OfType R x us → P x) where
  entry : (xs : List R.Denot) (us : List Val) (i : ℕ) → shadow (each R.Denot R.own_val xs us) → i < length xs → P (get_or xs i d)
  entry [] us i p h = absurd (not-suc-le-zero h)
  entry (x ∷ xs) [] i p h = absurd p
  entry (x ∷ xs) (u ∷ us) zero p h = told x (u ∷ []) p.0
  entry (x ∷ xs) (u ∷ us) (suc i) p h = entry xs us i p.1 (le_of_suc-le-suc h)

  lane : (n : ℕ) (xs : List R.Denot) (us : List Val) → OfType (Array R n) xs us → TypedLane P d n xs
  lane n xs us p =
      let e = long R n xs us p in
      record { size = e; each = λ i h. entry xs p.0 i p.1.1 (omega arith) }

-- ---- the entries
chord_long : (c : Chord) (us : List Val) → OfType chord.the_row c us → length c.notes ≡ 4
chord_long c us p = long u8 4 c.notes _ p.1.1.0

note_typed : (n : Note) (us : List Val) → OfType note.the_row n us → TypedNote n
note_typed n us p =
    let from = p.1.1.1.1.1.1 in
    record { at = float_fits n.at from.0.1; vel = float_fits n.vel from.1.0.1; dur = float_fits n.dur from.1.1.0.1 }

hit_typed : (h : Hit) (us : List Val) → OfType hit.the_row h us → TypedHit h
hit_typed h us p =
    let from = p.1.1.1.1.1 in
    record { at = float_fits h.at from.0.1; gain = float_fits h.gain from.1.0.1 }

-- ---- the song
notes_typed : (n : ℕ) (xs : List Note) (us : List Val) → OfType (Array note.the_row n) xs us → TypedLane TypedNote past_note n xs
notes_typed = lane note.the_row TypedNote past_note note_typed

pub song_typed : (v : Song) (us : List Val) → OfType song.the_row v us → Typed v
song_typed v us p =
    let from = p.1.1.1 in
    let s = v.score in
    let bpm = from.1.0.1.1.1 in
    let lanes = bpm.1.1 in
    let hits = lanes.1.1 in
    record {
      seed = from.0.1;
      shape = record {
        bpm = float_fits s.bpm bpm.0.1;
        chords = lane chord.the_row (λ c. length c.notes ≡ 4) past_chord chord_long 8 s.bar_chords _ bpm.1.0;
        lead = notes_typed 56 s.lead.at _ lanes.0.1.1.0;
        keys = notes_typed 128 s.keys.at _ lanes.1.0.1.1.0;
        hits = lane hit.the_row TypedHit past_hit hit_typed 98 s.hits.at _ hits.0.1.1.0;
        bass = notes_typed 104 s.bass.at _ hits.1.0.1.1.0;
        pcs = long u8 6 v.scale.pcs _ from.1.1.0.1.1.0;
        plays = long plays.the_row 64 v.form.plays _ from.1.1.1.0.1.1.1.1.1.1.0;
      };
    }
