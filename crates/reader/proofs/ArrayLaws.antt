-- What is read is a value of the code's types, and zeros stand behind what is in use. Assumes nothing.
use mathlib.Core.Path.{◌≡◌, refl, sym, ap, ◌∙◌, subst}
use mathlib.Core.Bool.{Bool, true, false, ◌||◌}
use mathlib.Core.List.{List}
use Prim.Native.Nat.{ℕ, ◌+◌, ◌-◌, ◌*◌, ◌≤◌, ◌<◌}
use native.Mathlib.Omega.{arith}
use borrow.Author.Tests.{ltb-true, ltb-false}
use lib.Dec.{eqb, ltb}
use lib.Ieee.{binary32, of_bits, to_bits}
use lib.Ieee.Bits.{of_bits-fits}
use lib.ListN.{length, get_or, take, replicate}
use lib.Seq.{take_at, get_or-take}
use Rattle.laws.specs.Lists.{list_to, pad}
use Rattle.laws.proofs.Lists.{length_list_to, list_to_at, length_pad}
use Rattle.laws.proofs.Written.{rest_is}
use Rattle.composer.specs.Chord.{past_chord}
use Rattle.composer.specs.Form.Plays.{bits_of, silent}
use Rattle.composer.specs.Note.{no_note, past_note, no_hit, past_hit}
use Rattle.pages.specs.Bytes.{byte_at, be32_at}
use Rattle.pages.specs.Edition.{note_width}
use Rattle.pages.specs.declared.edition.Edition.{Edition}
use Rattle.reader.specs.Cleared.{note_zero, hit_zero, notes_zero, hits_zero, scale_zero, plays_zero, score_zero, cleared}
use Rattle.reader.specs.Codes.{plays_coded}
use Rattle.reader.specs.Layout.{edition_in, body_at, size_at, formed}
use Rattle.reader.specs.Song.{note_at, hit_at, notes_at, hits_at, chord_from, scale_at, note_count_in, hit_count_in, score_in, form_in, song_in}
use Rattle.reader.specs.Tests.{all_to}
use Rattle.reader.specs.Value.{TypedNote, TypedHit, TypedLane, Shaped, Typed}
use Rattle.reader.proofs.RoomyLaws.{formed_roomy}
use Rattle.reader.proofs.OctetLaws.{be64_few}
use Rattle.reader.proofs.TestLaws.{all_to_by}

-- ---- an array that begins with f 0, f 1, up to f (n - 1)
module _ {A : Type 0} (z : A) (cap : ℕ) (f : ℕ → A) (n : ℕ) where
  abbrev array : List A
  array = pad z cap (list_to f n)

  pub array_front : take n array ≡ list_to f n
  unfolding pad
  array_front = take_at (list_to f n) (replicate (cap - length (list_to f n)) z) n (length_list_to f n)

  pub array_at : (d : A) (i : ℕ) → i < n → get_or array i d ≡ f i
  array_at d i h = sym (get_or-take n array i d h) ∙ ap (λ (xs : List A). get_or xs i d) array_front ∙ list_to_at f d n i h

  -- and goes on with z
  array_rest : (d : A) (i : ℕ) → n ≤ i → i < cap → get_or array i d ≡ z
  array_rest d i h k = rest_is z cap (list_to f n) i d (omega (arith, length_list_to f n)) k

  -- so a test that z passes holds past those in use
  array_cleared : (unused : A → Bool) (d : A) → unused z ≡ true → all_to (λ i. ltb i n || unused (get_or array i d)) cap ≡ true
  array_cleared unused d e = all_to_by (λ i. ltb i n || unused (get_or array i d)) cap (λ i h. go i (ltb i n) refl h)
    where
      go : (i : ℕ) (t : Bool) → ltb i n ≡ t → i < cap → (t || unused (get_or array i d)) ≡ true
      go i true s h = refl
      go i false s h = ap unused (array_rest d i (ltb-false i n s) h) ∙ e

  array_size : n ≤ cap → length array ≡ cap
  array_size few = length_pad z cap (list_to f n) (omega (arith, length_list_to f n))

  array_typed : (P : A → Type 0) (d : A) → n ≤ cap → ((i : ℕ) → P (f i)) → P z → TypedLane P d cap array
  array_typed P d few p q = record { size = array_size few; each = λ i h. go i (ltb i n) refl h }
    where
      go : (i : ℕ) (t : Bool) → ltb i n ≡ t → i < cap → P (get_or array i d)
      go i true s h = subst P (sym (array_at d i (ltb-true i n s))) (p i)
      go i false s h = subst P (sym (array_rest d i (ltb-false i n s) h)) q

-- ---- unused entries are zero, whatever the bytes
notes_cleared : (edition : Edition) (leads : Bool) (bytes : List ℕ) (at cap n : ℕ) → notes_zero (pad no_note cap (notes_at edition leads bytes at n)) cap n ≡ true
unfolding notes_zero note_zero to_bits of_bits
notes_cleared edition leads bytes at cap n = array_cleared no_note cap (λ i. note_at edition leads bytes (at + note_width edition * i)) n note_zero past_note refl

hits_cleared : (bytes : List ℕ) (at cap n : ℕ) → hits_zero (pad no_hit cap (hits_at bytes at n)) cap n ≡ true
unfolding hits_zero hit_zero to_bits of_bits
hits_cleared bytes at cap n = array_cleared no_hit cap (λ i. hit_at bytes (at + 10 * i)) n hit_zero past_hit refl

scale_cleared : (bytes : List ℕ) (at n : ℕ) → scale_zero (scale_at bytes at n) ≡ true
unfolding scale_zero scale_at
scale_cleared bytes at n = array_cleared 0 6 (λ i. byte_at bytes (at + i)) n (λ pc. eqb pc 0) 0 refl

plays_cleared : (bytes : List ℕ) → plays_zero (form_in bytes) ≡ true
unfolding plays_zero form_in
plays_cleared bytes =
    array_cleared silent 64 (λ b. plays_coded (byte_at bytes (body_at bytes 9 + b))) (size_at bytes 9) (λ p. eqb (bits_of p) 0) silent refl

pub cleared_read : (bytes : List ℕ) → cleared (song_in bytes) ≡ true
unfolding cleared song_in score_zero score_in
cleared_read bytes =
    rw (
      notes_cleared (edition_in bytes) true bytes (body_at bytes 4) 56 (note_count_in bytes 4),
      notes_cleared (edition_in bytes) false bytes (body_at bytes 5) 128 (note_count_in bytes 5),
      hits_cleared bytes (body_at bytes 6) 98 (hit_count_in bytes 6),
      notes_cleared (edition_in bytes) false bytes (body_at bytes 7) 104 (note_count_in bytes 7),
      scale_cleared bytes (body_at bytes 3) (size_at bytes 3),
      plays_cleared bytes,
    )

-- ---- floats that f32 holds, arrays of their lengths, a seed of 64 bits
typed_note : (edition : Edition) (leads : Bool) (bytes : List ℕ) (at : ℕ) → TypedNote (note_at edition leads bytes at)
unfolding note_at
typed_note edition leads bytes at = record {
  at = of_bits-fits binary32 (be32_at bytes (at + 1));
  vel = of_bits-fits binary32 (be32_at bytes (at + 6));
  dur = of_bits-fits binary32 (be32_at bytes (at + 10));
}

typed_hit : (bytes : List ℕ) (at : ℕ) → TypedHit (hit_at bytes at)
unfolding hit_at
typed_hit bytes at = record { at = of_bits-fits binary32 (be32_at bytes (at + 2)); gain = of_bits-fits binary32 (be32_at bytes (at + 6)) }

typed_notes : (edition : Edition) (leads : Bool) (bytes : List ℕ) (at cap n : ℕ) → n ≤ cap → TypedLane TypedNote past_note cap (pad no_note cap (notes_at edition leads bytes at n))
typed_notes edition leads bytes at cap n few =
    let zero = of_bits-fits binary32 0 in
    array_typed no_note cap (λ i. note_at edition leads bytes (at + note_width edition * i)) n TypedNote past_note few (λ i. typed_note edition leads bytes (at + note_width edition * i)) (record { at = zero; vel = zero; dur = zero })

typed_hits : (bytes : List ℕ) (at cap n : ℕ) → n ≤ cap → TypedLane TypedHit past_hit cap (pad no_hit cap (hits_at bytes at n))
typed_hits bytes at cap n few =
    let zero = of_bits-fits binary32 0 in
    array_typed no_hit cap (λ i. hit_at bytes (at + 10 * i)) n TypedHit past_hit few (λ i. typed_hit bytes (at + 10 * i)) (record { at = zero; gain = zero })

module _ (bytes : List ℕ) (ok : formed bytes ≡ true) where
  pub shaped_read : Shaped (song_in bytes)
  unfolding song_in score_in scale_at form_in chord_from
  shaped_read =
      let held = formed_roomy bytes ok in
      record {
        bpm = of_bits-fits binary32 (be32_at bytes (body_at bytes 1));
        chords = record {
          size = length_list_to (λ b. chord_from bytes (body_at bytes 2 + 4 * b)) 8;
          each = λ i h. rw (list_to_at (λ b. chord_from bytes (body_at bytes 2 + 4 * b)) past_chord 8 i h);
        };
        lead = typed_notes (edition_in bytes) true bytes (body_at bytes 4) 56 (note_count_in bytes 4) held.lead_few;
        keys = typed_notes (edition_in bytes) false bytes (body_at bytes 5) 128 (note_count_in bytes 5) held.keys_few;
        hits = typed_hits bytes (body_at bytes 6) 98 (hit_count_in bytes 6) held.hits_few;
        bass = typed_notes (edition_in bytes) false bytes (body_at bytes 7) 104 (note_count_in bytes 7) held.bass_few;
        pcs = array_size 0 6 (λ i. byte_at bytes (body_at bytes 3 + i)) (size_at bytes 3) held.scale_few;
        plays = array_size silent 64 (λ b. plays_coded (byte_at bytes (body_at bytes 9 + b))) (size_at bytes 9) held.plays_few;
      }

  pub typed_read : ((i : ℕ) → byte_at bytes i < 256) → Typed (song_in bytes)
  unfolding song_in
  typed_read octets = record { seed = be64_few bytes octets (body_at bytes 0 + 1); shape = shaped_read }
