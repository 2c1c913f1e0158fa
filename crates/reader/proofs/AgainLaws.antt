-- What is read and written again gives the same bytes. Assumes nothing.
use mathlib.Core.Path.{◌≡◌, refl, sym, ap, ◌∙◌}
use mathlib.Core.Bool.{Bool, true, false, cond}
use mathlib.Core.List.{List, [], ◌∷◌, ◌++◌, map, map-append}
use Prim.Native.Nat.{ℕ, zero, suc, ◌+◌, ◌*◌, ◌<◌}
use native.Mathlib.Nat.{add-zero}
use native.Mathlib.Omega.{arith}
use borrow.Author.Tests.{eqb-true, leb-true, ltb-true}
use lib.Dec.{eqb, leb, ltb}
use lib.Ieee.Scale.{finite}
use lib.ListN.{length, get_or, take}
use Rattle.laws.specs.Lists.{list_to, pad, joined}
use Rattle.laws.proofs.Bools.{both, holds}
use Rattle.composer.specs.Compose.{style_by}
use Rattle.composer.specs.Form.Ends.{end_code_of, end_bars_of, outro_code_of, outro_length_of}
use Rattle.composer.specs.Form.Plays.{bits_of, silent}
use Rattle.composer.specs.Harmony.{notes_of}
use Rattle.composer.specs.Harmony.{notes_in as chordNotes}
use Rattle.composer.specs.Lead.Scale.{pcs_of}
use Rattle.composer.specs.Note.{no_note, past_note, no_hit, past_hit, role_number_of, kind_number_of}
use Rattle.composer.specs.Style.{style_number_of}
use Rattle.composer.specs.Voice.{voice_number_of}
use Rattle.composer.specs.declared.note.Hit.{Hit}
use Rattle.composer.specs.declared.note.Note.{Note}
use Rattle.pages.specs.Bytes.{byte_at, be16_at, be64, be64_at, field}
use Rattle.pages.specs.Edition.{note_width, edition_field, edition_size}
use Rattle.pages.specs.Lane.{sound_bytes, note_bytes, hit_bytes}
use Rattle.pages.specs.declared.edition.Edition.{Edition}
use Rattle.reader.specs.Codes.{voice_coded, role_at, kind_coded, end_coded, outro_coded, plays_coded, end_known, outro_known, name_known, kinds_known, ends_known, plays_known, coded}
use Rattle.reader.specs.Layout.{edition_in, start_at, body_at, size_at, led, formed}
use Rattle.reader.specs.Song.{note_at, hit_at, notes_at, hits_at, chord_from, chords_from, scale_at, note_count_in, hit_count_in, score_in, plays_from, form_in, song_in, sheet_of}
use Rattle.reader.specs.Within.{role_within, note_within, hit_within, notes_within, hits_within, within}
use Rattle.reader.proofs.ArrayLaws.{array_front, array_at}
use Rattle.reader.proofs.CodeLaws.{style_again, voice_again, role_again, kind_again, dip_again, plays_again, end_again, outro_again}
use Rattle.reader.proofs.FitLaws.{whole_size, last_start_lem, led_read, tag_read, entries}
use Rattle.reader.proofs.RoomyLaws.{first_start, next_start}
use Rattle.reader.proofs.OctetLaws.{be16_span, be64_span, f32_span}
use Rattle.reader.proofs.SongLaws.{the_ten, as_fields}
use Rattle.reader.proofs.SpanLaws.{Span, span_none, span_then, span_byte, span_cons, span_to, span_whole, span_list, span_bytes, span_entries}
use Rattle.reader.proofs.TestLaws.{all_to_at}
use Rattle.reader.proofs.TestedLaws.{note_told, hit_told, notes_told, hits_told, score_told, within_told}
use Rattle.reader.proofs.ValueLaws.{role_in}

-- ---- what the tests say, one by one
note_finite : (edition : Edition) (leads : Bool) (n : Note) → note_within edition leads n ≡ true → (finite n.at ≡ true) × (finite n.vel ≡ true) × (finite n.dur ≡ true)
note_finite edition leads n e =
    let f = (note_told edition leads n e).3 in
    (holds (finite n.at) f.at, holds (finite n.vel) f.vel, holds (finite n.dur) f.dur)

-- and its role
role_kept : (edition : Edition) (leads : Bool) (n : Note) → note_within edition leads n ≡ true → role_within edition leads n.role ≡ true
role_kept edition leads n e = role_in edition leads n (note_told edition leads n e).4

hit_finite : (h : Hit) → hit_within h ≡ true → (finite h.at ≡ true) × (finite h.gain ≡ true)
hit_finite h e =
    let f = (hit_told h e).2 in
    (holds (finite h.at) f.at, holds (finite h.gain) f.gain)

codes : (bytes : List ℕ) → coded bytes ≡ true
    → (name_known bytes (body_at bytes 0) ≡ true) × (kinds_known bytes (body_at bytes 6) (hit_count_in bytes 6) ≡ true)
    × (ends_known bytes (body_at bytes 8) ≡ true) × (plays_known bytes (body_at bytes 9) (size_at bytes 9) ≡ true)
unfolding coded
codes bytes e =
    let a = both _ (plays_known bytes (body_at bytes 9) (size_at bytes 9)) e in
    let b = both _ (ends_known bytes (body_at bytes 8)) a.0 in
    let c = both (name_known bytes (body_at bytes 0)) (kinds_known bytes (body_at bytes 6) (hit_count_in bytes 6)) b.0 in
    (c.0, c.1, b.1, a.1)

-- ---- bodies of single bytes
map_list_to : {A B : Type 0} (g : A → B) (f : ℕ → A) (n : ℕ) → map g (list_to f n) ≡ list_to (λ i. g (f i)) n
unfolding list_to
map_list_to g f zero = refl
map_list_to g f (suc n) = rw (map-append, map_list_to g f n)

module _ (bytes : List ℕ) where
  chord_span : (at : ℕ) → Span bytes at (at + 4) (chordNotes (chord_from bytes at))
  unfolding chord_from list_to
  chord_span at = rw (add-zero at) at (span_bytes {bytes = bytes} at 4)

  chords_span : (at : ℕ) → Span bytes at (at + 32) (joined (notes_of (chords_from bytes at)))
  chords_span at = span_entries 4 at (λ b. chord_from bytes (at + 4 * b)) chordNotes 8 (λ i h. chord_span (at + 4 * i))

  scale_span : (at n : ℕ) → Span bytes at (at + n) (pcs_of (scale_at bytes at n))
  unfolding scale_at
  scale_span at n = rw (array_front 0 6 (λ i. byte_at bytes (at + i)) n) (span_bytes at n)

  -- intro, phrases, outro, dip
  ends_span : (at : ℕ) → ends_known bytes at ≡ true
      → let intro = end_coded (byte_at bytes at) (byte_at bytes (at + 1)) in
      let outro = outro_coded (byte_at bytes (at + 3)) (byte_at bytes (at + 4)) in
      Span bytes at (at + 6) (end_code_of intro ∷ end_bars_of intro ∷ byte_at bytes (at + 2) ∷ outro_code_of outro ∷ outro_length_of outro ∷ cond (eqb (byte_at bytes (at + 5)) 1) 1 0 ∷ [])
  unfolding ends_known list_to
  ends_span at e =
      let a = both _ (leb (byte_at bytes (at + 5)) 1) e in
      let b = both (end_known (byte_at bytes at) (byte_at bytes (at + 1))) (outro_known (byte_at bytes (at + 3)) (byte_at bytes (at + 4))) a.0 in
      let intro = end_again (byte_at bytes at) (byte_at bytes (at + 1)) b.0 in
      let outro = outro_again (byte_at bytes (at + 3)) (byte_at bytes (at + 4)) b.1 in
      let dip = leb-true (byte_at bytes (at + 5)) 1 a.1 in
      rw (intro.0, intro.1, outro.0, outro.1, dip_again (byte_at bytes (at + 5)) (omega arith))
      (rw (add-zero at) at (span_bytes {bytes = bytes} at 6))

  plays_span : (at n : ℕ) → plays_known bytes at n ≡ true → Span bytes at (at + n) (map bits_of (take n (pad silent 64 (plays_from bytes at n))))
  unfolding plays_known
  plays_span at n e =
      rw (array_front silent 64 (λ b. plays_coded (byte_at bytes (at + b))) n, map_list_to bits_of (λ b. plays_coded (byte_at bytes (at + b))) n)
      (span_list at n (λ b. bits_of (plays_coded (byte_at bytes (at + b)))) (λ b h.
      sym (plays_again (byte_at bytes (at + b)) (ltb-true (byte_at bytes (at + b)) 16 (all_to_at (λ b. ltb (byte_at bytes (at + b)) 16) n e b h)))))

-- ---- bodies of numbers
-- a lane: n entries of w bytes, each written again if it passes its test
lane_span : {A : Type 0} {bytes : List ℕ} (w at : ℕ) (f : ℕ → A) (g : A → List ℕ) (z d : A) (cap n : ℕ) (fit : A → Bool)
    → ((i : ℕ) → i < n → fit (get_or (pad z cap (list_to f n)) i d) ≡ true)
    → ((i : ℕ) → i < n → fit (f i) ≡ true → Span bytes (at + w * i) (at + w * i + w) (g (f i)))
    → Span bytes at (at + w * n) (joined (map g (take n (pad z cap (list_to f n)))))
lane_span w at f g z d cap n fit tests one =
    rw (array_front z cap f n) (span_entries w at f g n (λ i h.
    one i h (ap fit (sym (array_at z cap f n d i h)) ∙ tests i h)))

module _ (bytes : List ℕ) (octets : (i : ℕ) → byte_at bytes i < 256) where
  -- what both editions tell
  sound_span : (edition : Edition) (leads : Bool) (at : ℕ) → note_within edition leads (note_at edition leads bytes at) ≡ true → Span bytes at (at + 14) (sound_bytes (note_at edition leads bytes at))
  unfolding note_at sound_bytes
  sound_span edition leads at e =
      let f = note_finite edition leads (note_at edition leads bytes at) e in
      span_cons at (byte_at bytes at) refl refl
      (span_then (f32_span bytes octets (at + 1) (at + 5) (omega arith) f.0)
      (span_cons (at + 5) (byte_at bytes (at + 5)) (omega arith) refl
      (span_then (f32_span bytes octets (at + 6) (at + 10) (omega arith) f.1)
      (f32_span bytes octets (at + 10) (at + 14) (omega arith) f.2))))

  -- and in edition 2 the role
  role_here : (leads : Bool) (at : ℕ) → note_within Edition.Two leads (note_at Edition.Two leads bytes at) ≡ true → byte_at bytes (at + 14) ≡ role_number_of (note_at Edition.Two leads bytes at).role
  unfolding note_at role_at
  role_here leads at e = sym (role_again leads (byte_at bytes (at + 14)) (role_kept Edition.Two leads (note_at Edition.Two leads bytes at) e))

  note_span : (edition : Edition) (leads : Bool) (at : ℕ) → note_within edition leads (note_at edition leads bytes at) ≡ true
      → Span bytes at (at + note_width edition) (note_bytes edition (note_at edition leads bytes at))
  unfolding note_bytes
  note_span Edition.One leads at e = sound_span Edition.One leads at e
  note_span Edition.Two leads at e = span_then (sound_span Edition.Two leads at e) (span_byte (at + 14) (at + 15) (role_number_of (note_at Edition.Two leads bytes at).role) (omega arith) (role_here leads at e))

  hit_span : (at : ℕ) → byte_at bytes (at + 1) < 4 → hit_within (hit_at bytes at) ≡ true → Span bytes at (at + 10) (hit_bytes (hit_at bytes at))
  unfolding hit_at hit_bytes
  hit_span at k e =
      let f = hit_finite (hit_at bytes at) e in
      span_cons at (byte_at bytes at) refl refl
      (span_cons (at + 1) (kind_number_of (kind_coded (byte_at bytes (at + 1)))) (omega arith) (sym (kind_again (byte_at bytes (at + 1)) k))
      (span_then (f32_span bytes octets (at + 2) (at + 6) (omega arith) f.0) (f32_span bytes octets (at + 6) (at + 10) (omega arith) f.1)))

  notes_span : (edition : Edition) (leads : Bool) (at cap n : ℕ) → notes_within edition leads (pad no_note cap (notes_at edition leads bytes at n)) cap n ≡ true
      → Span bytes at (at + note_width edition * n) (joined (map (note_bytes edition) (take n (pad no_note cap (notes_at edition leads bytes at n)))))
  unfolding notes_within
  notes_span edition leads at cap n e =
      let xs = pad no_note cap (notes_at edition leads bytes at n) in
      let w = note_width edition in
      lane_span w at (λ i. note_at edition leads bytes (at + w * i)) (note_bytes edition) no_note past_note cap n (note_within edition leads)
      (notes_told edition leads xs cap n e).1 (λ i h fit. note_span edition leads (at + w * i) fit)

  hits_span : (at cap n : ℕ) → kinds_known bytes at n ≡ true → hits_within (pad no_hit cap (hits_at bytes at n)) cap n ≡ true
      → Span bytes at (at + 10 * n) (joined (map hit_bytes (take n (pad no_hit cap (hits_at bytes at n)))))
  unfolding hits_within kinds_known
  hits_span at cap n k e =
      let xs = pad no_hit cap (hits_at bytes at n) in
      lane_span 10 at (λ i. hit_at bytes (at + 10 * i)) hit_bytes no_hit past_hit cap n hit_within
      (hits_told xs cap n e).1
      (λ i h fit.
      let kind = all_to_at (λ i. leb (byte_at bytes (at + 10 * i + 1)) 3) n k i h in
      hit_span (at + 10 * i) (omega (arith, leb-true (byte_at bytes (at + 10 * i + 1)) 3 kind)) fit)

  -- style, seed, voice
  name_span : (at : ℕ) → name_known bytes at ≡ true
      → Span bytes at (at + 10) (style_number_of (style_by (byte_at bytes at)) ∷ (be64 (be64_at bytes (at + 1)) ++ (voice_number_of (voice_coded (byte_at bytes (at + 9))) ∷ [])))
  unfolding name_known
  name_span at e =
      let known = both (leb (byte_at bytes at) 1) (leb (byte_at bytes (at + 9)) 3) e in
      let style = leb-true (byte_at bytes at) 1 known.0 in
      let voice = leb-true (byte_at bytes (at + 9)) 3 known.1 in
      span_cons at (style_number_of (style_by (byte_at bytes at))) refl (sym (style_again (byte_at bytes at) (omega arith)))
      (span_then (be64_span bytes octets (at + 1) (at + 9) (omega arith))
      (span_byte (at + 9) (at + 10) (voice_number_of (voice_coded (byte_at bytes (at + 9)))) (omega arith) (sym (voice_again (byte_at bytes (at + 9)) (omega arith)))))

-- ---- the fields
first_zero : (bytes : List ℕ) → edition_in bytes ≡ Edition.Two → byte_at bytes 0 ≡ 0
unfolding edition_in
first_zero bytes = go (eqb (byte_at bytes 0) 0) refl
  where
    go : (t : Bool) → eqb (byte_at bytes 0) 0 ≡ t → cond t Edition.Two Edition.One ≡ Edition.Two → byte_at bytes 0 ≡ 0
    go true q k = eqb-true (byte_at bytes 0) 0 q
    go false q k = let z : ◌≡◌ {A = ℕ} 0 1 = cc in absurd (omega arith)

-- the edition's own
edition_span : (bytes : List ℕ) → ((i : ℕ) → byte_at bytes i < 256) → (edition : Edition) → edition_in bytes ≡ edition → led edition bytes ≡ true → Span bytes 0 (edition_size edition) (edition_field edition)
unfolding led field
edition_span bytes octets Edition.One e ok = span_none
edition_span bytes octets Edition.Two e ok =
    let told = both (eqb (be16_at bytes 1) 1) (eqb (byte_at bytes 3) 2) ok in
    let size : be16_at bytes 1 ≡ 1 = eqb-true (be16_at bytes 1) 1 told.0 in
    span_cons 0 0 refl (first_zero bytes e) (span_then (rw size at (be16_span bytes octets 1 3 refl)) (span_byte 3 4 2 refl (eqb-true (byte_at bytes 3) 2 told.1)))

module _ (bytes : List ℕ) (octets : (i : ℕ) → byte_at bytes i < 256) (ok : formed bytes ≡ true) where
  -- a body as long as its head says, and the head before it
  pub field_span : {body : List ℕ} (k n : ℕ) → k < 10 → size_at bytes k ≡ n → Span bytes (body_at bytes k) (body_at bytes k + n) body
      → Span bytes (start_at bytes k) (start_at bytes (suc k)) (field (k + 1) body)
  unfolding field
  field_span {body} k n h e s =
      let size : length body ≡ size_at bytes k = omega (arith, s.end) in
      let end : body_at bytes k + n ≡ start_at bytes (suc k) = omega (arith, next_start bytes k) in
      rw size
      (span_cons (start_at bytes k) (k + 1) refl (tag_read bytes ok k h)
      (span_then (be16_span bytes octets (start_at bytes k + 1) (body_at bytes k) (omega arith)) (span_to end s)))

  -- each field ends where the next begins
  sheet_spans : coded bytes ≡ true → within (song_in bytes) ≡ true → Span bytes (start_at bytes 0) (start_at bytes 10) (the_ten (song_in bytes))
  unfolding song_in score_in form_in
  sheet_spans known fit =
      let c = codes bytes known in
      let s = score_told (edition_in bytes) (score_in bytes) (within_told (song_in bytes) fit).0 in
      let at = body_at bytes in
      let e = entries bytes ok in
      let w = note_width (edition_in bytes) in
      span_then (field_span 0 10 (omega arith) (omega (arith, e 0 (omega arith))) (name_span bytes octets (at 0) c.0))
      (span_then (field_span 1 4 (omega arith) (omega (arith, e 1 (omega arith))) (f32_span bytes octets (at 1) (at 1 + 4) refl s.bpm))
      (span_then (field_span 2 32 (omega arith) (omega (arith, e 2 (omega arith))) (chords_span bytes (at 2)))
      (span_then (field_span 3 (size_at bytes 3) (omega arith) refl (scale_span bytes (at 3) (size_at bytes 3)))
      (span_then (field_span 4 (w * note_count_in bytes 4) (omega arith) (sym (whole_size (e 4 (omega arith)))) (notes_span bytes octets (edition_in bytes) true (at 4) 56 (note_count_in bytes 4) s.lead))
      (span_then (field_span 5 (w * note_count_in bytes 5) (omega arith) (sym (whole_size (e 5 (omega arith)))) (notes_span bytes octets (edition_in bytes) false (at 5) 128 (note_count_in bytes 5) s.keys))
      (span_then (field_span 6 (10 * hit_count_in bytes 6) (omega arith) (omega (arith, e 6 (omega arith))) (hits_span bytes octets (at 6) 98 (hit_count_in bytes 6) c.1 s.hits))
      (span_then (field_span 7 (w * note_count_in bytes 7) (omega arith) (sym (whole_size (e 7 (omega arith)))) (notes_span bytes octets (edition_in bytes) false (at 7) 104 (note_count_in bytes 7) s.bass))
      (span_then (field_span 8 6 (omega arith) (omega (arith, e 8 (omega arith))) (ends_span bytes (at 8) c.2))
      (span_then (field_span 9 (size_at bytes 9) (omega arith) refl (plays_span bytes (at 9) (size_at bytes 9) c.3)) span_none)))))))))

  -- the edition's own, up to the ten
  pub first_span : Span bytes 0 (start_at bytes 0) (edition_field (edition_in bytes))
  first_span = span_to (sym (first_start bytes)) (edition_span bytes octets (edition_in bytes) refl (led_read bytes ok))

  pub sheet_again : coded bytes ≡ true → within (song_in bytes) ≡ true → sheet_of (song_in bytes) ≡ bytes
  unfolding song_in
  sheet_again known fit = as_fields (song_in bytes) ∙ span_whole (span_to (last_start_lem bytes ok) (span_then first_span (sheet_spans known fit)))
