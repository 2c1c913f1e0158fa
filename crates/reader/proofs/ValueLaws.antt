-- A song is a value that a sheet can have, if each of its numbers is in range and each unused entry is zero: the tests
-- of the specification from facts, one by one. Assumes nothing.
use mathlib.Core.Path.{◌≡◌, refl, ap, ◌∙◌}
use mathlib.Core.Bool.{Bool, true, false, ◌||◌}
use mathlib.Core.List.{List}
use Prim.Native.Nat.{ℕ, ◌^◌, ◌<◌}
use borrow.Author.Tests.{ltb-true, ltb-false, lt-ltb, le-leb, eq-eqb}
use lib.Dec.{eqb, ltb, leb}
use lib.Ieee.{binary32, of_bits, to_bits}
use lib.Ieee.Bits.{of_bits-fits}
use lib.Ieee.Scale.{finite}
use lib.ListN.{length, get_or}
use Rattle.laws.proofs.Bools.{holds}
use Rattle.laws.proofs.Sorts.{all_by}
use Rattle.composer.specs.Form.{parts_of}
use Rattle.composer.specs.Form.Plays.{bits_of}
use Rattle.composer.specs.Note.{role_number_of, no_note, past_note, no_hit}
use Rattle.composer.specs.declared.chord.Chord.{Chord}
use Rattle.composer.specs.declared.note.Hit.{Hit}
use Rattle.composer.specs.declared.note.Note.{Note}
use Rattle.pages.specs.declared.edition.Edition.{Edition}
use Rattle.reader.specs.Cleared.{note_zero, hit_zero, notes_zero, hits_zero, scale_zero, plays_zero, score_zero, cleared}
use Rattle.reader.specs.Tests.{all_to}
use Rattle.reader.specs.Value.{valid, TypedNote, TypedHit, TypedLane, Shaped, Typed, Padded, Any, RoleIn, NoteIn, HitIn, ChordIn, Value}
use Rattle.reader.specs.Within.{role_within, note_within, hit_within, notes_within, hits_within, chord_within, chords_within, scale_within, form_within, score_within, within}
use Rattle.reader.specs.declared.song.Song.{Song}
use Rattle.reader.proofs.EventLaws.{StoredNote, StoredHit}
use Rattle.reader.proofs.SongLaws.{Kept, StoredChord, StoredSong}
use Rattle.reader.proofs.TestLaws.{all_to_by, pad_back}

-- ---- an array's tests
module _ {A : Type 0} {P : A → Type 0} {d z : A} {cap : ℕ} {xs : List A} {n : ℕ} (f : Padded P d z cap xs n) where
  used_pass : (p : A → Bool) → ((x : A) → P x → p x ≡ true) → all_to (λ i. p (get_or xs i d)) n ≡ true
  used_pass p pass = all_to_by (λ i. p (get_or xs i d)) n (λ i h. pass (get_or xs i d) (f.used i h))

  rest_pass : (p : A → Bool) → p z ≡ true → all_to (λ i. ltb i n || p (get_or xs i d)) cap ≡ true
  rest_pass p pass = all_to_by (λ i. ltb i n || p (get_or xs i d)) cap (λ i h. go i h (ltb i n) refl)
    where
      go : (i : ℕ) → i < cap → (t : Bool) → ltb i n ≡ t → (t || p (get_or xs i d)) ≡ true
      go i h true e = refl
      go i h false e = ap p (f.rest i (ltb-false i n e) h) ∙ pass

  -- used or not
  typed_lane : (Q : A → Type 0) → ((x : A) → P x → Q x) → Q z → TypedLane Q d cap xs
  typed_lane Q sub zero = record { size = f.size; each = λ i h. go i h (ltb i n) refl }
    where
      go : (i : ℕ) → i < cap → (t : Bool) → ltb i n ≡ t → Q (get_or xs i d)
      go i h true e = sub (get_or xs i d) (f.used i (ltb-true i n e))
      go i h false e = rw (f.rest i (ltb-false i n e) h) zero

  -- and as the writer's laws have it
  kept : (Q : A → Type 0) → ((x : A) → P x → Q x) → Kept Q z cap xs n
  kept Q sub = record {
    size = f.size;
    few = f.few;
    plain = all_by Q d xs n (λ i h. sub (get_or xs i d) (f.used i h));
    rest = pad_back z d cap xs n f.size f.few f.rest;
  }

-- ---- an entry's
pub role_in : (edition : Edition) (leads : Bool) (x : Note) → RoleIn edition leads x → role_within edition leads x.role ≡ true
unfolding role_within
role_in Edition.One leads x p = rw p
role_in Edition.Two true x p = lt-ltb (role_number_of x.role) 6 p
role_in Edition.Two false x p = rw p

note_in_lem : (edition : Edition) (leads : Bool) (x : Note) → NoteIn edition leads x → note_within edition leads x ≡ true
unfolding note_within
note_in_lem edition leads x p =
    rw (
      lt-ltb x.bar 8 p.bar,
      le-leb x.midi 127 p.midi,
      role_in edition leads x p.role,
      eq-eqb x.spare 0 p.spare,
      holds (finite x.at) p.numbers.at,
      holds (finite x.vel) p.numbers.vel,
      holds (finite x.dur) p.numbers.dur,
    )

hit_in : (x : Hit) → HitIn x → hit_within x ≡ true
unfolding hit_within
hit_in x p = rw (lt-ltb x.bar 8 p.bar, eq-eqb x.spare 0 p.spare, holds (finite x.at) p.numbers.at, holds (finite x.gain) p.numbers.gain)

chord_in_lem : (c : Chord) → ChordIn c → chord_within c ≡ true
unfolding chord_within
chord_in_lem c p = all_to_by (λ k. leb (get_or c.notes k 0) 127) 4 (λ k h. le-leb (get_or c.notes k 0) 127 (p.notes k h))

no_note_zero : note_zero no_note ≡ true
unfolding note_zero to_bits of_bits
no_note_zero = refl

no_hit_zero : hit_zero no_hit ≡ true
unfolding hit_zero to_bits of_bits
no_hit_zero = refl

pub no_note_typed : TypedNote no_note
no_note_typed = record { at = of_bits-fits binary32 0; vel = of_bits-fits binary32 0; dur = of_bits-fits binary32 0 }

pub no_hit_typed : TypedHit no_hit
no_hit_typed = record { at = of_bits-fits binary32 0; gain = of_bits-fits binary32 0 }

-- ---- a lane's
notes_in_lem : {edition : Edition} {leads : Bool} {cap n : ℕ} {xs : List Note} → Padded (NoteIn edition leads) past_note no_note cap xs n → notes_within edition leads xs cap n ≡ true
unfolding notes_within
notes_in_lem {edition} {leads} {cap} {n} f = rw (le-leb n cap f.few) (used_pass f (note_within edition leads) (note_in_lem edition leads))

notes_zero_lem : {edition : Edition} {leads : Bool} {cap n : ℕ} {xs : List Note} → Padded (NoteIn edition leads) past_note no_note cap xs n → notes_zero xs cap n ≡ true
unfolding notes_zero
notes_zero_lem f = rest_pass f note_zero no_note_zero

notes_typed : {edition : Edition} {leads : Bool} {cap n : ℕ} {xs : List Note} → Padded (NoteIn edition leads) past_note no_note cap xs n → TypedLane TypedNote past_note cap xs
notes_typed f = typed_lane f TypedNote (λ x p. p.typed) no_note_typed

notes_kept : {edition : Edition} {leads : Bool} {cap n : ℕ} {xs : List Note} → Padded (NoteIn edition leads) past_note no_note cap xs n → Kept (StoredNote edition leads) no_note cap xs n
notes_kept {edition} {leads} f = kept f (StoredNote edition leads) (λ x p. record { role = p.role; at = p.typed.at; vel = p.typed.vel; dur = p.typed.dur; spare = p.spare })

-- ---- the song's
module _ (v : Song) (p : Value v) where
  hits_in_lem : hits_within v.score.hits.at 98 v.score.hits.n ≡ true
  unfolding hits_within
  hits_in_lem = rw (le-leb v.score.hits.n 98 p.hits.few) (used_pass p.hits hit_within hit_in)

  hits_zero_lem : hits_zero v.score.hits.at 98 v.score.hits.n ≡ true
  unfolding hits_zero
  hits_zero_lem = rest_pass p.hits hit_zero no_hit_zero

  chords_in : chords_within v.score.bar_chords ≡ true
  unfolding chords_within
  chords_in = used_pass p.chords chord_within chord_in_lem

  score_in_lem : score_within v.edition v.score ≡ true
  unfolding score_within
  score_in_lem = rw (holds (finite v.score.bpm) p.bpm, chords_in, notes_in_lem p.lead, notes_in_lem p.keys, hits_in_lem, notes_in_lem p.bass)

  score_zero_lem : score_zero v.score ≡ true
  unfolding score_zero
  score_zero_lem = rw (notes_zero_lem p.lead, notes_zero_lem p.keys, hits_zero_lem, notes_zero_lem p.bass)

  scale_in : scale_within v.scale ≡ true
  unfolding scale_within
  scale_in =
      rw (le-leb 5 v.scale.n p.classes_least, le-leb v.scale.n 6 p.classes.few) (used_pass p.classes (λ c. ltb c 12) (λ c h. lt-ltb c 12 h))

  scale_zero_lem : scale_zero v.scale ≡ true
  unfolding scale_zero
  scale_zero_lem = rest_pass p.classes (λ c. eqb c 0) refl

  form_in_lem : form_within v.form ≡ true
  unfolding form_within
  form_in_lem =
      rw (le-leb 4 v.form.phrases p.phrases.0, le-leb v.form.phrases 6 p.phrases.1, eq-eqb (parts_of v.form) v.form.bars p.parts)

  plays_zero_lem : plays_zero v.form ≡ true
  unfolding plays_zero
  plays_zero_lem = rest_pass p.plays (λ x. eqb (bits_of x) 0) refl

  pub value_valid : valid v ≡ true
  unfolding valid within cleared
  value_valid = rw (score_in_lem, scale_in, form_in_lem, score_zero_lem, scale_zero_lem, plays_zero_lem)

  pub value_shaped : Shaped v
  value_shaped = record {
    bpm = p.bpm_fits;
    chords = typed_lane p.chords (λ c. length c.notes ≡ 4) (λ c q. q.size) refl;
    lead = notes_typed p.lead;
    keys = notes_typed p.keys;
    hits = typed_lane p.hits TypedHit (λ x q. q.typed) no_hit_typed;
    bass = notes_typed p.bass;
    pcs = p.classes.size;
    plays = p.plays.size;
  }

  pub value_typed : v.seed < 2 ^ 64 → Typed v
  value_typed seed = record { seed = seed; shape = value_shaped }

  pub value_stored : StoredSong v
  value_stored = record {
    bpm = p.bpm_fits;
    chords = kept p.chords StoredChord (λ c q. record { four = q.size });
    lead = notes_kept p.lead;
    keys = notes_kept p.keys;
    hits = kept p.hits StoredHit (λ x q. record { at = q.typed.at; gain = q.typed.gain; spare = q.spare });
    bass = notes_kept p.bass;
    scale = kept p.classes Any (λ c q. tt);
    plays = kept p.plays Any (λ x q. tt);
  }
