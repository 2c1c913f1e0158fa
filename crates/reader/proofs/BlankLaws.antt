-- Whatever lengths its fields may have each, in either edition, a song of zeros but for its roles has them all: none
-- of the ten depends on another. Assumes nothing.
use mathlib.Core.Path.{◌≡◌, refl, sym, ap, ◌∙◌, subst}
use mathlib.Core.Bool.{Bool, true, false, cond}
use mathlib.Core.List.{List}
use Prim.Native.Nat.{ℕ, ◌/◌, ◌%◌, ◌≤◌, ◌<◌, min}
use native.Mathlib.Omega.{arith}
use lib.Dec.{eqb, leb, lit<}
use lib.Ieee.{binary32, of_bits}
use lib.Ieee.Bits.{of_bits-fits}
use lib.ListN.{length, get_or, replicate, length-replicate, get_or-replicate}
use Rattle.laws.specs.Lists.{list_to, pad}
use Rattle.laws.proofs.Lists.{list_to_at, length_pad, pad_at_lem, get_d_any}
use Rattle.laws.proofs.Sorts.{all_at}
use Rattle.laws.proofs.Written.{rest_is}
use Rattle.composer.specs.Chord.{past_chord, no_chord}
use Rattle.composer.specs.Form.{parts_of}
use Rattle.composer.specs.Form.Plays.{silent}
use Rattle.composer.specs.Note.{zero32, no_note, past_note, no_hit, past_hit}
use Rattle.composer.specs.declared.form.Form.{Form}
use Rattle.composer.specs.declared.form.ends.Bars.{Bars}
use Rattle.composer.specs.declared.form.ends.End.{End}
use Rattle.composer.specs.declared.form.ends.Outro.{Outro}
use Rattle.composer.specs.declared.note.Note.{Note}
use Rattle.composer.specs.declared.note.NoteRole.{NoteRole}
use Rattle.composer.specs.declared.style.Style.{Style}
use Rattle.composer.specs.declared.voice.LeadVoice.{LeadVoice}
use Rattle.pages.specs.Edition.{note_width}
use Rattle.pages.specs.declared.edition.Edition.{Edition}
use Rattle.reader.specs.Layout.{size_at, widths, least, most, length_fits}
use Rattle.reader.specs.Lengths.{AllHad}
use Rattle.reader.specs.Tests.{all_to}
use Rattle.reader.specs.Value.{Padded, ChordIn, NoteIn, HitIn, Value}
use Rattle.reader.specs.Within.{form_within}
use Rattle.reader.specs.declared.song.Song.{Song}
use Rattle.reader.proofs.FitLaws.{Spans, length_spans, whole_size, one_size}
use Rattle.reader.proofs.LayoutLaws.{size_is}
use Rattle.reader.proofs.SongLaws.{StoredSong, fields, as_fields, name_stands, tempo_stands, chords_size, scale_size, lead_size, keys_size, hits_size, bass_size, ends_stand, bars_read}
use Rattle.reader.proofs.TestLaws.{all_to_at}
use Rattle.reader.proofs.TestedLaws.{form_told}
use Rattle.reader.proofs.ValueLaws.{no_note_typed, no_hit_typed, value_valid, value_typed, value_stored}

-- what holds of each field
of_ten : (P : ℕ → Type 0) → P 0 → P 1 → P 2 → P 3 → P 4 → P 5 → P 6 → P 7 → P 8 → P 9 → (k : ℕ) → k < 10 → P k
unfolding list_to
of_ten P a b c d e f g h i j k l =
    subst P (list_to_at (λ n. n) 0 10 k l) (all_at P (list_to (λ n. n) 10) k 0 l (a, (b, (c, (d, (e, (f, (g, (h, (i, (j, tt)))))))))))

-- ---- a form of n bars in which nothing plays
-- as many phrases as there is room for; what is left goes to the outro, and to an intro where it is too much for one
abbrev intro_for : ℕ → End
intro_for n = cond (leb 56 n) (End.Plain Bars.Eight) (cond (eqb (n % 8) 6) (End.Plain Bars.Four) End.Cold)

abbrev outro_for : ℕ → Outro
outro_for n =
    cond (eqb n 64) (Outro.Ends (End.Plain Bars.Eight)) (cond (eqb (n % 8) 0) (Outro.Ends End.Cold) (cond (eqb (n % 8) 4) (Outro.Ends (End.Plain Bars.Four)) Outro.RingOut))

abbrev blank_form : ℕ → Form
blank_form n = record { intro = intro_for n; phrases = min (n / 8) 6; outro = outro_for n; dip = false; plays = replicate 64 silent; bars = n }

abbrev form_test : ℕ → Bool
form_test n = cond (length_fits Edition.Two 9 n) (form_within (blank_form n)) true

form_tests : all_to form_test 65 ≡ true
unfolding all_to length_fits form_within
form_tests = refl

-- the bars are the same in both editions
bars_alike : (edition : Edition) (n : ℕ) → length_fits edition 9 n ≡ length_fits Edition.Two 9 n
unfolding length_fits
bars_alike edition n = refl

blank_parts : (edition : Edition) (n : ℕ) → length_fits edition 9 n ≡ true → (4 ≤ (blank_form n).phrases) × ((blank_form n).phrases ≤ 6) × (parts_of (blank_form n) ≡ n)
blank_parts edition n e =
    let span : Spans 2 16 32 n = length_spans edition 9 n e in
    let test : form_test n ≡ true = all_to_at form_test 65 form_tests n (omega (arith, span.most)) in
    form_told (blank_form n) (rw (sym (bars_alike edition n) ∙ e) at test)

-- ---- a song of zeros, but for the roles of its notes
-- a note of zeros with a role that its lane has
abbrev blank_note : Edition → Bool → Note
blank_note Edition.One leads = record { bar = 0; midi = 0; role = NoteRole.Backing; spare = 0; at = zero32; vel = zero32; dur = zero32 }
blank_note Edition.Two true = no_note
blank_note Edition.Two false = record { bar = 0; midi = 0; role = NoteRole.Backing; spare = 0; at = zero32; vel = zero32; dur = zero32 }

-- n of them, in an array
abbrev blank_notes : Edition → Bool → ℕ → ℕ → List Note
blank_notes edition leads cap n = pad no_note cap (replicate n (blank_note edition leads))

abbrev pub blank_song : Edition → (ℕ → ℕ) → Song
blank_song edition size = record {
  edition = edition;
  seed = 0;
  score = record {
    style = Style.Hiphop;
    bpm = zero32;
    bar_chords = replicate 8 no_chord;
    lead = record { at = blank_notes edition true 56 (size 4 / note_width edition); n = size 4 / note_width edition };
    keys = record { at = blank_notes edition false 128 (size 5 / note_width edition); n = size 5 / note_width edition };
    hits = record { at = replicate 98 no_hit; n = size 6 / 10 };
    bass = record { at = blank_notes edition false 104 (size 7 / note_width edition); n = size 7 / note_width edition };
    lead_voice = LeadVoice.EpVel;
  };
  scale = record { pcs = replicate 6 0; n = size 3 };
  form = blank_form (size 9);
}

blank_padded : {A : Type 0} {P : A → Type 0} (d z : A) (cap n : ℕ) → n ≤ cap → P z → Padded P d z cap (replicate cap z) n
blank_padded d z cap n few p = record {
  size = length-replicate cap z;
  few = few;
  used = λ i h. rw (get_or-replicate cap i z d (omega arith)) p;
  rest = λ i h k. get_or-replicate cap i z d k;
}

no_chord_in : ChordIn no_chord
no_chord_in = record { size = refl; notes = λ k h. rw (get_or-replicate {A = ℕ} 4 k 0 0 h) (omega arith) }

blank_note_in : (edition : Edition) (leads : Bool) → NoteIn edition leads (blank_note edition leads)
unfolding of_bits
blank_note_in Edition.One leads = record { bar = omega arith; midi = omega arith; role = refl; spare = refl; numbers = record { at = tt; vel = tt; dur = tt }; typed = record { at = of_bits-fits binary32 0; vel = of_bits-fits binary32 0; dur = of_bits-fits binary32 0 } }
blank_note_in Edition.Two true = record { bar = omega arith; midi = omega arith; role = omega arith; spare = refl; numbers = record { at = tt; vel = tt; dur = tt }; typed = no_note_typed }
blank_note_in Edition.Two false = record { bar = omega arith; midi = omega arith; role = refl; spare = refl; numbers = record { at = tt; vel = tt; dur = tt }; typed = record { at = of_bits-fits binary32 0; vel = of_bits-fits binary32 0; dur = of_bits-fits binary32 0 } }

blank_notes_lem : (edition : Edition) (leads : Bool) (cap n : ℕ) → n ≤ cap → Padded (NoteIn edition leads) past_note no_note cap (blank_notes edition leads cap n) n
blank_notes_lem edition leads cap n few =
    let xs = replicate n (blank_note edition leads) in
    let l : length xs ≡ n = length-replicate n (blank_note edition leads) in
    record {
      size = length_pad no_note cap xs (omega arith);
      few = few;
      used = λ i h.
          let here = get_d_any (pad no_note cap xs) i past_note no_note (omega (arith, length_pad no_note cap xs (omega arith))) ∙ pad_at_lem no_note cap xs i (omega arith) ∙ get_or-replicate n i (blank_note edition leads) no_note h in
          rw here (blank_note_in edition leads);
      rest = λ i h k. rest_is no_note cap xs i past_note (omega arith) k;
    }

no_hit_in : HitIn no_hit
unfolding of_bits
no_hit_in = record { bar = omega arith; spare = refl; numbers = record { at = tt; gain = tt }; typed = no_hit_typed }

-- ---- of ten lengths that fit
module _ (edition : Edition) (size : ℕ → ℕ) (fit : (k : ℕ) → k < 10 → length_fits edition k (size k) ≡ true) where
  abbrev w : ℕ
  w = note_width edition

  span : (k : ℕ) → k < 10 → Spans (get_or (widths edition) k 0) (get_or least k 0) (get_or most k 0) (size k)
  span k h = length_spans edition k (size k) (fit k h)

  classes_span : Spans 1 5 6 (size 3)
  classes_span = span 3 (omega arith)

  lead_span : Spans w 0 56 (size 4)
  lead_span = span 4 (omega arith)

  keys_span : Spans w 0 128 (size 5)
  keys_span = span 5 (omega arith)

  hits_span : Spans 10 0 98 (size 6)
  hits_span = span 6 (omega arith)

  bass_span : Spans w 0 104 (size 7)
  bass_span = span 7 (omega arith)

  bars_span : Spans 2 16 32 (size 9)
  bars_span = span 9 (omega arith)

  abbrev blank : Song
  blank = blank_song edition size

  pub blank_value : Value blank
  unfolding of_bits
  blank_value =
      let parts = blank_parts edition (size 9) (fit 9 (omega arith)) in
      record {
        bpm = tt;
        bpm_fits = of_bits-fits binary32 0;
        chords = blank_padded past_chord no_chord 8 8 (omega arith) no_chord_in;
        lead = blank_notes_lem edition true 56 (size 4 / w) lead_span.most;
        keys = blank_notes_lem edition false 128 (size 5 / w) keys_span.most;
        hits = blank_padded past_hit no_hit 98 (size 6 / 10) hits_span.most no_hit_in;
        bass = blank_notes_lem edition false 104 (size 7 / w) bass_span.most;
        classes = blank_padded 0 0 6 (size 3) (omega (arith, classes_span.most)) (omega arith);
        classes_least = omega (arith, classes_span.least);
        phrases = (parts.0, parts.1);
        parts = parts.2;
        plays = blank_padded silent silent 64 (size 9) (omega (arith, bars_span.whole, bars_span.most)) tt;
      }

  stored : StoredSong blank
  stored = value_stored blank blank_value

  abbrev Sized : ℕ → Type 0
  Sized k = size_at (fields blank) k ≡ size k

  sized_at : (k : ℕ) → k < 10 → Sized k
  sized_at =
      of_ten Sized (size_is (name_stands blank) ∙ one_size (span 0 (omega arith))) (size_is (tempo_stands blank) ∙ one_size (span 1 (omega arith)))
      (chords_size blank stored ∙ one_size (span 2 (omega arith))) (scale_size blank stored) (lead_size blank stored ∙ whole_size lead_span)
      (keys_size blank stored ∙ whole_size keys_span) (hits_size blank stored ∙ whole_size hits_span) (bass_size blank stored ∙ whole_size bass_span)
      (size_is (ends_stand blank) ∙ one_size (span 8 (omega arith))) (bars_read blank stored)

  pub lengths_had : AllHad edition size
  lengths_had = record {
    v = blank;
    of = refl;
    valid = value_valid blank blank_value;
    typed = value_typed blank blank_value (lit< tt);
    sizes = λ k h. ap (λ (b : List ℕ). size_at b k) (as_fields blank) ∙ sized_at k h;
  }
