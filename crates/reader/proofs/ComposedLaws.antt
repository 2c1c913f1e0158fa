-- Every composed song is a value that a sheet can have, in both editions: the promises of every song and of every form
-- say so. Its sheet is the one that is written for its seed. Assumes nothing.
use mathlib.Core.Path.{◌≡◌, refl, sym, ap, ◌∙◌}
use mathlib.Core.Bool.{Bool, true, false}
use mathlib.Core.List.{List, map, map-map}
use Prim.Native.Nat.{ℕ, ◌-◌, ◌^◌, ◌≤◌, ◌<◌}
use native.Mathlib.Omega.{arith}
use lib.ListN.{length, get_or, take, replicate}
use lib.Seq.{take_at}
use Rattle.laws.specs.Lanes.{Laid}
use Rattle.laws.specs.Lists.{pad}
use Rattle.laws.proofs.Lists.{length_pad, pad_at_lem, get_d_any, length_map_take, map_take_at}
use Rattle.laws.proofs.Written.{rest_is}
use Rattle.composer.specs.Compose.{composed_of}
use Rattle.composer.specs.Form.Song.{arrange_of}
use Rattle.composer.specs.Form.Promise.{FormPromise}
use Rattle.composer.specs.Note.{no_note, past_note, note_bar, hit_bar}
use Rattle.composer.specs.Plain.{PlainNote, PlainHit}
use Rattle.composer.specs.Promise.{ScorePromise}
use Rattle.composer.specs.Style.{style_number_of}
use Rattle.composer.specs.declared.note.Hit.{Hit}
use Rattle.composer.specs.declared.note.Note.{Note}
use Rattle.composer.specs.declared.style.Style.{Style}
use Rattle.composer.proofs.ComposeLaws.{song_promise, events_promise}
use Rattle.composer.proofs.form.Arranged.{arranged_promise}
use Rattle.pages.specs.Answer.{Writes}
use Rattle.pages.specs.Lane.{sound_bytes, note_bytes}
use Rattle.pages.specs.Sheet.{song_bytes, lanes_bytes, sheet_bytes, sheet_in}
use Rattle.pages.specs.Writable.{FiniteNote, FiniteHit, FiniteEvents}
use Rattle.pages.proofs.SheetLaws.{seed_sheet}
use Rattle.pages.proofs.WritableLaws.{writable}
use Rattle.pages.specs.declared.edition.Edition.{Edition}
use Rattle.reader.specs.Composed.{backed, backed_notes, told_in, composed_song}
use Rattle.reader.specs.Song.{sheet_of}
use Rattle.reader.specs.Value.{valid, Typed, Padded, RoleIn, NoteIn, HitIn, Value}
use Rattle.reader.proofs.ValueLaws.{value_valid, value_typed}

-- ---- one event
note_value : (leads : Bool) (x : Note) → note_bar x ≤ 7 → x.midi ≤ 127 → RoleIn Edition.Two leads x → PlainNote x → FiniteNote x → NoteIn Edition.Two leads x
note_value leads x bar midi role p finite = record {
  bar = omega arith;
  midi = midi;
  role = role;
  spare = p.spare;
  numbers = finite;
  typed = record { at = p.at_fits; vel = p.vel_fits; dur = p.dur_fits };
}

hit_value : (x : Hit) → hit_bar x ≤ 7 → PlainHit x → FiniteHit x → HitIn x
hit_value x bar p finite = record { bar = omega arith; spare = p.spare; numbers = finite; typed = record { at = p.at_fits; gain = p.gain_fits } }

note_backed : {leads : Bool} {x : Note} → NoteIn Edition.Two leads x → NoteIn Edition.One leads (backed x)
note_backed p = record {
  bar = p.bar;
  midi = p.midi;
  role = refl;
  spare = p.spare;
  numbers = record { at = p.numbers.at; vel = p.numbers.vel; dur = p.numbers.dur };
  typed = record { at = p.typed.at; vel = p.typed.vel; dur = p.typed.dur };
}

-- ---- a lane
lane_padded : {A : Type 0} {P : A → Type 0} {d none : A} {bar : A → ℕ} {cap : ℕ} {xs : List A} {n : ℕ} → Laid d none bar cap 7 xs n
    → ((i : ℕ) → i < n → bar (get_or xs i d) ≤ 7 → P (get_or xs i d)) → Padded P d none cap xs n
lane_padded l used = record { size = l.size; few = l.few; used = λ i h. used i h (l.rises.most i h); rest = l.rest }

-- ---- a lane without its roles
module _ {leads : Bool} {cap : ℕ} {xs : List Note} {n : ℕ} (p : Padded (NoteIn Edition.Two leads) past_note no_note cap xs n) where
  abbrev ys : List Note
  ys = map backed (take n xs)

  backed_count : length ys ≡ n
  backed_count = length_map_take backed xs n (omega (arith, p.size, p.few))

  backed_at : (i : ℕ) → i < n → get_or (pad no_note cap ys) i past_note ≡ backed (get_or xs i past_note)
  backed_at i h =
      get_d_any (pad no_note cap ys) i past_note no_note (omega (arith, length_pad no_note cap ys (omega (arith, backed_count, p.few)), p.few))
      ∙ pad_at_lem no_note cap ys i (omega (arith, backed_count)) ∙ map_take_at backed xs n i past_note no_note h (omega (arith, p.size, p.few))

  backed_padded : Padded (NoteIn Edition.One leads) past_note no_note cap (backed_notes cap xs n) n
  backed_padded = record {
    size = length_pad no_note cap ys (omega (arith, backed_count, p.few));
    few = p.few;
    used = λ i h. rw (backed_at i h) (note_backed (p.used i h));
    rest = λ i h k. rest_is no_note cap ys i past_note (omega (arith, backed_count)) k;
  }

  -- its bytes in edition 1 are those of the lane with them
  events_backed : map (note_bytes Edition.One) (take n (backed_notes cap xs n)) ≡ map (note_bytes Edition.One) (take n xs)
  unfolding note_bytes sound_bytes pad
  events_backed = ap (map (note_bytes Edition.One)) (take_at ys (replicate (cap - length ys) no_note) n backed_count) ∙ map-map (note_bytes Edition.One) backed (take n xs)

-- ---- the song
module _ (style : Style) (seed : ℕ) where
  song : ScorePromise style (composed_of style seed).score (composed_of style seed).scale
  song = (song_promise style seed).score

  form : FormPromise seed (arrange_of seed)
  form = arranged_promise seed

  numbers : FiniteEvents (composed_of style seed).score
  numbers = (writable (composed_of style seed).score (events_promise song)).numbers

  told_value : Value (composed_song Edition.Two style seed)
  told_value = record {
    bpm = numbers.bpm;
    bpm_fits = song.plain.bpm_fits;
    chords = record {
      size = song.chord_count;
      few = omega arith;
      used = λ b h. record { size = song.range.chord_size b h; notes = λ k j. omega (arith, (song.range.chords b k h j).most) };
      rest = λ i h k. absurd (omega arith);
    };
    lead = lane_padded song.lanes.lead (λ i h bar. note_value true _ bar (omega (arith, (song.range.lead i h).most)) (song.roles.lead i h) (song.plain.lead i h) (numbers.lead i h));
    keys = lane_padded song.lanes.keys (λ i h bar. note_value false _ bar (omega (arith, (song.range.keys i h).most)) (song.roles.keys i h) (song.plain.keys i h) (numbers.keys i h));
    hits = lane_padded song.lanes.hits (λ i h bar. hit_value _ bar (song.plain.hits i h) (numbers.hits i h));
    bass = lane_padded song.lanes.bass (λ i h bar. note_value false _ bar (omega (arith, (song.range.bass i h).most)) (song.roles.bass i h) (song.plain.bass i h) (numbers.bass i h));
    classes = record { size = song.scale_size; few = song.scale_most; used = λ k h. song.scale_classes k; rest = λ k h j. song.scale_rest k h };
    classes_least = song.scale_least;
    phrases = form.phrases;
    parts = sym form.song_bars;
    plays = record { size = form.size; few = form.most; used = λ b h. tt; rest = λ b h k. form.rest b h };
  }

  -- in edition 1 all but the roles is the same
  pub composed_value : (edition : Edition) → Value (composed_song edition style seed)
  composed_value Edition.Two = told_value
  composed_value Edition.One =
      let p = told_value in
      record {
        bpm = p.bpm;
        bpm_fits = p.bpm_fits;
        chords = p.chords;
        lead = backed_padded p.lead;
        keys = backed_padded p.keys;
        hits = p.hits;
        bass = backed_padded p.bass;
        classes = p.classes;
        classes_least = p.classes_least;
        phrases = p.phrases;
        parts = p.parts;
        plays = p.plays;
      }

  pub composed_valid : (edition : Edition) → valid (composed_song edition style seed) ≡ true
  composed_valid edition = value_valid (composed_song edition style seed) (composed_value edition)

  pub composed_typed : (edition : Edition) → seed < 2 ^ 64 → Typed (composed_song edition style seed)
  composed_typed edition h = value_typed (composed_song edition style seed) (composed_value edition) h

  -- ---- and its sheet is the one that is written
  lanes_alike : (edition : Edition) → lanes_bytes edition (told_in edition (composed_of style seed).score) ≡ lanes_bytes edition (composed_of style seed).score
  unfolding lanes_bytes
  lanes_alike Edition.One = rw (events_backed told_value.lead, events_backed told_value.keys, events_backed told_value.bass)
  lanes_alike Edition.Two = refl

  sheet_alike : (edition : Edition) → sheet_bytes edition seed (composed_of style seed).score (composed_of style seed).scale (arrange_of seed) ≡ sheet_of (composed_song edition style seed)
  unfolding sheet_bytes song_bytes
  sheet_alike Edition.One = rw (lanes_alike Edition.One)
  sheet_alike Edition.Two = refl

  pub seed_asked : (edition : Edition) → sheet_in edition (style_number_of style) seed ≡ Writes (sheet_of (composed_song edition style seed))
  seed_asked edition = seed_sheet edition style seed ∙ ap Writes (sheet_alike edition)
