-- The sheet of a value is its edition's fields, of lengths that fit, its codes are known, and it is read back as the
-- value. Assumes nothing.
use mathlib.Core.Path.{◌≡◌, refl}
use mathlib.Core.Bool.{Bool, true, false, not, ◌&&◌}
use mathlib.Core.List.{List, ◌++◌}
use Prim.Native.Nat.{ℕ, ◌+◌, ◌*◌, ◌/◌, ◌%◌, ◌≤◌}
use native.Mathlib.Omega.{arith}
use borrow.Author.Tests.{eq-eqb, ne_eqb, le-leb}
use lib.Dec.{eqb, leb}
use lib.ListN.{length}
use Rattle.composer.specs.declared.form.Form.{Form}
use Rattle.composer.specs.declared.score.Score.{Score}
use Rattle.pages.specs.Bytes.{byte_at, field}
use Rattle.pages.specs.Edition.{note_width, edition_field}
use Rattle.pages.specs.declared.edition.Edition.{Edition}
use Rattle.reader.specs.Layout.{edition_in, start_at, size_at, entries_fit, length_fits, field_fits, led, formed}
use Rattle.reader.specs.Song.{song_in, sheet_of}
use Rattle.reader.specs.Tests.{all_to}
use Rattle.reader.specs.Value.{Value}
use Rattle.reader.specs.declared.song.Song.{Song}
use Rattle.reader.proofs.BarsLaws.{SongBars, song_bars}
use Rattle.reader.proofs.LayoutLaws.{Stands, tag_is, size_is, last_end}
use Rattle.reader.proofs.SongLaws.{StoredSong, the_ten, fields, as_fields, edition_read, name_stands, tempo_stands, chords_stand, scale_stands, lead_stands, keys_stand, hits_stand, bass_stands, ends_stand, plays_stand, chords_size, scale_size, lead_size, keys_size, hits_size, bass_size, bars_read, song_back}
use Rattle.reader.proofs.ValueLaws.{value_stored}

-- ---- lengths that fit
four_tests : (a b c d : Bool) → a ≡ true → b ≡ true → c ≡ true → d ≡ false → ((a && b) && (c && not d)) ≡ true
four_tests a b c d p q r s = rw (p, q, r, s)

module _ (n : ℕ) where
  scale_length : (edition : Edition) → 5 ≤ n → n ≤ 6 → length_fits edition 3 n ≡ true
  unfolding length_fits
  scale_length edition h k = four_tests (eqb (n % 1) 0) (leb 5 (n / 1)) (leb (n / 1) 6) (eqb n 62) (eq-eqb (n % 1) 0 (omega arith)) (le-leb 5 (n / 1) (omega arith)) (le-leb (n / 1) 6 (omega arith)) (ne_eqb n 62 (λ e. omega arith))

  notes_length : (edition : Edition) (most : ℕ) → n ≤ most → entries_fit (note_width edition * n) (note_width edition) 0 most ≡ true
  notes_length Edition.One most h = four_tests (eqb (14 * n % 14) 0) (leb 0 (14 * n / 14)) (leb (14 * n / 14) most) (eqb (14 * n) 62) (eq-eqb (14 * n % 14) 0 (omega arith)) (le-leb 0 (14 * n / 14) (omega arith)) (le-leb (14 * n / 14) most (omega arith)) (ne_eqb (14 * n) 62 (λ e. omega arith))
  notes_length Edition.Two most h = four_tests (eqb (15 * n % 15) 0) (leb 0 (15 * n / 15)) (leb (15 * n / 15) most) (eqb (15 * n) 62) (eq-eqb (15 * n % 15) 0 (omega arith)) (le-leb 0 (15 * n / 15) (omega arith)) (le-leb (15 * n / 15) most (omega arith)) (ne_eqb (15 * n) 62 (λ e. omega arith))

  lead_length : (edition : Edition) → n ≤ 56 → length_fits edition 4 (note_width edition * n) ≡ true
  unfolding length_fits
  lead_length edition h = notes_length edition 56 h

  keys_length : (edition : Edition) → n ≤ 128 → length_fits edition 5 (note_width edition * n) ≡ true
  unfolding length_fits
  keys_length edition h = notes_length edition 128 h

  hits_length : (edition : Edition) → n ≤ 98 → length_fits edition 6 (10 * n) ≡ true
  unfolding length_fits
  hits_length edition h = four_tests (eqb (10 * n % 10) 0) (leb 0 (10 * n / 10)) (leb (10 * n / 10) 98) (eqb (10 * n) 62) (eq-eqb (10 * n % 10) 0 (omega arith)) (le-leb 0 (10 * n / 10) (omega arith)) (le-leb (10 * n / 10) 98 (omega arith)) (ne_eqb (10 * n) 62 (λ e. omega arith))

  bass_length : (edition : Edition) → n ≤ 104 → length_fits edition 7 (note_width edition * n) ≡ true
  unfolding length_fits
  bass_length edition h = notes_length edition 104 h

plays_length : (edition : Edition) (n : ℕ) → SongBars n → length_fits edition 9 n ≡ true
unfolding length_fits
plays_length edition n b = four_tests (eqb (n % 2) 0) (leb 16 (n / 2)) (leb (n / 2) 32) (eqb n 62) (eq-eqb (n % 2) 0 b.even) (le-leb 16 (n / 2) (omega (arith, b.least))) (le-leb (n / 2) 32 (omega (arith, b.most))) (ne_eqb n 62 b.never)

-- ---- a field that fits
pub field_fits_lem : {bytes body post : List ℕ} (k : ℕ) → Stands bytes k (k + 1) body post → length_fits (edition_in bytes) k (size_at bytes k) ≡ true → field_fits bytes k ≡ true
unfolding field_fits
field_fits_lem {bytes} k st e = rw (eq-eqb (byte_at bytes (start_at bytes k)) (k + 1) (tag_is st), e)

-- the edition's own
led_by : (edition : Edition) (rest : List ℕ) → led edition (edition_field edition ++ rest) ≡ true
unfolding led field
led_by Edition.One rest = refl
led_by Edition.Two rest = refl

-- ---- a value's sheet
module _ (v : Song) (p : Value v) where
  abbrev s : Score
  s = v.score

  abbrev f : Form
  f = v.form

  stored : StoredSong v
  stored = value_stored v p

  abbrev bytes : List ℕ
  bytes = fields v

  abbrev edition : Edition
  edition = v.edition

  size_fits : (k n : ℕ) → size_at bytes k ≡ n → length_fits edition k n ≡ true → length_fits (edition_in bytes) k (size_at bytes k) ≡ true
  size_fits k n e h = rw (edition_read v, e) h

  ten : all_to (field_fits bytes) 10 ≡ true
  unfolding all_to
  ten = rw (
    field_fits_lem 0 (name_stands v) (size_fits 0 10 (size_is (name_stands v)) (unfold length_fits in refl)),
    field_fits_lem 1 (tempo_stands v) (size_fits 1 4 (size_is (tempo_stands v)) (unfold length_fits in refl)),
    field_fits_lem 2 (chords_stand v) (size_fits 2 32 (chords_size v stored) (unfold length_fits in refl)),
    field_fits_lem 3 (scale_stands v) (size_fits 3 v.scale.n (scale_size v stored) (scale_length v.scale.n edition p.classes_least p.classes.few)),
    field_fits_lem 4 (lead_stands v) (size_fits 4 (note_width edition * s.lead.n) (lead_size v stored) (lead_length s.lead.n edition stored.lead.few)),
    field_fits_lem 5 (keys_stand v) (size_fits 5 (note_width edition * s.keys.n) (keys_size v stored) (keys_length s.keys.n edition stored.keys.few)),
    field_fits_lem 6 (hits_stand v) (size_fits 6 (10 * s.hits.n) (hits_size v stored) (hits_length s.hits.n edition stored.hits.few)),
    field_fits_lem 7 (bass_stands v) (size_fits 7 (note_width edition * s.bass.n) (bass_size v stored) (bass_length s.bass.n edition stored.bass.few)),
    field_fits_lem 8 (ends_stand v) (size_fits 8 6 (size_is (ends_stand v)) (unfold length_fits in refl)),
    field_fits_lem 9 (plays_stand v) (size_fits 9 f.bars (bars_read v stored) (plays_length edition f.bars (song_bars f p.phrases.0 p.phrases.1 p.parts))),
  )

  -- the edition's own field
  first : led (edition_in bytes) bytes ≡ true
  first = rw (edition_read v) (led_by v.edition (the_ten v))

  pub sheet_formed : formed (sheet_of v) ≡ true
  unfolding formed
  sheet_formed = rw (as_fields v, first, ten) (eq-eqb (start_at bytes 10) (length bytes) (last_end (plays_stand v)))

  pub song_read : song_in (sheet_of v) ≡ v
  song_read = song_back v stored
