-- The length of a sheet: by its counts, and at most 5,164 bytes in edition 1, 5,456 in edition 2. Every song has its
-- sheet. Assumes nothing.
use mathlib.Core.Path.{◌≡◌, ap, ◌∙◌}
use mathlib.Core.List.{List}
use Prim.Native.Nat.{ℕ, zero, suc, ◌+◌, ◌*◌, ◌≤◌, ◌<◌}
use native.Mathlib.Omega.{arith}
use lib.ListN.{length, get_or, take, length-append, length-map}
use lib.Seq.{length-take-le, take_all}
use Rattle.laws.specs.Lists.{joined}
use Rattle.laws.specs.Sorts.{All}
use Rattle.laws.proofs.Joins.{length_joined}
use Rattle.laws.proofs.Lists.{length_map_take}
use Rattle.laws.proofs.Sorts.{all_by, all_map}
use Rattle.composer.specs.Chord.{past_chord}
use Rattle.composer.specs.Compose.{composed_of}
use Rattle.composer.specs.Form.Plays.{bits_of}
use Rattle.composer.specs.Form.Song.{arrange_of}
use Rattle.composer.specs.Harmony.{notes_in, notes_of}
use Rattle.composer.specs.Style.{style_number_of}
use Rattle.composer.specs.declared.chord.Chord.{Chord}
use Rattle.composer.specs.declared.form.Form.{Form}
use Rattle.composer.specs.declared.harmony.Scale.{Scale}
use Rattle.composer.specs.declared.score.Score.{Score}
use Rattle.composer.specs.declared.style.Style.{Style}
use Rattle.composer.proofs.ComposeLaws.{composed_is, song_promise}
use Rattle.composer.proofs.form.Arranged.{arranged_promise}
use Rattle.pages.specs.Answer.{Writes, bytes_of}
use Rattle.pages.specs.Edition.{note_width, edition_size, sheet_most}
use Rattle.pages.specs.Lane.{tag_of, width_of, lane_size, events_of}
use Rattle.pages.specs.Sheet.{song_bytes, lane_field, lanes_size, lanes_bytes, form_bytes, sheet_size, sheet_bytes, sheet_in, sheet_asked}
use Rattle.pages.specs.Writable.{SizedLanes}
use Rattle.pages.specs.declared.edition.Edition.{Edition}
use Rattle.pages.specs.declared.lane.Lane.{Lane}
use Rattle.pages.proofs.BytesLaws.{length_field, edition_length}
use Rattle.pages.proofs.LaneLaws.{widths, length_events}
use Rattle.pages.proofs.WritableLaws.{sized}

-- ---- chords
-- eight chords of four notes
pub chords_length : (chords : List Chord) → length chords ≡ 8 → ((b : ℕ) → b < 8 → length (get_or chords b past_chord).notes ≡ 4) → length (joined (notes_of chords)) ≡ 32
chords_length chords eight each =
    let four : All (λ c. length (notes_in c) ≡ 4) (take 8 chords) = all_by (λ c. length (notes_in c) ≡ 4) past_chord chords 8 each in
    let fours : All (λ c. length (notes_in c) ≡ 4) chords = rw (take_all 8 chords (omega arith)) at four in
    omega (arith, length_joined 4 (notes_of chords) (all_map notes_in (λ c. length c ≡ 4) chords fours), length-map chords notes_in)

-- ---- by the counts
length_lane : (edition : Edition) (s : Score) → SizedLanes s → (lane : Lane) → length (lane_field edition s lane) ≡ 3 + lane_size edition s lane
length_lane edition s p lane =
    length_field (tag_of lane) (joined (events_of edition s lane))
    ∙ ap (λ (n : ℕ). 3 + n) (length_joined (width_of edition lane) (events_of edition s lane) (widths edition s lane) ∙ ap (λ (n : ℕ). width_of edition lane * n) (length_events s p edition lane))

song_length_lem : (seed : ℕ) (s : Score) (scale : Scale) → length (joined (notes_of s.bar_chords)) ≡ 32 → scale.n ≤ length scale.pcs → length (song_bytes seed s scale) ≡ 58 + scale.n
unfolding song_bytes
song_length_lem seed s scale chords few = simp (length-append, length_field) (omega (arith, chords, length-take-le scale.n scale.pcs few))

lanes_length : (edition : Edition) (s : Score) → SizedLanes s → length (lanes_bytes edition s) ≡ lanes_size edition s
unfolding lanes_bytes
lanes_length edition s p =
    simp length-append (omega (arith, length_lane edition s p Lane.Lead, length_lane edition s p Lane.Keys, length_lane edition s p Lane.Hits, length_lane edition s p Lane.Bass))

form_length : (f : Form) → f.bars ≤ length f.plays → length (form_bytes f) ≡ 12 + f.bars
unfolding form_bytes
form_length f few = simp (length-append, length_field) (omega (arith, length_map_take bits_of f.plays f.bars few))

module _ (edition : Edition) where
  pub sheet_length : (seed : ℕ) (s : Score) (scale : Scale) (f : Form) → SizedLanes s → length (joined (notes_of s.bar_chords)) ≡ 32 → scale.n ≤ length scale.pcs → f.bars ≤ length f.plays
      → length (sheet_bytes edition seed s scale f) ≡ sheet_size edition s scale f
  unfolding sheet_bytes
  sheet_length seed s scale f p chords few bars =
      simp length-append (omega (arith, edition_length edition, song_length_lem seed s scale chords few, lanes_length edition s p, form_length f bars))

  -- ---- of every seed and both styles
  pub song_sheet : (style : Style) (seed : ℕ)
      → length (sheet_bytes edition seed (composed_of style seed).score (composed_of style seed).scale (arrange_of seed)) ≡ sheet_size edition (composed_of style seed).score (composed_of style seed).scale (arrange_of seed)
  song_sheet style seed =
      let song = (song_promise style seed).score in
      let form = arranged_promise seed in
      sheet_length seed (composed_of style seed).score (composed_of style seed).scale (arrange_of seed) (sized (composed_of style seed).score song.lanes)
      (chords_length (composed_of style seed).score.bar_chords song.chord_count song.range.chord_size)
      (omega (arith, song.scale_most, song.scale_size))
      (omega (arith, form.most, form.size))

-- so many entries, notes and hits, in either edition
pub counts_most : (edition : Edition) (scale lead keys hits bass bars : ℕ) → scale ≤ 6 → lead ≤ 56 → keys ≤ 128 → hits ≤ 98 → bass ≤ 104 → bars ≤ 64
    → edition_size edition + 82 + scale + note_width edition * lead + note_width edition * keys + 10 * hits + note_width edition * bass + bars ≤ sheet_most edition
counts_most Edition.One scale lead keys hits bass bars a b c d e f = omega arith
counts_most Edition.Two scale lead keys hits bass bars a b c d e f = omega arith

-- every song has its sheet, in both editions
pub seed_sheet : (edition : Edition) (style : Style) (seed : ℕ)
    → sheet_in edition (style_number_of style) seed ≡ Writes (sheet_bytes edition seed (composed_of style seed).score (composed_of style seed).scale (arrange_of seed))
unfolding sheet_in
seed_sheet edition style seed = rw (composed_is style seed)

module _ (edition : Edition) where
  song_most : (style : Style) (seed : ℕ) → length (sheet_bytes edition seed (composed_of style seed).score (composed_of style seed).scale (arrange_of seed)) ≤ sheet_most edition
  song_most style seed =
      let song = (song_promise style seed).score in
      rw (song_sheet edition style seed)
      (counts_most edition _ _ _ _ _ _ song.scale_most song.lanes.lead.few song.lanes.keys.few song.lanes.hits.few song.lanes.bass.few (arranged_promise seed).most)

  -- of every style's number; a refusal writes nothing
  pub sheet_in_most : (style seed : ℕ) → length (bytes_of (sheet_in edition style seed)) ≤ sheet_most edition
  unfolding sheet_in
  sheet_in_most zero seed = song_most Style.Hiphop seed
  sheet_in_most (suc zero) seed = song_most Style.Sleep seed
  sheet_in_most (suc (suc n)) seed = omega arith

-- as sheets are asked for
pub sheet_most_lem : (style seed : ℕ) → length (bytes_of (sheet_asked style seed)) ≤ sheet_most Edition.Two
sheet_most_lem = sheet_in_most Edition.Two

-- edition 2 has the longest
pub edition_most : (edition : Edition) → sheet_most edition ≤ sheet_most Edition.Two
edition_most Edition.One = omega arith
edition_most Edition.Two = omega arith
