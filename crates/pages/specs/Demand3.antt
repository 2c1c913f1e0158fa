-- Demand 3: one claim about all pages of a song, in the words of document 01, with hits as document 02 has them; sheet
-- and pages are of edition 2. Definitions only.
use Rattle.std.specs.Prelude.{◌≡◌, Bool, true, cond, List, [], ◌++◌, ℕ, zero, suc, ◌+◌, ◌*◌, ◌/◌, ◌%◌, ◌≤◌, ◌<◌, eqb, ltb, length, get_or, take, drop}
use Rattle.composer.specs.Bass.Promise.{SoundsIn}
use Rattle.composer.specs.Chord.{past_chord, RootPosition}
use Rattle.composer.specs.Compose.{composed_of, compose_of}
use Rattle.composer.specs.Form.{intro_bars_of, loop_bar_of}
use Rattle.composer.specs.Form.Promise.{BodyPromise}
use Rattle.composer.specs.Form.Song.{arrange_of}
use Rattle.composer.specs.Promise.{Sings}
use Rattle.composer.specs.Refusal.{Gives, answered}
use Rattle.composer.specs.Style.{style_number_of}
use Rattle.composer.specs.declared.chord.Chord.{Chord}
use Rattle.composer.specs.declared.compose.Composed.{Composed}
use Rattle.composer.specs.declared.style.Style.{Style}
use Rattle.pages.specs.Answer.{bytes_of, CallAnswers}
use Rattle.pages.specs.Edition.{note_width, sheet_fields, page_fields}
use Rattle.pages.specs.Page.{page_asked}
use Rattle.pages.specs.Sheet.{sheet_asked}
use Rattle.pages.specs.declared.edition.Edition.{Edition}

-- ---- reading a page
-- the body of the first field with this tag among the first n fields
unfoldable pub body_in : ℕ → ℕ → List ℕ → List ℕ
body_in zero tag bytes = []
body_in (suc n) tag bytes =
    let size = get_or bytes 1 0 * 256 + get_or bytes 2 0 in
    cond (eqb (get_or bytes 0 0) tag) (take size (drop 3 bytes)) (body_in n tag (drop (3 + size) bytes))

-- a page has six fields
abbrev pub body_of : ℕ → List ℕ → List ℕ
body_of tag page = body_in page_fields tag page

-- a page has chord or bass where its 0x03 or 0x08 is longer than 0
abbrev pub has : ℕ → List ℕ → Bool
has tag page = ltb 0 (length (body_of tag page))

-- the MIDI numbers of a page's lead or bass: each note has 15 bytes, and after bar and time comes its number
abbrev pub IsNote : ℕ → List ℕ → ℕ → Type 0
IsNote tag page midi =
    (i : ℕ) × (note_width Edition.Two * i < length (body_of tag page)) × (get_or (body_of tag page) (note_width Edition.Two * i + 5) 0 ≡ midi)

-- ---- reading a sheet
-- 0x0A, a byte for each song bar; a sheet has eleven fields
abbrev pub plays_in : List ℕ → List ℕ
plays_in sheet = body_in sheet_fields 0x0a sheet

-- bit 2 of song bar b's byte
abbrev pub drum_bit : List ℕ → ℕ → Bool
drum_bit sheet b = eqb (get_or (plays_in sheet) b 0 / 4 % 2) 1

-- ---- all pages of a song
-- what compose gives for this style and seed: `song` of `Demand3`
abbrev pub song_of : Style → ℕ → Composed
song_of style seed = composed_of style seed

-- the chord of a loop bar
abbrev pub chord_at : Style → ℕ → ℕ → Chord
chord_at style seed bar = get_or (song_of style seed).score.bar_chords bar past_chord

-- the page that bar page writes for song bar b
abbrev pub page_at : Style → ℕ → ℕ → List ℕ
page_at style seed b = bytes_of (page_asked (style_number_of style) seed b)

-- the sheet that sheet writes
abbrev pub sheet_for : Style → ℕ → List ℕ
sheet_for style seed = bytes_of (sheet_asked (style_number_of style) seed)

-- the page of song bar b has hits by the bar's drums bit, whatever its 0x07 holds
abbrev pub has_hits : Style → ℕ → ℕ → Bool
has_hits style seed b = drum_bit (sheet_for style seed) b

-- page b of the body, the 8P song bars after the intro
abbrev pub body_page : Style → ℕ → ℕ → List ℕ
body_page style seed b = page_at style seed (intro_bars_of (arrange_of seed) + b)

-- what a lead note and a bass note may be is the composer's `Sings` and `SoundsIn`
pub record Demand3 (style : Style) (seed : ℕ) : Type 0 where
  -- the song that is spoken of is the one that compose gives
  pub song : answered (compose_of (style_number_of style) seed) ≡ Gives (song_of style seed)
  -- for every song bar, intro and outro included, bar page writes this page into a buffer long enough: `CallAnswers`
  -- is about the `written_of` and the `buffer_of` of the contract of `bar_page`
  pub written : (b : ℕ) → b < (arrange_of seed).bars → (buf : List ℕ) → length (page_at style seed b) ≤ length buf
      → CallAnswers (page_asked (style_number_of style) seed b) buf (Gives (length (page_at style seed b))) (page_at style seed b ++ drop (length (page_at style seed b)) buf)
  -- the sheet too, and its 0x0A has a byte for each song bar
  pub sheet_written : (buf : List ℕ) → length (sheet_for style seed) ≤ length buf
      → CallAnswers (sheet_asked (style_number_of style) seed) buf (Gives (length (sheet_for style seed))) (sheet_for style seed ++ drop (length (sheet_for style seed)) buf)
  pub sheet_bars : length (plays_in (sheet_for style seed)) ≡ (arrange_of seed).bars
  -- the body is part of the song
  pub inside : intro_bars_of (arrange_of seed) + 8 * (arrange_of seed).phrases ≤ (arrange_of seed).bars
  -- which pages of the body have chord, hits and bass; P is the number of phrases in the seed's form
  pub phrases : (4 ≤ (arrange_of seed).phrases) × ((arrange_of seed).phrases ≤ 6)
  pub body : BodyPromise (arrange_of seed).phrases (λ b. has 0x03 (body_page style seed b)) (λ b. has_hits style seed (intro_bars_of (arrange_of seed) + b)) (λ b. has 0x08 (body_page style seed b))
  -- the melody scale has 5 or 6 entries in an array of six, the song eight chords of root, third, fifth and seventh,
  -- and a page whole notes: so nothing below is read past an end
  pub entries : (5 ≤ (song_of style seed).scale.n) × ((song_of style seed).scale.n ≤ 6) × (length (song_of style seed).scale.pcs ≡ 6)
  pub chord_count : length (song_of style seed).score.bar_chords ≡ 8
  pub chords : (bar : ℕ) → bar < 8 → RootPosition (chord_at style seed bar)
  pub whole : (b : ℕ) → b < (arrange_of seed).bars → (length (body_of 0x05 (page_at style seed b)) % note_width Edition.Two ≡ 0) × (length (body_of 0x08 (page_at style seed b)) % note_width Edition.Two ≡ 0)
  -- a page that has 0x03 has the notes of its loop bar's chord there; one that has bass has it; and the first eight
  -- pages of the body have the eight chords: so a marker finds on pages what bass notes are compared with
  pub chord : (b : ℕ) → b < (arrange_of seed).bars → has 0x03 (page_at style seed b) ≡ true → body_of 0x03 (page_at style seed b) ≡ (chord_at style seed (loop_bar_of (arrange_of seed) b)).notes
  pub over_chord : (b : ℕ) → b < (arrange_of seed).bars → has 0x08 (page_at style seed b) ≡ true → has 0x03 (page_at style seed b) ≡ true
  pub eight : (bar : ℕ) → bar < 8 → body_of 0x03 (body_page style seed bar) ≡ (chord_at style seed bar).notes
  -- every lead note and every bass note of every page
  pub lead : (b : ℕ) → b < (arrange_of seed).bars → (midi : ℕ) → IsNote 0x05 (page_at style seed b) midi → Sings style (song_of style seed).scale midi
  pub bass : (b : ℕ) → b < (arrange_of seed).bars → (midi : ℕ) → IsNote 0x08 (page_at style seed b) midi
      → SoundsIn (song_of style seed).score.bar_chords (loop_bar_of (arrange_of seed) b) midi
