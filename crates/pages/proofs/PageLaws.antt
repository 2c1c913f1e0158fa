-- How long a page is, and that it has at most 703 bytes, since no bar of a lane has more events than its stage can
-- draw, and none more than one early hit. Assumes nothing.
use mathlib.Core.Path.{◌≡◌, refl, ap, ◌∙◌}
use mathlib.Core.Bool.{Bool, true, false, cond}
use mathlib.Core.List.{List, [], ◌++◌}
use Prim.Native.Nat.{ℕ, zero, suc, ◌+◌, ◌≤◌, ◌<◌}
use native.Mathlib.Omega.{arith}
use borrow.Author.Tests.{leb-false}
use lib.Dec.{leb}
use lib.ListN.{length, get_or, take, length-append, get_or-map}
use Rattle.laws.specs.Lists.{joined}
use Rattle.composer.specs.Chord.{past_chord}
use Rattle.composer.specs.Compose.{composed_of}
use Rattle.composer.specs.Form.{loop_bar_of}
use Rattle.composer.specs.Form.Ask.{sound_of, plays_of}
use Rattle.composer.specs.Form.Plays.{silent}
use Rattle.composer.specs.Form.Promise.{plays_at}
use Rattle.composer.specs.Form.Song.{arrange_of}
use Rattle.composer.specs.Harmony.{notes_in, notes_of}
use Rattle.composer.specs.Note.{note_bar}
use Rattle.composer.specs.Promise.{LanesPromise, BarsPromise}
use Rattle.composer.specs.Refusal.{Gives}
use Rattle.composer.specs.Style.{style_number_of}
use Rattle.composer.specs.declared.form.Form.{Form}
use Rattle.composer.specs.declared.form.plays.Plays.{Plays}
use Rattle.composer.specs.declared.note.Hit.{Hit}
use Rattle.composer.specs.declared.refusal.Refusal.{Refusal}
use Rattle.composer.specs.declared.score.Score.{Score}
use Rattle.composer.specs.declared.style.Style.{Style}
use Rattle.composer.proofs.ComposeLaws.{composed_is, song_promise}
use Rattle.composer.proofs.RefusalLaws.{gives_ok}
use Rattle.composer.proofs.form.AskLaws.{plays_past}
use Rattle.composer.proofs.form.SongLaws.{arranged_sound}
use Rattle.pages.specs.Answer.{Writes, Declines, bytes_of}
use Rattle.pages.specs.Bar.{shown}
use Rattle.pages.specs.Bytes.{field}
use Rattle.pages.specs.Edition.{edition_field, page_most}
use Rattle.pages.specs.Hits.{page_hits, hits_field}
use Rattle.pages.specs.Inner.Hits.{run_hits, heard_runs_of}
use Rattle.pages.specs.Lane.{note_bytes, events_of, drawn_for}
use Rattle.pages.specs.Page.{Chorded, chord_field, bar_field, page_bytes, chord_size, bar_size, page_size, runs_in, runs_bytes, runs_size, page_by, page_of, page_asked}
use Rattle.pages.specs.declared.hits.HeardRuns.{HeardRuns}
use Rattle.pages.specs.declared.edition.Edition.{Edition}
use Rattle.pages.specs.declared.lane.Lane.{Lane}
use Rattle.pages.specs.declared.page.Runs.{Runs}
use Rattle.pages.proofs.BytesLaws.{length_field, edition_length}
use Rattle.pages.proofs.HitsLaws.{hits_length, runs_hits, page_hits_most}
use Rattle.pages.proofs.LaneLaws.{note_bar_lem, run_drawn, run_length, drawn_count, shown_most, shown_size}
use Rattle.std.proofs.Common.{Result, Ok, Err}

-- a bar's chord has four notes
pub chord_notes : (s : Score) → Chorded s → (bar : ℕ) → bar < 8 → length (get_or (notes_of s.bar_chords) bar []) ≡ 4
chord_notes s p bar h = ap length (get_or-map notes_in s.bar_chords bar past_chord) ∙ p bar h

chord_length : (s : Score) → Chorded s → (on : Bool) (bar : ℕ) → bar < 8 → length (chord_field s on bar) ≡ 3 + chord_size on
chord_length s p true bar h = omega (arith, length_field 0x03 (get_or (notes_of s.bar_chords) bar []), chord_notes s p bar h)
chord_length s p false bar h = length_field 0x03 []

module _ (s : Score) (lane : Lane) where
  bar_length : (on : Bool) (bar tag : ℕ) → length (field tag (joined (shown on (drawn_for bar (events_of Edition.Two s lane))))) ≡ 3 + bar_size s lane on bar
  bar_length on bar tag = length_field tag (joined (shown on (drawn_for bar (events_of Edition.Two s lane)))) ∙ ap (λ (n : ℕ). 3 + n) (shown_size s lane on bar)

-- the length of a page, by the counts of its events
pub page_length : (s : Score) → Chorded s → (p : Plays) (bar : ℕ) (hs : List Hit) → bar < 8 → length (page_bytes s p bar hs) ≡ page_size s p bar (length hs)
unfolding page_bytes
page_length s q p bar hs h =
    let bass = bar_field s Lane.Bass p.bass bar in
    let hits = hits_field hs in
    let keys = bar_field s Lane.Keys p.keys bar in
    let lead = bar_field s Lane.Lead p.keys bar in
    let chord = chord_field s p.pad bar in
    omega (
      arith,
      length-append (edition_field Edition.Two) (chord ++ (lead ++ (keys ++ (hits ++ bass)))),
      edition_length Edition.Two,
      length-append chord (lead ++ (keys ++ (hits ++ bass))),
      length-append lead (keys ++ (hits ++ bass)),
      length-append keys (hits ++ bass),
      length-append hits bass,
      chord_length s q p.pad bar h,
      bar_length s Lane.Lead p.keys bar 5,
      bar_length s Lane.Keys p.keys bar 6,
      hits_length hs,
      bar_length s Lane.Bass p.bass bar 8,
    )

-- ---- by the runs of its events
module _ (s : Score) (promise : LanesPromise s) where
  runs_size_lem : (p : Plays) (bar hits : ℕ) → runs_size p.pad (runs_in s p bar) hits ≡ page_size s p bar hits
  runs_size_lem p bar hits =
      rw (
        run_length s promise Edition.Two Lane.Lead p.keys bar,
        run_length s promise Edition.Two Lane.Keys p.keys bar,
        run_length s promise Edition.Two Lane.Bass p.bass bar,
      )

  runs_bytes_lem : (p : Plays) (bar : ℕ) (hits : List Hit) → runs_bytes s p bar (runs_in s p bar) hits ≡ page_bytes s p bar hits
  unfolding runs_bytes page_bytes
  runs_bytes_lem p bar hits =
      rw (
        run_drawn s promise Edition.Two Lane.Lead p.keys bar,
        run_drawn s promise Edition.Two Lane.Keys p.keys bar,
        run_drawn s promise Edition.Two Lane.Bass p.bass bar,
      )

  -- of runs that are the bar's
  module _ (p : Plays) (bar : ℕ) {runs : Runs} (r : runs ≡ runs_in s p bar) where
    pub drawn_size : (hits : ℕ) → runs_size p.pad runs hits ≡ page_size s p bar hits
    drawn_size hits = rw r (runs_size_lem p bar hits)

    pub drawn_bytes : (hits : List Hit) → runs_bytes s p bar runs hits ≡ page_bytes s p bar hits
    drawn_bytes hits = rw r (runs_bytes_lem p bar hits)

  -- the runs of song bar b have in all the page's size, and its bytes
  module _ (p : Plays) (f : Form) (b : ℕ) {bar : ℕ} {runs : Runs} {hits : HeardRuns} (e : bar ≡ loop_bar_of f b) (r : runs ≡ runs_in s p bar) (h : hits ≡ heard_runs_of s f b) where
    pub size_is : {n : ℕ} → n ≡ runs_size p.pad runs hits.count → n ≡ page_size s p (loop_bar_of f b) (length (page_hits s f b))
    size_is size = size ∙ rw (r, e, h) (runs_size_lem p (loop_bar_of f b) (length (page_hits s f b)))

    pub bytes_is : runs_bytes s p bar runs (run_hits s hits) ≡ page_bytes s p (loop_bar_of f b) (page_hits s f b)
    bytes_is = rw (r, e, h, runs_hits s promise f b) (runs_bytes_lem p (loop_bar_of f b) (page_hits s f b))

-- ---- at most
chord_most : (on : Bool) → chord_size on ≤ 4
chord_most true = omega arith
chord_most false = omega arith

bars_most : (s : Score) (p : Plays) (bar hits : ℕ) → BarsPromise s → hits ≤ 14 → page_size s p bar hits ≤ page_most
bars_most s p bar hits each few =
    omega (
      arith,
      chord_most p.pad,
      shown_most p.keys (drawn_for bar (events_of Edition.Two s Lane.Lead)) 7 (omega (arith, drawn_count note_bar (note_bytes Edition.Two) (note_bar_lem Edition.Two) (take s.lead.n s.lead.at) bar, each.lead bar)),
      shown_most p.keys (drawn_for bar (events_of Edition.Two s Lane.Keys)) 16 (omega (arith, drawn_count note_bar (note_bytes Edition.Two) (note_bar_lem Edition.Two) (take s.keys.n s.keys.at) bar, each.keys bar)),
      shown_most p.bass (drawn_for bar (events_of Edition.Two s Lane.Bass)) 13 (omega (arith, drawn_count note_bar (note_bytes Edition.Two) (note_bar_lem Edition.Two) (take s.bass.n s.bass.at) bar, each.bass bar)),
    )

-- ---- of every style's number, seed and bar; a refusal writes nothing
by_most : (a : Result Plays Refusal) (s : Score) (bar : ℕ) (hits : List Hit) (m : ℕ) → ((p : Plays) → length (page_bytes s p bar hits) ≤ m) → length (bytes_of (page_by a s bar hits)) ≤ m
by_most (Ok p) s bar hits m h = h p
by_most (Err r) s bar hits m h = omega arith

song_most : (style : Style) (seed b : ℕ) → length (bytes_of (page_of (composed_of style seed).score (arrange_of seed) b)) ≤ page_most
song_most style seed b =
    let s = (composed_of style seed).score in
    let bar = loop_bar_of (arrange_of seed) b in
    let hits = page_hits s (arrange_of seed) b in
    let song = (song_promise style seed).score in
    by_most (plays_of (arrange_of seed) b) s bar hits page_most
    (λ p. omega (arith, page_length s song.range.chord_size p bar hits (omega arith), bars_most s p bar (length hits) song.bars (page_hits_most s song.bars song.early (arrange_of seed) b)))

pub page_most_lem : (style seed b : ℕ) → length (bytes_of (page_asked style seed b)) ≤ page_most
unfolding page_asked
page_most_lem zero seed b = song_most Style.Hiphop seed b
page_most_lem (suc zero) seed b = song_most Style.Sleep seed b
page_most_lem (suc (suc n)) seed b = omega arith

-- ---- which bars have a page
-- a bar that is found is one of the form's
pub found_below : (f : Form) (b : ℕ) (p : Plays) → plays_of f b ≡ Ok p → b < f.bars
unfolding plays_of
found_below f b p = go (sound_of f) (leb f.bars b) refl
  where
    go : (sound past : Bool) → leb f.bars b ≡ past
        → cond sound (cond past (Err Refusal.NoSuchBar) (Ok (get_or f.plays b silent))) (Err Refusal.Malformed) ≡ Ok p → b < f.bars
    go true true e h = let z : ◌≡◌ {A = ℕ} 0 1 = cc in absurd (omega arith)
    go true false e h = leb-false f.bars b e
    go false past e h = let z : ◌≡◌ {A = ℕ} 0 1 = cc in absurd (omega arith)

module _ (style : Style) (seed b : ℕ) where
  -- a bar below the song's count
  pub page_found : (p : Plays) → plays_at (arrange_of seed) b ≡ Gives p
      → page_asked (style_number_of style) seed b ≡ Writes (page_bytes (composed_of style seed).score p (loop_bar_of (arrange_of seed) b) (page_hits (composed_of style seed).score (arrange_of seed) b))
  unfolding page_asked
  page_found p plays = rw (composed_is style seed, gives_ok (plays_of (arrange_of seed) b) p plays)

  -- any other is refused with 3
  pub page_past : (arrange_of seed).bars ≤ b → page_asked (style_number_of style) seed b ≡ Declines Refusal.NoSuchBar
  unfolding page_asked
  page_past h = rw (composed_is style seed, plays_past (arrange_of seed) (arranged_sound seed) b h)
