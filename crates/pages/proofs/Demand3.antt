-- Demand 3 holds of every style and seed: a page is read back into its loop bar's own chord and notes, those are what
-- the composer promises, each loop bar has bass, and the sheet tells which bars play drums. Assumes nothing.
use mathlib.Core.Path.{◌≡◌, refl, ap, ◌∙◌, subst}
use mathlib.Core.Bool.{Bool, true, false, cond}
use mathlib.Core.List.{List, [], ◌++◌, map}
use Prim.Native.Nat.{ℕ, ◌+◌, ◌*◌, ◌/◌, ◌%◌, ◌≤◌, ◌<◌}
use native.Mathlib.Omega.{arith}
use borrow.Author.Tests.{lt-ltb, ltb-true, eq-eqb, ne_eqb}
use lib.Dec.{ltb, eqb}
use lib.ListN.{length, get_or, drop, get_or-map}
use Rattle.laws.specs.Lists.{joined}
use Rattle.laws.proofs.Lists.{length_map_take, map_take_at}
use Rattle.composer.specs.Bass.Promise.{SoundsIn}
use Rattle.composer.specs.Chord.{past_chord}
use Rattle.composer.specs.Compose.{composed_of}
use Rattle.composer.specs.Form.{intro_bars_of, loop_bar_of}
use Rattle.composer.specs.Form.Plays.{bits_of, silent}
use Rattle.composer.specs.Form.Promise.{BodyPromise, plays_at, strikes, body_strikes, FormPromise}
use Rattle.composer.specs.Form.Song.{arrange_of}
use Rattle.composer.specs.Harmony.{notes_in, notes_of}
use Rattle.composer.specs.Promise.{Sings, ScorePromise}
use Rattle.composer.specs.Refusal.{Answer, Gives}
use Rattle.composer.specs.Style.{style_number_of}
use Rattle.composer.specs.declared.form.Form.{Form}
use Rattle.composer.specs.declared.form.plays.Plays.{Plays}
use Rattle.composer.specs.declared.harmony.Scale.{Scale}
use Rattle.composer.specs.declared.note.Hit.{Hit}
use Rattle.composer.specs.declared.score.Score.{Score}
use Rattle.composer.specs.declared.style.Style.{Style}
use Rattle.composer.proofs.ComposeLaws.{song_promise}
use Rattle.composer.proofs.form.Arranged.{arranged_promise}
use Rattle.composer.proofs.form.AskLaws.{plays_found}
use Rattle.composer.proofs.form.PromiseLaws.{promise_more}
use Rattle.composer.proofs.form.SongLaws.{arranged_sound, arranged_holds}
use Rattle.pages.specs.Answer.{Asked, Writes, bytes_of, CallAnswers}
use Rattle.pages.specs.Bar.{shown, plays_drums}
use Rattle.pages.specs.Demand3.{body_of, has, IsNote, plays_in, page_at, sheet_for, has_hits, body_page, Demand3}
use Rattle.pages.specs.Hits.{page_hits}
use Rattle.pages.specs.Lane.{hit_bytes, events_of, drawn_for}
use Rattle.pages.specs.Page.{page_bytes, page_asked}
use Rattle.pages.specs.Sheet.{plays_bytes, sheet_bytes, sheet_asked}
use Rattle.pages.specs.declared.edition.Edition.{Edition}
use Rattle.pages.specs.declared.lane.Lane.{Lane}
use Rattle.pages.proofs.AnswerLaws.{room_answers}
use Rattle.pages.proofs.LaneLaws.{shown_size}
use Rattle.pages.proofs.PageLaws.{page_found}
use Rattle.pages.proofs.ReadLaws.{chord_body, lead_body, keys_body, hits_body, bass_body, plays_body}
use Rattle.pages.proofs.ScoreLaws.{chord_some, bass_some, lead_shown, bass_shown}
use Rattle.pages.proofs.SheetLaws.{seed_sheet}

strikes_by : (layer : Plays → Bool) (a : Answer Plays) (p : Plays) → a ≡ Gives p → strikes layer a ≡ true → layer p ≡ true
strikes_by layer a p e h = rw e at h

-- what is not silent is shown whole
shown_whole : (on : Bool) (xs : List ℕ) → ltb 0 (length (shown on xs)) ≡ true → shown on xs ≡ xs
shown_whole true xs h = refl
shown_whole false xs h = absurd (omega (arith, ltb-true 0 0 h))

-- what a silent layer would show is nothing
shown_some : (on : Bool) (es : List (List ℕ)) → ltb 0 (length (joined (shown on es))) ≡ true → on ≡ true
unfolding joined
shown_some true es h = refl
shown_some false es h = absurd (omega (arith, ltb-true 0 0 h))

-- ---- the page of a song bar
module _ (style : Style) (seed b : ℕ) (p : Plays) (plays : plays_at (arrange_of seed) b ≡ Gives p) where
  abbrev s : Score
  s = (composed_of style seed).score

  abbrev scale : Scale
  scale = (composed_of style seed).scale

  abbrev bar : ℕ
  bar = loop_bar_of (arrange_of seed) b

  abbrev page : List ℕ
  page = page_at style seed b

  promise : ScorePromise style s scale
  promise = (song_promise style seed).score

  bar_lt : bar < 8
  bar_lt = omega arith

  abbrev hits : List Hit
  hits = page_hits s (arrange_of seed) b

  page_asked_lem : page_asked (style_number_of style) seed b ≡ Writes (page_bytes s p bar hits)
  page_asked_lem = page_found style seed b p plays

  page_is : page ≡ page_bytes s p bar hits
  page_is = ap bytes_of page_asked_lem

  -- a buffer long enough
  page_written : (buf : List ℕ) → length page ≤ length buf
      → CallAnswers (page_asked (style_number_of style) seed b) buf (Gives (length page)) (page ++ drop (length page) buf)
  page_written buf h =
      let room : length (page_bytes s p bar hits) ≤ length buf = rw page_is at h in
      rw page_asked_lem (room_answers (page_bytes s p bar hits) buf room)

  -- what the bar plays, its page has
  chord_has : p.pad ≡ true → has 0x03 page ≡ true
  chord_has e = rw (page_is, chord_body s p bar hits, e) (lt-ltb 0 (length (get_or (notes_of s.bar_chords) bar [])) (chord_some style s scale promise bar bar_lt))

  bass_has : p.bass ≡ true → has 0x08 page ≡ true
  bass_has e = rw (page_is, bass_body s p bar hits, e) (lt-ltb 0 (length (joined (drawn_for bar (events_of Edition.Two s Lane.Bass)))) (bass_some style s scale promise bar bar_lt))

  -- its hits
  pub hits_read : body_of 0x07 page ≡ joined (map hit_bytes hits)
  hits_read = rw page_is (hits_body s p bar hits)

  -- its chord
  chord_read : has 0x03 page ≡ true → body_of 0x03 page ≡ (get_or s.bar_chords bar past_chord).notes
  chord_read h =
      let notes = get_or (notes_of s.bar_chords) bar [] in
      let body : body_of 0x03 page ≡ shown p.pad notes = rw page_is (chord_body s p bar hits) in
      body ∙ shown_whole p.pad notes (rw body at h) ∙ get_or-map notes_in s.bar_chords bar past_chord

  -- its notes
  pub lead_read : body_of 0x05 page ≡ joined (shown p.keys (drawn_for bar (events_of Edition.Two s Lane.Lead)))
  lead_read = rw page_is (lead_body s p bar hits)

  pub keys_read : body_of 0x06 page ≡ joined (shown p.keys (drawn_for bar (events_of Edition.Two s Lane.Keys)))
  keys_read = rw page_is (keys_body s p bar hits)

  pub bass_read : body_of 0x08 page ≡ joined (shown p.bass (drawn_for bar (events_of Edition.Two s Lane.Bass)))
  bass_read = rw page_is (bass_body s p bar hits)

  notes_whole : (length (body_of 0x05 page) % 15 ≡ 0) × (length (body_of 0x08 page) % 15 ≡ 0)
  notes_whole = (rw lead_read (omega (arith, shown_size s Lane.Lead p.keys bar)), rw bass_read (omega (arith, shown_size s Lane.Bass p.bass bar)))

  bass_plays : has 0x08 page ≡ true → p.bass ≡ true
  bass_plays h = shown_some p.bass (drawn_for bar (events_of Edition.Two s Lane.Bass)) (rw bass_read at h)

  lead_sings : (midi : ℕ) → IsNote 0x05 page midi → Sings style scale midi
  lead_sings midi n = subst (Sings style scale) n.2 (rw lead_read (lead_shown style s scale promise bar bar_lt p.keys n.0 (rw lead_read at n.1)))

  bass_sounds : (midi : ℕ) → IsNote 0x08 page midi → SoundsIn s.bar_chords bar midi
  bass_sounds midi n = subst (SoundsIn s.bar_chords bar) n.2 (rw bass_read (bass_shown style s scale promise bar bar_lt p.bass n.0 (rw bass_read at n.1)))

-- ---- the sheet
-- bit 2 of a bar's byte
bit_drums : (p : Plays) → eqb (bits_of p / 4 % 2) 1 ≡ p.drums
bit_drums p = go p.pad p.keys p.drums p.bass
  where
    low : (pad keys : Bool) → cond pad 1 0 + cond keys 2 0 ≤ 3
    low true true = omega arith
    low true false = omega arith
    low false true = omega arith
    low false false = omega arith

    go : (pad keys drums bass : Bool) → eqb ((cond pad 1 0 + cond keys 2 0 + cond drums 4 0 + cond bass 8 0) / 4 % 2) 1 ≡ drums
    go pad keys true true = eq-eqb ((cond pad 1 0 + cond keys 2 0 + 4 + 8) / 4 % 2) 1 (omega (arith, low pad keys))
    go pad keys true false = eq-eqb ((cond pad 1 0 + cond keys 2 0 + 4 + 0) / 4 % 2) 1 (omega (arith, low pad keys))
    go pad keys false true = ne_eqb ((cond pad 1 0 + cond keys 2 0 + 0 + 8) / 4 % 2) 1 (λ e. omega (arith, low pad keys))
    go pad keys false false = ne_eqb ((cond pad 1 0 + cond keys 2 0 + 0 + 0) / 4 % 2) 1 (λ e. omega (arith, low pad keys))

module _ (style : Style) (seed : ℕ) where
  abbrev sheet : List ℕ
  sheet = sheet_bytes Edition.Two seed (composed_of style seed).score (composed_of style seed).scale (arrange_of seed)

  sheet_asked_lem : sheet_asked (style_number_of style) seed ≡ Writes sheet
  sheet_asked_lem = seed_sheet Edition.Two style seed

  sheet_written : (buf : List ℕ) → length (sheet_for style seed) ≤ length buf
      → CallAnswers (sheet_asked (style_number_of style) seed) buf (Gives (length (sheet_for style seed))) (sheet_for style seed ++ drop (length (sheet_for style seed)) buf)
  sheet_written buf h =
      let room : length sheet ≤ length buf = rw sheet_asked_lem at h in
      rw sheet_asked_lem (room_answers sheet buf room)

  plays_read : plays_in (sheet_for style seed) ≡ plays_bytes (arrange_of seed)
  plays_read = ap (λ (a : Asked). plays_in (bytes_of a)) sheet_asked_lem ∙ plays_body seed (composed_of style seed).score (composed_of style seed).scale (arrange_of seed)

  sheet_bars : length (plays_in (sheet_for style seed)) ≡ (arrange_of seed).bars
  sheet_bars = ap length plays_read ∙ length_map_take bits_of (arrange_of seed).plays (arrange_of seed).bars (arranged_holds seed)

  -- a page has hits where its bar plays drums
  pub drums_told : (b : ℕ) → b < (arrange_of seed).bars → has_hits style seed b ≡ plays_drums (arrange_of seed) b
  drums_told b h =
      let f = arrange_of seed in
      rw (plays_read, map_take_at bits_of f.plays f.bars b silent 0 h (arranged_holds seed), plays_found f (arranged_sound seed) b h) (bit_drums (get_or f.plays b silent))

-- ---- all pages of a song
module _ (style : Style) (seed : ℕ) where
  abbrev f : Form
  f = arrange_of seed

  form : FormPromise seed f
  form = arranged_promise seed

  -- a page of the body has what its bar plays
  also : (layer : Plays → Bool) (tag : ℕ) → ((b : ℕ) (p : Plays) → plays_at f b ≡ Gives p → layer p ≡ true → has tag (page_at style seed b) ≡ true)
      → (b : ℕ) → b < 8 * f.phrases → body_strikes f layer b ≡ true → has tag (body_page style seed b) ≡ true
  also layer tag has-it b h e =
      let k = form.found (intro_bars_of f + b) (omega (arith, form.song_bars)) in
      has-it (intro_bars_of f + b) k.0 k.1 (strikes_by layer (plays_at f (intro_bars_of f + b)) k.0 k.1 e)

  drums_also : (b : ℕ) → b < 8 * f.phrases → body_strikes f (λ p. p.drums) b ≡ true → has_hits style seed (intro_bars_of f + b) ≡ true
  drums_also b h e = rw (drums_told style seed (intro_bars_of f + b) (omega (arith, form.song_bars))) e

  body : BodyPromise f.phrases (λ b. has 0x03 (body_page style seed b)) (λ b. has_hits style seed (intro_bars_of f + b)) (λ b. has 0x08 (body_page style seed b))
  body =
      promise_more f.phrases (body_strikes f (λ p. p.pad)) (body_strikes f (λ p. p.drums)) (body_strikes f (λ p. p.bass)) (λ b. has 0x03 (body_page style seed b)) (λ b. has_hits style seed (intro_bars_of f + b))
      (λ b. has 0x08 (body_page style seed b)) (also (λ p. p.pad) 0x03 (chord_has style seed)) drums_also (also (λ p. p.bass) 0x08 (bass_has style seed)) form.body

  -- ---- chords
  over_chord : (b : ℕ) → b < f.bars → has 0x08 (page_at style seed b) ≡ true → has 0x03 (page_at style seed b) ≡ true
  over_chord b h e =
      let k = form.found b h in
      let bass : strikes (λ p. p.bass) (plays_at f b) ≡ true = rw k.1 (bass_plays style seed b k.0 k.1 e) in
      chord_has style seed b k.0 k.1 (strikes_by (λ p. p.pad) (plays_at f b) k.0 k.1 (form.over_pad b h bass))

  -- the body starts on loop bar 0
  eight_chords : (bar : ℕ) → bar < 8 → body_of 0x03 (body_page style seed bar) ≡ (get_or (composed_of style seed).score.bar_chords bar past_chord).notes
  eight_chords bar h =
      let b = intro_bars_of f + bar in
      let k = form.found b (omega (arith, form.song_bars, form.phrases.0)) in
      let at : loop_bar_of f b ≡ bar = omega arith in
      chord_read style seed b k.0 k.1 (body.chords bar (omega (arith, form.phrases.0)))
      ∙ ap (λ (n : ℕ). (get_or (composed_of style seed).score.bar_chords n past_chord).notes) at

  pub demand_3 : Demand3 style seed
  demand_3 = record {
    song = (song_promise style seed).given;
    written = λ b h. let k = form.found b h in page_written style seed b k.0 k.1;
    sheet_written = sheet_written style seed;
    sheet_bars = sheet_bars style seed;
    inside = omega (arith, form.song_bars);
    phrases = form.phrases;
    body = body;
    entries = ((song_promise style seed).score.scale_least, (song_promise style seed).score.scale_most, (song_promise style seed).score.scale_size);
    chord_count = (song_promise style seed).score.chord_count;
    chords = (song_promise style seed).score.chords;
    whole = λ b h. let k = form.found b h in notes_whole style seed b k.0 k.1;
    chord = (λ b h. let k = form.found b h in chord_read style seed b k.0 k.1);
    over_chord = over_chord;
    eight = eight_chords;
    lead = (λ b h. let k = form.found b h in lead_sings style seed b k.0 k.1);
    bass = (λ b h. let k = form.found b h in bass_sounds style seed b k.0 k.1);
  }
