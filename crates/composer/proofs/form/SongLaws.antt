-- An arranged form is sound: its parts are its bars, 64 at most; and its bars are the song's. Assumes nothing.
use mathlib.Core.Path.{◌≡◌, refl, sym, ap, ◌∙◌}
use mathlib.Core.Bool.{true, not, ◌&&◌, and_assoc}
use Prim.Native.Nat.{ℕ, zero, suc, ◌+◌, ◌-◌, ◌*◌, ◌/◌, ◌%◌, ◌≤◌, ◌<◌}
use native.Mathlib.Omega.{arith}
use borrow.Author.Tests.{lt-ltb, le-ltb, eq-eqb, le-leb}
use lib.Dec.{leb, eqb}
use mathlib.Core.List.{◌++◌}
use native.Mathlib.Numerals.{add-one}
use native.Mathlib.Nat.{le_refl}
use lib.ListN.{length, get_or, drop, replicate, length-replicate, replicate-append-replicate}
use Rattle.std.proofs.lemmas.List.{drop-replicate}
use Rattle.laws.specs.Lists.{list_to, pad}
use Rattle.laws.proofs.Lists.{length_pad, pad_at_lem, list_to_at, length_list_to}
use Rattle.streams.specs.Stream.{unit_at}
use Rattle.streams.specs.Stage.{stream_of}
use Rattle.streams.specs.declared.stage.Stage.{Stage}
use Rattle.composer.specs.Form.Plays.{silent}
use Rattle.composer.specs.Form.Decisions.{decide_of}
use Rattle.composer.specs.Form.Body.{low_thinning, cut_at, body_bar_of, phrase_of, phrase_bar_of}
use Rattle.composer.specs.Form.Song.{intro_of, intro_plays, outro_of, outro_plays, intro_length, song_length, song_bar_of, song_plays_of, form_of, decisions_of, arrange_of}
use Rattle.composer.specs.Form.Ask.{sound_of}
use Rattle.composer.specs.declared.form.decisions.Decisions.{Decisions}
use Rattle.composer.proofs.form.AskLaws.{sound_bars}
use Rattle.composer.proofs.form.DecisionsLaws.{phrases_least, phrases_most, cuts_short}
use Rattle.composer.proofs.form.EndsLaws.{end_bars_le, outro_length_le}

module _ (seed : ℕ) where
  pub drawn_phrases_least : 4 ≤ (decisions_of seed).phrases
  unfolding decide_of
  drawn_phrases_least = phrases_least (unit_at (stream_of Stage.Form seed))

  pub drawn_phrases_most : (decisions_of seed).phrases ≤ 6
  unfolding decide_of
  drawn_phrases_most = phrases_most (unit_at (stream_of Stage.Form seed))

  pub drawn_cuts_short : (p : ℕ) → (cut_at (decisions_of seed) p).bars ≤ 3
  unfolding decide_of
  drawn_cuts_short = cuts_short (unit_at (stream_of Stage.Form seed))

module _ (d : Decisions) where
  song_length_le : d.phrases ≤ 6 → song_length d ≤ 64
  song_length_le h =
      omega (arith, end_bars_le (intro_of d.opening d.long_intro), outro_length_le (outro_of d.closing d.long_outro))

  form_sound : d.phrases ≤ 6 → sound_of (form_of d) ≡ true
  unfolding form_of sound_of
  form_sound h = rw (eq-eqb (song_length d) (song_length d) refl, le-leb (song_length d) 64 (song_length_le h))

  pub form_bar : (k : ℕ) → k < song_length d → get_or (form_of d).plays k silent ≡ song_bar_of d (intro_length d) k
  unfolding form_of
  form_bar k h =
      let song = list_to (song_bar_of d (intro_length d)) (song_length d) in
      pad_at_lem silent 64 song k (omega (arith, length_list_to (song_bar_of d (intro_length d)) (song_length d)))
      ∙ list_to_at (song_bar_of d (intro_length d)) silent (song_length d) k h

  -- the array holds the whole song
  form_holds : d.phrases ≤ 6 → (form_of d).bars ≤ length (form_of d).plays
  unfolding form_of
  form_holds h =
      let song = list_to (song_bar_of d (intro_length d)) (song_length d) in
      omega (arith, song_length_le h, length_pad silent 64 song (omega (arith, song_length_le h, length_list_to (song_bar_of d (intro_length d)) (song_length d))))

  in_body : (n b : ℕ) → b < 8 * d.phrases → song_bar_of d n (n + b) ≡ body_bar_of d b
  unfolding song_bar_of
  in_body n b h =
      let e : n + b - n ≡ b = omega arith in
      let late : n ≤ n + b = omega arith in
      rw (le-ltb (n + b) n late, e, lt-ltb b (8 * d.phrases) h)

  -- the song's bars as the loops make them: the intro's, phrase by phrase the body's, the outro's
  in_intro : (n b : ℕ) → b < n → intro_plays d.opening ≡ song_bar_of d n b
  unfolding song_bar_of
  in_intro n b h = rw (lt-ltb b n h)

  intro_first : (n k : ℕ) → k ≤ n → list_to (song_bar_of d n) k ≡ replicate k (intro_plays d.opening)
  unfolding list_to
  intro_first n zero h = refl
  intro_first n (suc k) h =
      rw (intro_first n k (omega arith), ← in_intro n k h, replicate-append-replicate k 1 (intro_plays d.opening), add-one)

  pub intro_stands : (n : ℕ) → n ≤ 64 → replicate n (intro_plays d.opening) ++ drop n (replicate 64 silent) ≡ song_plays_of d n n
  unfolding pad
  intro_stands n h = rw (intro_first n n (le_refl n), length-replicate n (intro_plays d.opening), drop-replicate)

  phrase_bar : (p i : ℕ) → i < 8 → phrase_bar_of (phrase_of d p) i ≡ body_bar_of d (8 * p + i)
  unfolding body_bar_of phrase_of phrase_bar_of
  phrase_bar p i h =
      let q : (8 * p + i) / 8 ≡ p = omega arith in
      let r : (8 * p + i) % 8 ≡ i = omega arith in
      rw (q, r, and_assoc ((d.bass_drop && leb 5 d.phrases) && not (low_thinning d)) (eqb p (d.phrases / 2 + 1)) (leb 4 i))

  pub in_phrase : (n p i b : ℕ) → p < d.phrases → i < 8 → b ≡ n + 8 * p + i → phrase_bar_of (phrase_of d p) i ≡ song_bar_of d n b
  in_phrase n p i b h k e =
      let at : b ≡ n + (8 * p + i) = omega arith in
      phrase_bar p i k ∙ sym (in_body n (8 * p + i) (omega arith)) ∙ ap (song_bar_of d n) (sym at)

  pub in_outro : (n b : ℕ) → n + 8 * d.phrases ≤ b → outro_plays d.closing (b - (n + 8 * d.phrases)) ≡ song_bar_of d n b
  unfolding song_bar_of
  in_outro n b h =
      let e : b - (n + 8 * d.phrases) ≡ b - n - 8 * d.phrases = omega arith in
      rw (le-ltb b n (omega arith), le-ltb (b - n) (8 * d.phrases) (omega arith), e)

  -- the bars after the intro are the body's
  pub body_bar : (b : ℕ) → b < 8 * d.phrases → get_or (form_of d).plays (intro_length d + b) silent ≡ body_bar_of d b
  body_bar b h = form_bar (intro_length d + b) (omega arith) ∙ in_body (intro_length d) b h

pub arranged_sound : (seed : ℕ) → sound_of (arrange_of seed) ≡ true
arranged_sound seed = form_sound (decisions_of seed) (drawn_phrases_most seed)

pub arranged_bars : (seed : ℕ) → (arrange_of seed).bars ≤ 64
arranged_bars seed = sound_bars (arrange_of seed) (arranged_sound seed)

pub arranged_holds : (seed : ℕ) → (arrange_of seed).bars ≤ length (arrange_of seed).plays
arranged_holds seed = form_holds (decisions_of seed) (drawn_phrases_most seed)
