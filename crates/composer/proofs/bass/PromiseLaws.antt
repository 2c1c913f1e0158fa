-- What every bass line keeps: at most 104 notes and zeroes behind them, the bars in order, none without a note and
-- none with more than 13, and in each bar its root, its fifth and the note under the next root alone, from 30 to 42.
-- Assumes nothing.
use mathlib.Core.Path.{◌≡◌, refl}
use mathlib.Core.List.{List}
use Prim.Native.Nat.{ℕ, zero, suc, ◌+◌, ◌-◌, ◌*◌, ◌%◌, ◌≤◌, ◌<◌}
use native.Mathlib.Omega.{arith}
use lib.ListN.{get_or, length, take}
use lib.Ieee.{Float}
use Rattle.laws.specs.Lanes.{Occurs, EachAtMost, Laid}
use Rattle.laws.proofs.Lanes.{Grown, grown_none, grown_then, grown_as, bars_laid, bars_occur, bars_few}
use Rattle.streams.specs.declared.stream.NoiseStream.{NoiseStream}
use Rattle.composer.specs.Chord.{past_chord}
use Rattle.composer.specs.Note.{no_note, past_note, note_bar}
use Rattle.composer.specs.Range.{Within}
use Rattle.composer.specs.Style.{bass_style_of}
use Rattle.composer.specs.Harmony.{Tonal}
use Rattle.composer.specs.Bass.{part_of, bars_played, no_bass, bass_of}
use Rattle.composer.specs.Bass.Rhythm.{Steps, Rising, past_steps, bass_rhythms_of}
use Rattle.composer.specs.Bass.Promise.{SoundsIn}
use Rattle.composer.specs.declared.chord.Chord.{Chord}
use Rattle.composer.specs.declared.note.Note.{Note}
use Rattle.composer.specs.declared.harmony.Harmony.{Harmony}
use Rattle.composer.specs.declared.style.Style.{Style}
use Rattle.composer.specs.declared.style.BassStyle.{BassStyle}
use Rattle.composer.specs.Bass.Line.{BassLane}
use Rattle.composer.proofs.ChordLaws.{root_fifth}
use Rattle.composer.proofs.HarmonyLaws.{tonal_root}
use Rattle.composer.proofs.bass.RhythmLaws.{rhythms_rising}
use Rattle.composer.proofs.bass.LineLaws.{Over, NoteOf, bar_count, bar_grown}
use Rattle.composer.proofs.bass.BassLaws.{part_playable, bars_count}

module _ (h : Harmony) (tonal : Tonal h) (rs : List Steps) (rising : (b : ℕ) → b < 8 → Rising (get_or rs b past_steps) 16) (style : BassStyle) (beatS : Float) (s : NoiseStream) where
  abbrev lane_to : ℕ → BassLane
  lane_to b = bars_played h.bars rs style beatS (no_bass s) b

  -- ---- a bar
  abbrev BarNote : ℕ → Note → Type 0
  BarNote b n = (n.bar ≡ b) × SoundsIn h.bars n.bar n.midi × Within 30 42 n.midi

  abbrev LaneNote : Note → Type 0
  LaneNote n = SoundsIn h.bars n.bar n.midi × Within 30 42 n.midi

  abbrev chord_at : ℕ → Chord
  chord_at b = get_or h.bars b past_chord

  part_over : (b : ℕ) → b < 8 → Over (chord_at b) (chord_at ((b + 1) % 8)) (part_of h.bars rs b)
  unfolding part_of
  part_over b k = record { root_is = refl; fifth_is = root_fifth (chord_at b) (tonal_root h tonal b k); next_is = refl }

  bar_note : (b : ℕ) (n : Note) → NoteOf (chord_at b) (chord_at ((b + 1) % 8)) (part_of h.bars rs b) n → BarNote b n
  unfolding part_of
  bar_note b n k = (k.0, rw k.0 k.1, k.2)

  count_le : (b : ℕ) → b ≤ 8 → (lane_to b).value.n ≤ 13 * b
  count_le b k = omega (arith, bars_count h tonal rs rising style beatS (no_bass s) b k)

  count_on : (b : ℕ) → b < 8 → (lane_to b).value.n < (lane_to (suc b)).value.n
  unfolding bars_played
  count_on b k =
      let p = part_of h.bars rs b in
      omega (arith, bar_count (lane_to b) p style beatS p.steps.n, (part_playable h tonal rs rising b k).steps.some)

  count_few : (b : ℕ) → b < 8 → (lane_to (suc b)).value.n ≤ (lane_to b).value.n + 13
  unfolding bars_played
  count_few b k =
      let p = part_of h.bars rs b in
      omega (arith, bar_count (lane_to b) p style beatS p.steps.n, (part_playable h tonal rs rising b k).steps.few)

  bar_on : (b : ℕ) → b < 8 → length (lane_to b).value.at ≡ 104
      → Grown past_note (BarNote b) (lane_to b).value.at (lane_to (suc b)).value.at (lane_to b).value.n (lane_to (suc b)).value.n
  unfolding bars_played
  bar_on b k size =
      let p = part_of h.bars rs b in
      let playable = part_playable h tonal rs rising b k in
      grown_as past_note (NoteOf (chord_at b) (chord_at ((b + 1) % 8)) p) (BarNote b) (lane_to b).value.at (lane_to (suc b)).value.at (lane_to b).value.n (lane_to (suc b)).value.n (bar_note b)
      (bar_grown (lane_to b) p style beatS (chord_at b) (chord_at ((b + 1) % 8)) (part_over b k) p.steps.n (omega (arith, count_le b (omega arith), playable.steps.few)))

  -- the same of the bar number alone
  lane_bar : (b : ℕ) → b < 8 → length (lane_to b).value.at ≡ 104 → Grown past_note (λ n. note_bar n ≡ b) (lane_to b).value.at (lane_to (suc b)).value.at (lane_to b).value.n (lane_to (suc b)).value.n
  lane_bar b k size = grown_as past_note (BarNote b) (λ n. note_bar n ≡ b) (lane_to b).value.at (lane_to (suc b)).value.at (lane_to b).value.n (lane_to (suc b)).value.n (λ n x. x.0) (bar_on b k size)

  -- ---- the bars
  start : (lane_to 0).value.at ≡ (no_bass s).value.at
  start = unfold bars_played in refl

  empty : (lane_to 0).value.n ≡ 0
  empty = unfold bars_played in refl

  few : (b : ℕ) → b ≤ 8 → (lane_to b).value.n ≤ 104
  few b k = omega (arith, count_le b k)

  pub lane_laid : (b : ℕ) → b ≤ 8 → Laid past_note no_note note_bar 104 (b - 1) (lane_to b).value.at (lane_to b).value.n
  lane_laid = bars_laid past_note no_note note_bar 104 8 (λ b. (lane_to b).value.at) (λ b. (lane_to b).value.n) start empty few lane_bar

  pub lane_occurs : (b k : ℕ) → b ≤ 8 → k < b → Occurs (λ i. note_bar (get_or (lane_to b).value.at i past_note)) (lane_to b).value.n k
  lane_occurs = bars_occur past_note no_note note_bar 104 8 (λ b. (lane_to b).value.at) (λ b. (lane_to b).value.n) start empty few lane_bar count_on

  pub lane_few : (b : ℕ) → b ≤ 8 → EachAtMost note_bar 13 (take (lane_to b).value.n (lane_to b).value.at)
  lane_few = bars_few past_note no_note note_bar 104 8 (λ b. (lane_to b).value.at) (λ b. (lane_to b).value.n) start empty few lane_bar 13 count_few

  pub lane_grown : (b : ℕ) → b ≤ 8 → Grown past_note LaneNote (no_bass s).value.at (lane_to b).value.at 0 (lane_to b).value.n
  unfolding bars_played
  lane_grown zero k = grown_none past_note LaneNote (no_bass s).value.at 0
  lane_grown (suc b) k =
      grown_then past_note LaneNote (no_bass s).value.at (lane_to b).value.at (lane_to (suc b)).value.at 0 (lane_to b).value.n (lane_to (suc b)).value.n (lane_grown b (omega arith))
      (grown_as past_note (BarNote b) LaneNote (lane_to b).value.at (lane_to (suc b)).value.at (lane_to b).value.n (lane_to (suc b)).value.n (λ n x. (x.1, x.2))
      (bar_on b (omega arith) (lane_laid b (omega arith)).size))

module _ (s : NoiseStream) (h : Harmony) (style : Style) (beatS : Float) (tonal : Tonal h) where
  abbrev drawn : BassLane
  drawn = bass_of s h style beatS

  -- at most 104 notes, bar after bar, and zero behind them
  pub bass_laid : Laid past_note no_note note_bar 104 7 drawn.value.at drawn.value.n
  unfolding bass_of
  bass_laid = lane_laid h tonal (bass_rhythms_of s).value (rhythms_rising s) (bass_style_of style) beatS (bass_rhythms_of s).stream 8 (omega arith)

  -- every loop bar has a note
  pub bass_occur : (b : ℕ) → b < 8 → Occurs (λ i. note_bar (get_or drawn.value.at i past_note)) drawn.value.n b
  unfolding bass_of
  bass_occur b k = lane_occurs h tonal (bass_rhythms_of s).value (rhythms_rising s) (bass_style_of style) beatS (bass_rhythms_of s).stream 8 b (omega arith) k

  -- at most 13 notes in any one bar
  pub bass_few : EachAtMost note_bar 13 (take drawn.value.n drawn.value.at)
  unfolding bass_of
  bass_few = lane_few h tonal (bass_rhythms_of s).value (rhythms_rising s) (bass_style_of style) beatS (bass_rhythms_of s).stream 8 (omega arith)

  note_at_lem : (i : ℕ) → i < drawn.value.n → SoundsIn h.bars (get_or drawn.value.at i past_note).bar (get_or drawn.value.at i past_note).midi × Within 30 42 (get_or drawn.value.at i past_note).midi
  unfolding bass_of
  note_at_lem i k = (lane_grown h tonal (bass_rhythms_of s).value (rhythms_rising s) (bass_style_of style) beatS (bass_rhythms_of s).stream 8 (omega arith)).new i (omega arith) k

  -- root, fifth, or the next root less 1
  pub bass_sounds : (i : ℕ) → i < drawn.value.n → SoundsIn h.bars (get_or drawn.value.at i past_note).bar (get_or drawn.value.at i past_note).midi
  bass_sounds i k = (note_at_lem i k).0

  pub bass_within : (i : ℕ) → i < drawn.value.n → Within 30 42 (get_or drawn.value.at i past_note).midi
  bass_within i k = (note_at_lem i k).1
