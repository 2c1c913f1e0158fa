-- What each bar asks of its part, and that the notes of eight bars fit. Assumes nothing.
use mathlib.Core.Path.{◌≡◌, sym, ap, ◌∙◌}
use Prim.Native.Nat.{ℕ, zero, suc, ◌+◌, ◌*◌, ◌%◌, ◌≤◌, ◌<◌}
use mathlib.Core.List.{List}
use native.Mathlib.Numerals.{add-one}
use native.Mathlib.Omega.{arith}
use lib.ListN.{get_or}
use lib.Ieee.{Float}
use Rattle.streams.specs.declared.stream.NoiseStream.{NoiseStream}
use Rattle.streams.specs.declared.stream.Draw.{Draw}
use Rattle.composer.specs.Harmony.{Tonal}
use Rattle.composer.specs.Bass.{part_of, bars_played}
use Rattle.composer.specs.Bass.Rhythm.{Steps, Rising, past_steps, bass_rhythms_of}
use Rattle.composer.specs.Bass.Line.{BassLane, bar_played, Playable}
use Rattle.composer.specs.declared.chord.Chord.{Chord}
use Rattle.composer.specs.declared.harmony.Harmony.{Harmony}
use Rattle.composer.specs.declared.style.BassStyle.{BassStyle}
use Rattle.composer.proofs.bass.RhythmLaws.{rhythms_rising}
use Rattle.composer.proofs.bass.LineLaws.{bar_count}

pub drawn_rising : (r : Draw (List Steps)) (s : NoiseStream) → r ≡ bass_rhythms_of s → (b : ℕ) → b < 8 → Rising (get_or r.value b past_steps) 16
drawn_rising r s e b l = rw e (rhythms_rising s b l)

module _ (h : Harmony) (tonal : Tonal h) where
  module _ (rs : List Steps) (rising : (b : ℕ) → b < 8 → Rising (get_or rs b past_steps) 16) where
    pub part_playable : (b : ℕ) → b < 8 → Playable (part_of h.bars rs b)
    unfolding part_of
    part_playable b l =
        let k : (b + 1) % 8 < 8 = omega arith in
        record {
          root_lt = omega arith;
          next_lt = omega arith;
          steps = rising b l;
          next_step_lt = (rising ((b + 1) % 8) k).below 0 (omega (arith, (rising ((b + 1) % 8) k).some));
        }

    module _ (style : BassStyle) (beatS : Float) (l : BassLane) where
      pub bars_count : (b : ℕ) → b ≤ 8 → (bars_played h.bars rs style beatS l b).value.n ≤ l.value.n + 13 * b
      unfolding bars_played
      bars_count zero k = omega arith
      bars_count (suc b) k =
          let p = part_of h.bars rs b in
          let before = bars_played h.bars rs style beatS l b in
          omega (arith, bars_count b (omega arith), bar_count before p style beatS p.steps.n, (part_playable b (omega arith)).steps.few)

      -- what playing bar b asks
      pub turn_asks : (b : ℕ) → b < 8 → l.value.n ≡ 0
          → Playable (part_of h.bars rs b) × ((bars_played h.bars rs style beatS l b).value.n + (part_of h.bars rs b).steps.n ≤ 104)
      turn_asks b k e =
          let p = part_playable b k in
          (p, omega (arith, bars_count b (omega arith), p.steps.few))

-- a bar played to its end is a bar more
pub bars_on : (chords : List Chord) (rs : List Steps) (style : BassStyle) (beatS : Float) (l : BassLane) (b : ℕ) (m : BassLane)
    → bars_played chords rs style beatS l b ≡ m → (i : ℕ) → i ≡ (part_of chords rs b).steps.n → (n : BassLane)
    → bar_played m (part_of chords rs b) style beatS i ≡ n → bars_played chords rs style beatS l (b + 1) ≡ n
unfolding bars_played
bars_on chords rs style beatS l b m so_far i ends n in_bar =
    rw (add-one, so_far) (ap (bar_played m (part_of chords rs b) style beatS) (sym ends) ∙ in_bar)
