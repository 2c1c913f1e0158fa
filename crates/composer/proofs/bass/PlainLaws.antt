-- Every bass note is plain: it starts within the loop, is loud enough, and is held for a while but not past the loop's
-- end; and it is no lead's. Assumes nothing.
use mathlib.Core.Path.{◌≡◌, refl, subst}
use mathlib.Core.Bool.{Bool, true, false, cond, ◌&&◌}
use mathlib.Core.List.{List, [], ◌∷◌}
use Prim.Native.Nat.{ℕ, zero, suc, ◌+◌, ◌-◌, ◌%◌, ◌≤◌, ◌<◌}
use native.Mathlib.Omega.{arith}
use borrow.Author.Tests.{ltb-true}
use lib.Dec.{T, eqb, ltb, lit≤}
use lib.ListN.{get_or}
use lib.Seq.{get_or-set_other}
use lib.Ieee.{Float, binary32, add, sub, mul, div, of_int, of_bits, le, lt}
use lib.Ieee.Fits.{cond-fits, mul-fits, sub-fits}
use mir.Facts.{and_yes}
use Rattle.laws.specs.Floats.{f32_of, nonneg, In}
use Rattle.laws.specs.Sorts.{All}
use Rattle.laws.proofs.Bools.{either, cond_by}
use Rattle.laws.proofs.Bounds.{here, wider, add_in, mul_in, sub_in, whole_in, lesser_in}
use Rattle.laws.proofs.Lanes.{Filled, filled_none, filled_push}
use Rattle.laws.proofs.Runs.{every, every_at}
use Rattle.laws.proofs.Sorts.{all_set}
use Rattle.streams.specs.Draw.{chance_of}
use Rattle.streams.specs.declared.stream.NoiseStream.{NoiseStream}
use Rattle.streams.specs.declared.stream.Draw.{Draw}
use Rattle.composer.specs.Bass.{part_of, bars_played, no_bass, bass_of}
use Rattle.composer.specs.Bass.Line.{BassLane, bass_lag, pickup_lag, pickup_velocity, bass_gate, step_s_of, loop_s_of, struck_of, root_note_of, pickup_note_of, later_velocity, later_note_of, pickup_drawn_of, note_drawn_of, gap_of, onset_of, held_of, played_note_of, play_of, bar_played, Playable}
use Rattle.composer.specs.Bass.Rhythm.{Steps, step_p, first_beat_sum, root_from, root_step_of, more_steps, one_step_of, steps_to, root_alone, bass_rhythm_of, no_steps, past_steps, one_rhythm_of, rhythms_to, bass_rhythms_of, Rising}
use Rattle.composer.specs.Compose.{beat_s_of}
use Rattle.composer.specs.Harmony.{Tonal}
use Rattle.composer.specs.Note.{zero32, past_note}
use Rattle.composer.specs.Plain.{latest, softest, loudest, shortest, longest, Fits32, PlainNote}
use Rattle.composer.specs.Roles.{Backs}
use Rattle.composer.specs.Spread.{after_of}
use Rattle.composer.specs.Style.{bass_style_of}
use Rattle.composer.specs.Timing.{sixteenth_beats, bar_s_of}
use Rattle.composer.specs.declared.harmony.Harmony.{Harmony}
use Rattle.composer.specs.declared.note.Note.{Note}
use Rattle.composer.specs.declared.note.NoteRole.{NoteRole}
use Rattle.composer.specs.declared.spread.Spread.{Spread}
use Rattle.composer.specs.declared.style.Style.{Style}
use Rattle.composer.specs.declared.style.Style.TheVariants.{Hiphop, Sleep}
use Rattle.composer.specs.declared.style.BassStyle.{BassStyle}
use Rattle.composer.specs.declared.bass.line.BarPart.{BarPart}
use Rattle.composer.specs.declared.bass.line.Strike.{Strike}
use Rattle.composer.proofs.RangeLaws.{between_in, stays, draw_in, after_in, draw_fits, after_fits, quickest, slowest, beat_in, bar_in_lem, start_in}
use Rattle.composer.proofs.bass.BassLaws.{part_playable}
use Rattle.composer.proofs.bass.PromiseLaws.{bass_laid}
use Rattle.composer.proofs.bass.RhythmLaws.{root_le, rhythms_rising}

abbrev BassNote : Note → Type 0
BassNote x = PlainNote x × Backs x

-- ---- a bar's first step is in its first beat
abbrev Early : Steps → Type 0
Early t = get_or t.at 0 0 < 4

early_on : (b : Bool) (t : Steps) (step : ℕ) → (1 ≤ t.n) × Early t → (1 ≤ (cond b (more_steps t step) t).n) × Early (cond b (more_steps t step) t)
early_on true t step o = let some = o.0 in (omega arith, rw (get_or-set_other t.at t.n 0 step 0 (λ q. omega arith)) o.1)
early_on false t step o = o

early_to : (d : Draw Steps) → (1 ≤ d.value.n) × Early d.value → (i : ℕ) → (1 ≤ (steps_to d i).value.n) × Early (steps_to d i).value
unfolding steps_to one_step_of
early_to d o zero = o
early_to d o (suc i) = early_on (chance_of (steps_to d i).stream (step_p (i + 4))).value (steps_to d i).value (i + 4) (early_to d o i)

rhythm_early : (s : NoiseStream) → Early (bass_rhythm_of s).value
unfolding bass_rhythm_of root_step_of
rhythm_early s = (early_to (root_alone (root_from s first_beat_sum 0 3)) (omega arith, omega (arith, root_le s first_beat_sum 0 3)) 12).1

rhythms_to_lem : (r : Draw (List Steps)) → All Early r.value → (b : ℕ) → All Early (rhythms_to r b).value
unfolding rhythms_to one_rhythm_of
rhythms_to_lem r a zero = a
rhythms_to_lem r a (suc b) = all_set Early (rhythms_to r b).value b (bass_rhythm_of (rhythms_to r b).stream).value (rhythm_early (rhythms_to r b).stream) (rhythms_to_lem r a b)

early_at : (bars : List Steps) → All Early bars → (b : ℕ) → Early (get_or bars b past_steps)
early_at [] a b = omega arith
early_at (t ∷ bars) a zero = a.0
early_at (t ∷ bars) a (suc b) = early_at bars a.1 b

rhythms_early : (s : NoiseStream) (b : ℕ) → Early (get_or (bass_rhythms_of s).value b past_steps)
unfolding bass_rhythms_of
rhythms_early s b =
    let none : Early no_steps = omega arith in
    early_at (bass_rhythms_of s).value (rhythms_to_lem _ (none, (none, (none, (none, (none, (none, (none, (none, tt)))))))) 8) b

-- ---- the gap: at least one 16th, at most 19
gap_by : (p : BarPart) → Playable p → p.next_step < 4 → (i : ℕ) → i < p.steps.n → (1 ≤ gap_of p i) × (gap_of p i ≤ 19)
gap_by p playable next i h =
    cond_by (λ (x : ℕ). (1 ≤ x - get_or p.steps.at i 0) × (x - get_or p.steps.at i 0 ≤ 19)) (ltb (i + 1) p.steps.n) (get_or p.steps.at (i + 1) 0) (16 + p.next_step)
    (λ e. let k = ltb-true (i + 1) p.steps.n e in let r = playable.steps.rises i k in let m = playable.steps.below (i + 1) k in (omega arith, omega arith))
    (λ e. let m = playable.steps.below i h in (omega arith, omega arith))

-- ---- the last onset, with the longest lag
abbrev last_of : Float → Float
last_of beat_s = onset_of beat_s 7 15

abbrev end_of : Float → Float
end_of beat_s = add binary32 (add binary32 (last_of beat_s) bass_lag.base) (mul binary32 bass_lag.span (f32_of 1))

-- it leaves room for a note, at each tempo
abbrev leaves_room : Float → Bool
leaves_room beat_s = (le (end_of beat_s) (loop_s_of beat_s) && nonneg (sub binary32 (loop_s_of beat_s) zero32)) && le shortest (sub binary32 (loop_s_of beat_s) (end_of beat_s))

room_tested : T (every 13 (λ k. leaves_room (beat_s_of (f32_of (k + 70)))))
unfolding of_bits of_int div mul add sub le
room_tested = tt

module _ (n : ℕ) (tempo : (70 ≤ n) × (n ≤ 82)) where
  abbrev beat_s : Float
  beat_s = beat_s_of (f32_of n)

  beat : In quickest slowest beat_s
  beat = beat_in n tempo

  room : T (leaves_room beat_s)
  room =
      let lo = tempo.0 in
      let hi = tempo.1 in
      let e : n - 70 + 70 ≡ n = omega arith in
      subst (λ (k : ℕ). T (leaves_room (beat_s_of (f32_of k)))) e (every_at 13 (λ k. leaves_room (beat_s_of (f32_of (k + 70)))) room_tested (n - 70) (omega arith))

  -- from 0.18 to 0.21
  step_in : In (of_bits binary32 0x3e3b_512c) (of_bits binary32 0x3e5b_6db7) (step_s_of beat_s)
  unfolding of_bits
  step_in =
      wider (of_bits binary32 0x3e3b_512c) (of_bits binary32 0x3e5b_6db7) (mul_in binary32 (here sixteenth_beats tt) beat (unfold mul in tt)) tt tt
      (unfold mul le in tt)
      (unfold mul le in tt)

  -- 3.25
  steps_in : (step : ℕ) → step ≤ 15 → In zero32 (of_bits binary32 0x4050_0000) (mul binary32 (f32_of step) (step_s_of beat_s))
  unfolding of_bits of_int
  steps_in step h =
      wider zero32 (of_bits binary32 0x4050_0000) (mul_in binary32 (whole_in 0 15 step (omega arith) h (lit≤ tt)) step_in (unfold mul in tt)) tt tt
      (unfold mul le in tt)
      (unfold mul le in tt)

  -- 27.25
  onset_in : (bar step : ℕ) → bar ≤ 7 → step ≤ 15 → In zero32 (of_bits binary32 0x41da_0000) (onset_of beat_s bar step)
  unfolding of_bits
  onset_in bar step h k =
      wider zero32 (of_bits binary32 0x41da_0000) (add_in binary32 (start_in beat_s beat bar h) (steps_in step k) (unfold add in tt)) tt tt
      (unfold add le in tt)
      (unfold add le in tt)

  -- at this tempo, none is after the last
  onset_last : (bar step : ℕ) → bar ≤ 7 → step ≤ 15 → In zero32 (last_of beat_s) (onset_of beat_s bar step)
  onset_last bar step h k =
      let i = onset_in bar step h k in
      let seven : 7 ≤ 7 = omega arith in
      let fifteen : 15 ≤ 15 = omega arith in
      let bars = mul_in binary32 (whole_in 0 7 bar (omega arith) h (lit≤ tt)) (here (bar_s_of beat_s) (bar_in_lem beat_s beat).ok) (start_in beat_s beat 7 seven).ok in
      let steps = mul_in binary32 (whole_in 0 15 step (omega arith) k (lit≤ tt)) (here (step_s_of beat_s) step_in.ok) (steps_in 15 fifteen).ok in
      let j = add_in binary32 bars steps (onset_in 7 15 seven fifteen).ok in
      record { lo_ok = i.lo_ok; hi_ok = j.hi_ok; ok = i.ok; least = i.least; most = j.most }

  lagged_in : In zero32 (of_bits binary32 0x41da_2000) (add binary32 (last_of beat_s) bass_lag.base)
  unfolding of_bits
  lagged_in =
      wider zero32 (of_bits binary32 0x41da_2000) (add_in binary32 (onset_in 7 15 (omega arith) (omega arith)) (here bass_lag.base tt) (unfold add in tt)) tt tt
      (unfold add le in tt)
      (unfold add le in tt)

  end_in : In zero32 latest (end_of beat_s)
  unfolding of_bits of_int
  end_in =
      wider zero32 latest (add_in binary32 lagged_in (mul_in binary32 (here bass_lag.span tt) (here (f32_of 1) tt) (unfold mul in tt)) (unfold mul add in tt)) tt tt
      (unfold mul add le in tt)
      (unfold mul add le in tt)

  -- ---- a note as struck
  record Struck (x : Draw Strike) : Type 0 where
    at : In zero32 (end_of beat_s) x.value.at
    vel : In softest loudest x.value.vel
    at_fits : Fits32 x.value.at
    vel_fits : Fits32 x.value.vel

  struck_in : (s : NoiseStream) (on : Float) (midi : ℕ) (lag velocity : Spread) → In zero32 (last_of beat_s) on
      → In zero32 bass_lag.base lag.base → In zero32 bass_lag.span lag.span → T (stays velocity softest loudest) → Struck (struck_of s on midi lag velocity)
  unfolding struck_of of_bits of_int
  struck_in s on midi lag velocity i b w t =
      let a = after_in s lag i b w lagged_in.ok (unfold mul in tt) end_in.ok in
      record {
        at = wider zero32 (end_of beat_s) a tt end_in.ok (unfold mul add le in tt) (here (end_of beat_s) end_in.ok).most;
        vel = draw_in velocity softest loudest t (after_of lag on s).stream;
        at_fits = after_fits lag on s;
        vel_fits = draw_fits velocity (after_of lag on s).stream;
      }

  module _ (style : BassStyle) (loud : T (stays style.velocity softest loudest)) (later : T (stays (later_velocity style.velocity) softest loudest)) (p : BarPart) where
    module _ (on : Float) (i : In zero32 (last_of beat_s) on) where
      root_in_lem : (s : NoiseStream) → Struck (root_note_of s on p style)
      unfolding root_note_of of_bits
      root_in_lem s =
          struck_in s on _ bass_lag style.velocity i (between_in zero32 bass_lag.base bass_lag.base (unfold le in tt))
          (between_in zero32 bass_lag.span bass_lag.span (unfold le in tt))
          loud

      pickup_in : (s : NoiseStream) → Struck (pickup_note_of s on p)
      unfolding pickup_note_of of_bits of_int
      pickup_in s =
          struck_in s on _ pickup_lag pickup_velocity i (between_in zero32 bass_lag.base pickup_lag.base (unfold le in tt))
          (between_in zero32 bass_lag.span pickup_lag.span (unfold le in tt))
          (unfold mul add le in tt)

      later_in : (s : NoiseStream) → Struck (later_note_of s on p style)
      unfolding later_note_of of_bits
      later_in s =
          struck_in (chance_of s style.fifth_p).stream on _ bass_lag (later_velocity style.velocity) i (between_in zero32 bass_lag.base bass_lag.base (unfold le in tt))
          (between_in zero32 bass_lag.span bass_lag.span (unfold le in tt))
          later

      drawn_in : (s : NoiseStream) (k : ℕ) → Struck (note_drawn_of s on p style k)
      unfolding note_drawn_of
      drawn_in s k =
          let c = pickup_drawn_of s p style k in
          either Struck (eqb k 0) (root_note_of s on p style) (cond (c.value && ltb p.bar 7) (pickup_note_of c.stream on p) (later_note_of c.stream on p style)) (root_in_lem s)
          (either Struck (c.value && ltb p.bar 7) (pickup_note_of c.stream on p) (later_note_of c.stream on p style) (pickup_in c.stream) (later_in c.stream))

    -- ---- how long it is held
    gated_in : (gap : ℕ) → (1 ≤ gap) × (gap ≤ 19) → In shortest longest (mul binary32 (mul binary32 (f32_of gap) (step_s_of beat_s)) bass_gate)
    unfolding of_bits of_int
    gated_in gap h =
        wider shortest longest (mul_in binary32 (mul_in binary32 (whole_in 1 19 gap h.0 h.1 (lit≤ tt)) step_in (unfold mul in tt)) (here bass_gate tt) (unfold mul in tt)) tt tt
        (unfold mul le in tt)
        (unfold mul le in tt)

    left_in : (at : Float) → In zero32 (end_of beat_s) at → In shortest (sub binary32 (loop_s_of beat_s) zero32) (sub binary32 (loop_s_of beat_s) at)
    unfolding of_bits
    left_in at i =
        let u = and_yes (le (end_of beat_s) (loop_s_of beat_s) && nonneg (sub binary32 (loop_s_of beat_s) zero32)) (le shortest (sub binary32 (loop_s_of beat_s) (end_of beat_s))) room in
        let v = and_yes (le (end_of beat_s) (loop_s_of beat_s)) (nonneg (sub binary32 (loop_s_of beat_s) zero32)) u.0 in
        let loop = mul_in binary32 (bar_in_lem beat_s beat) (here (of_bits binary32 0x4100_0000) tt) (unfold mul in tt) in
        wider shortest (sub binary32 (loop_s_of beat_s) zero32) (sub_in binary32 (here (loop_s_of beat_s) loop.ok) i v.0 v.1) tt v.1 u.1
        (here (sub binary32 (loop_s_of beat_s) zero32) v.1).most

    held_in : (gap : ℕ) (at : Float) → (1 ≤ gap) × (gap ≤ 19) → In zero32 (end_of beat_s) at → In shortest longest (held_of beat_s gap at)
    unfolding held_of
    held_in gap at h i = lesser_in (gated_in gap h) (left_in at i)

    held_fits : (gap : ℕ) (at : Float) → Fits32 (held_of beat_s gap at)
    unfolding held_of
    held_fits gap at = cond-fits binary32 (lt _ _) _ _ (mul-fits binary32 (mul binary32 (f32_of gap) (step_s_of beat_s)) bass_gate) (sub-fits binary32 (loop_s_of beat_s) at)

    -- ---- the bar
    module _ (playable : Playable p) (next : p.next_step < 4) (early : p.bar ≤ 7) where
      note_plain : (s : NoiseStream) (i : ℕ) → i < p.steps.n → (midi : ℕ)
          → PlainNote (record {
            bar = p.bar;
            role = NoteRole.Backing;
            spare = 0;
            at = (note_drawn_of s (onset_of beat_s p.bar (get_or p.steps.at i 0)) p style i).value.at;
            midi = midi;
            vel = (note_drawn_of s (onset_of beat_s p.bar (get_or p.steps.at i 0)) p style i).value.vel;
            dur = held_of beat_s (gap_of p i) (note_drawn_of s (onset_of beat_s p.bar (get_or p.steps.at i 0)) p style i).value.at;
          })
      note_plain s i h midi =
          let below = playable.steps.below i h in
          let d = drawn_in (onset_of beat_s p.bar (get_or p.steps.at i 0)) (onset_last p.bar (get_or p.steps.at i 0) early (omega arith)) s i in
          record {
            at = wider zero32 latest d.at end_in.lo_ok end_in.hi_ok (here zero32 end_in.lo_ok).least end_in.most;
            vel = d.vel;
            dur = held_in (gap_of p i) _ (gap_by p playable next i h) d.at;
            at_fits = d.at_fits;
            vel_fits = d.vel_fits;
            dur_fits = held_fits (gap_of p i) _;
            spare = refl;
          }

      bar_plain : (l : BassLane) (i : ℕ) → i ≤ p.steps.n → Filled past_note BassNote l.value.at l.value.n
          → Filled past_note BassNote (bar_played l p style beat_s i).value.at (bar_played l p style beat_s i).value.n
      unfolding bar_played play_of played_note_of
      bar_plain l zero h f = f
      bar_plain l (suc i) h f =
          let before = bar_played l p style beat_s i in
          filled_push past_note BassNote before.value.at before.value.n _ (bar_plain l i (omega arith) f) (note_plain before.stream i (omega arith) _, refl)

  module _ (h : Harmony) (tonal : Tonal h) (rs : List Steps) (rising : (b : ℕ) → b < 8 → Rising (get_or rs b past_steps) 16) (opens : (b : ℕ) → Early (get_or rs b past_steps))
      (style : BassStyle) (loud : T (stays style.velocity softest loudest)) (later : T (stays (later_velocity style.velocity) softest loudest)) (s : NoiseStream) where
    abbrev lane_to : ℕ → BassLane
    lane_to b = bars_played h.bars rs style beat_s (no_bass s) b

    next_early : (b : ℕ) → (part_of h.bars rs b).next_step < 4
    unfolding part_of
    next_early b = opens ((b + 1) % 8)

    in_loop : (b : ℕ) → b < 8 → (part_of h.bars rs b).bar ≤ 7
    unfolding part_of
    in_loop b k = omega arith

    bars_plain : (b : ℕ) → b ≤ 8 → Filled past_note BassNote (lane_to b).value.at (lane_to b).value.n
    unfolding bars_played
    bars_plain zero k = filled_none past_note BassNote (no_bass s).value.at
    bars_plain (suc b) k =
        let p = part_of h.bars rs b in
        let here-b : b < 8 = omega arith in
        bar_plain style loud later p (part_playable h tonal rs rising b here-b) (next_early b) (in_loop b here-b) (lane_to b) p.steps.n (omega arith) (bars_plain b (omega arith))

loud_of : (style : Style) → T (stays (bass_style_of style).velocity softest loudest)
unfolding of_bits of_int mul add le
loud_of Hiphop = tt
loud_of Sleep = tt

later_of : (style : Style) → T (stays (later_velocity (bass_style_of style).velocity) softest loudest)
unfolding of_bits of_int mul add sub le
later_of Hiphop = tt
later_of Sleep = tt

module _ (s : NoiseStream) (h : Harmony) (tonal : Tonal h) (style : Style) (n : ℕ) (tempo : (70 ≤ n) × (n ≤ 82)) where
  abbrev drawn : BassLane
  drawn = bass_of s h style (beat_s_of (f32_of n))

  filled : Filled past_note BassNote drawn.value.at drawn.value.n
  unfolding bass_of
  filled = bars_plain n tempo h tonal (bass_rhythms_of s).value (rhythms_rising s) (rhythms_early s) (bass_style_of style) (loud_of style) (later_of style) (bass_rhythms_of s).stream 8 (omega arith)

  bass_sound : (i : ℕ) → i < drawn.value.n → BassNote (get_or drawn.value.at i past_note)
  bass_sound i k = let laid = bass_laid s h style (beat_s_of (f32_of n)) tonal in filled i k (omega (arith, laid.size, laid.few))

  pub bass_plain : (i : ℕ) → i < drawn.value.n → PlainNote (get_or drawn.value.at i past_note)
  bass_plain i k = (bass_sound i k).0

  pub bass_back : (i : ℕ) → i < drawn.value.n → Backs (get_or drawn.value.at i past_note)
  bass_back i k = (bass_sound i k).1
