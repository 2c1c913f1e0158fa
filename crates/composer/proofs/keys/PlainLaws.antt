-- Every note of the keys is plain, on its eighth, behind it by the lag and the roll, and as loud and as long as the
-- style has it; and it is from 48 to 73 and no lead's. Assumes nothing.
use mathlib.Core.Path.{refl}
use mathlib.Core.Bool.{Bool, ◌&&◌}
use mathlib.Core.List.{List}
use Prim.Native.Nat.{ℕ, zero, suc, ◌%◌, ◌≤◌, ◌<◌}
use native.Mathlib.Omega.{arith}
use lib.Dec.{T, eqb}
use lib.ListN.{get_or}
use lib.Ieee.{Float, binary32, add, mul, of_int, of_bits, le}
use lib.Ieee.Bits.{of_bits-fits}
use lib.Ieee.Fits.{add-fits, mul-fits}
use mir.Facts.{and_yes}
use Rattle.laws.specs.Floats.{In}
use Rattle.laws.proofs.Bools.{either}
use Rattle.laws.proofs.Bounds.{here, wider, add_in, mul_in}
use Rattle.laws.proofs.Lanes.{Filled, filled_none, filled_push}
use Rattle.streams.specs.Draw.{chance_of, pick_of}
use Rattle.streams.specs.declared.stream.NoiseStream.{NoiseStream}
use Rattle.streams.proofs.DrawLaws.{pick_lt}
use Rattle.composer.specs.Chord.{root_class_of, past_chord}
use Rattle.composer.specs.Keys.{KeysLane, shell_of, upper_of, keys_lag, roll, rolled_softer, ninth_p, density_draw_of, empty_of, moved_of, push_of, grid_at, shell_stroke_of, single_stroke_of, stroke_by, stroke_of, eighth_of, bar_to, bar_of, bars_to, keys_of}
use Rattle.composer.specs.Harmony.{Tonal}
use Rattle.composer.specs.Note.{zero32, past_note}
use Rattle.composer.specs.Plain.{latest, softest, loudest, shortest, longest, Fits32, PlainNote}
use Rattle.composer.specs.Range.{Within}
use Rattle.composer.specs.Roles.{Backs}
use Rattle.composer.specs.Spread.{draw_of, after_of}
use Rattle.composer.specs.Style.{keys_style_of}
use Rattle.composer.specs.declared.chord.Chord.{Chord}
use Rattle.composer.specs.declared.harmony.Harmony.{Harmony}
use Rattle.composer.specs.declared.note.Note.{Note}
use Rattle.composer.specs.declared.note.NoteRole.{NoteRole}
use Rattle.composer.specs.declared.style.Comp.{Comp}
use Rattle.composer.specs.declared.style.KeysStyle.{KeysStyle}
use Rattle.composer.specs.declared.style.Style.{Style}
use Rattle.composer.specs.declared.style.Style.TheVariants.{Hiphop, Sleep}
use Rattle.composer.proofs.RangeLaws.{between, between_in, stays, draw_in, after_in, draw_fits, after_fits, quickest, slowest, eighths_in, swing_in}
use Rattle.composer.proofs.keys.NoteLaws.{keys_laid}
use Rattle.composer.proofs.keys.ShellLaws.{Played, tonal_played}
use Rattle.composer.proofs.keys.StrokeLaws.{lagged, struck_at}

abbrev KeysNote : Note → Type 0
KeysNote x = PlainNote x × Within 48 73 x.midi × Backs x

abbrev Full : KeysLane → Type 0
Full l = Filled past_note KeysNote l.value.at l.value.n

-- ---- what a style keeps to: velocities from 0.35 on, and a fit duration
abbrev least : Float
least = of_bits binary32 0x3eb3_3333

abbrev fair : KeysStyle → Bool
fair k = stays k.velocity least loudest && between shortest longest k.dur

style_fair : (style : Style) → T (fair (keys_style_of style))
unfolding of_bits of_int mul add le
style_fair Hiphop = tt
style_fair Sleep = tt

style_dur : (style : Style) → Fits32 (keys_style_of style).dur
style_dur Hiphop = of_bits-fits binary32 _
style_dur Sleep = of_bits-fits binary32 _

-- ---- a stroke, up to 27.046875
abbrev last_stroke : Float
last_stroke = of_bits binary32 0x41d8_6000

module _ (k : KeysStyle) (isFair : T (fair k)) (durFits : Fits32 k.dur) where
  velocity_in : (s : NoiseStream) → In least loudest (draw_of k.velocity s).value
  velocity_in s = draw_in k.velocity least loudest (and_yes (stays k.velocity least loudest) (between shortest longest k.dur) isFair).0 s

  dur_in : In shortest longest k.dur
  dur_in = between_in shortest longest k.dur (and_yes (stays k.velocity least loudest) (between shortest longest k.dur) isFair).1

  loud_in : (v : Float) → In least loudest v → In softest loudest v
  unfolding of_bits
  loud_in v i = wider softest loudest i tt tt (unfold le in tt) (unfold le in tt)

  softer_in : (v : Float) → In least loudest v → In softest loudest (mul binary32 v rolled_softer)
  unfolding of_bits
  softer_in v i = wider softest loudest (mul_in binary32 i (here rolled_softer tt) (unfold mul in tt)) tt tt (unfold mul le in tt) (unfold mul le in tt)

  time_in : (at : Float) → In zero32 last_stroke at → In zero32 latest at
  unfolding of_bits
  time_in at i = wider zero32 latest i tt tt (unfold le in tt) (unfold le in tt)

  rolled_in : (s : NoiseStream) (at : Float) → In zero32 last_stroke at → In zero32 latest (after_of roll at s).value
  unfolding of_bits of_int
  rolled_in s at i =
      wider zero32 latest (after_in s roll i (here roll.base tt) (here roll.span tt) (unfold add in tt) (unfold mul in tt) (unfold add mul in tt)) tt tt
      (unfold add mul le in tt)
      (unfold add mul le in tt)

  push_full : (l : KeysLane) (x : Note) → KeysNote x → Full l → Full (push_of l x)
  push_full l x p f = filled_push past_note KeysNote l.value.at l.value.n x f p

  module _ (l : KeysLane) (c : Chord) (played : Played c) (bar : ℕ) (at : Float) (atFits : Fits32 at) (i : In zero32 last_stroke at) (f : Full l) where
    shell_full : Full (shell_stroke_of l c k bar at)
    unfolding shell_stroke_of
    shell_full =
        let ninth = chance_of l.stream ninth_p in
        let vel = draw_of k.velocity ninth.stream in
        let rolled = after_of roll at vel.stream in
        let lower : Note = record { bar = bar; role = NoteRole.Backing; spare = 0; at = at; midi = (shell_of c).third; vel = vel.value; dur = k.dur } in
        let higher : Note = record { bar = bar; role = NoteRole.Backing; spare = 0; at = rolled.value; midi = upper_of ninth.value (shell_of c).seventh (root_class_of c); vel = mul binary32 vel.value rolled_softer; dur = k.dur } in
        let low : PlainNote lower = record {
          at = time_in at i;
          vel = loud_in vel.value (velocity_in ninth.stream);
          dur = dur_in;
          at_fits = atFits;
          vel_fits = draw_fits k.velocity ninth.stream;
          dur_fits = durFits;
          spare = refl;
        }
        in
        let high : PlainNote higher = record {
          at = rolled_in vel.stream at i;
          vel = softer_in vel.value (velocity_in ninth.stream);
          dur = dur_in;
          at_fits = after_fits roll at vel.stream;
          vel_fits = mul-fits binary32 vel.value rolled_softer;
          dur_fits = durFits;
          spare = refl;
        }
        in
        push_full (push_of l lower) higher (high, played.upper ninth.value, refl) (push_full l lower (low, played.third, refl) f)

    single_full : Full (single_stroke_of l c k bar at)
    unfolding single_stroke_of
    single_full =
        let p = pick_of l.stream 4 in
        let vel = draw_of k.velocity p.stream in
        let note : Note = record { bar = bar; role = NoteRole.Backing; spare = 0; at = at; midi = get_or c.notes p.value 0; vel = vel.value; dur = k.dur } in
        let plain : PlainNote note = record {
          at = time_in at i;
          vel = loud_in vel.value (velocity_in p.stream);
          dur = dur_in;
          at_fits = atFits;
          vel_fits = draw_fits k.velocity p.stream;
          dur_fits = durFits;
          spare = refl;
        }
        in
        push_full l note (plain, played.tone p.value (pick_lt l.stream 4 (omega arith)), refl) f

    stroke_by_full : (comp : Comp) → Full (stroke_by comp l c k bar at)
    stroke_by_full Comp.Shell = shell_full
    stroke_by_full Comp.Single = single_full

  module _ (beatS : Float) (beat : In quickest slowest beatS) where
    -- 27.015625
    grid_in : (bar e : ℕ) → bar ≤ 7 → e ≤ 7 → In zero32 (of_bits binary32 0x41d8_2000) (grid_at bar e beatS)
    unfolding of_bits
    grid_in bar e h j =
        let at = eighths_in beatS beat bar e h j in
        either (In zero32 (of_bits binary32 0x41d8_2000)) (eqb (e % 2) 1) _ _
        (wider zero32 (of_bits binary32 0x41d8_2000) (add_in binary32 at (swing_in beatS beat) (unfold add in tt)) tt tt (unfold add le in tt) (unfold add le in tt))
        (wider zero32 (of_bits binary32 0x41d8_2000) at tt tt (unfold le in tt) (unfold le in tt))

    -- the lag is at most 0.03125
    struck_in : (s : NoiseStream) (grid : Float) → In zero32 (of_bits binary32 0x41d8_2000) grid → In zero32 last_stroke (add binary32 grid (draw_of keys_lag s).value)
    unfolding of_bits of_int
    struck_in s grid i =
        let lag = draw_in keys_lag keys_lag.base (of_bits binary32 0x3d00_0000) (unfold mul add le in tt) s in
        wider zero32 last_stroke (add_in binary32 i lag (unfold add in tt)) tt tt (unfold add le in tt) (unfold add le in tt)

    module _ (c : Chord) (played : Played c) (density : Float) (bar : ℕ) (in_loop : bar ≤ 7) where
      stroke_full : (l : KeysLane) (e : ℕ) → e ≤ 7 → Full l → Full (stroke_of l c k bar (grid_at bar e beatS))
      unfolding stroke_of
      stroke_full l e h f =
          stroke_by_full (lagged l) c played bar (struck_at l (grid_at bar e beatS)) (add-fits binary32 (grid_at bar e beatS) (draw_of keys_lag l.stream).value)
          (struck_in l.stream (grid_at bar e beatS) (grid_in bar e in_loop h)) f k.comp

      eighth_full : (l : KeysLane) (e : ℕ) → e ≤ 7 → Full l → Full (eighth_of l c k density bar e beatS)
      unfolding eighth_of
      eighth_full l e h f =
          let d = chance_of l.stream density in
          let next = moved_of l d.stream in
          either Full d.value (stroke_of next c k bar (grid_at bar e beatS)) next (stroke_full next e h f) f

      bar_full : (l : KeysLane) (e : ℕ) → e ≤ 8 → Full l → Full (bar_to l c k density bar beatS e)
      unfolding bar_to
      bar_full l zero h f = f
      bar_full l (suc e) h f = eighth_full (bar_to l c k density bar beatS e) e (omega arith) (bar_full l e (omega arith) f)

    bars_full : (bars : List Chord) → ((b : ℕ) → b < 8 → Played (get_or bars b past_chord)) → (density : Float) (l : KeysLane) (b : ℕ) → b ≤ 8 → Full l → Full (bars_to l bars k density beatS b)
    unfolding bars_to bar_of
    bars_full bars played density l zero h f = f
    bars_full bars played density l (suc b) h f =
        bar_full (get_or bars b past_chord) (played b (omega arith)) density b (omega arith) (bars_to l bars k density beatS b) 8 (omega arith) (bars_full bars played density l b (omega arith) f)

module _ (s : NoiseStream) (h : Harmony) (tonal : Tonal h) (style : Style) (beatS : Float) (beat : In quickest slowest beatS) where
  filled : Full (keys_of s h style beatS)
  unfolding keys_of
  filled =
      let k = keys_style_of style in
      let d = density_draw_of k.density s in
      bars_full k (style_fair style) (style_dur style) beatS beat h.bars (tonal_played h tonal) d.value (empty_of d.stream) 8 (omega arith) (filled_none past_note KeysNote (empty_of d.stream).value.at)

  note_at_lem : (i : ℕ) → i < (keys_of s h style beatS).value.n → KeysNote (get_or (keys_of s h style beatS).value.at i past_note)
  note_at_lem i k = let laid = keys_laid s h style beatS in filled i k (omega (arith, laid.size, laid.few))

  pub keys_plain : (i : ℕ) → i < (keys_of s h style beatS).value.n → PlainNote (get_or (keys_of s h style beatS).value.at i past_note)
  keys_plain i k = (note_at_lem i k).0

  pub keys_within : (i : ℕ) → i < (keys_of s h style beatS).value.n → Within 48 73 (get_or (keys_of s h style beatS).value.at i past_note).midi
  keys_within i k = (note_at_lem i k).1

  pub keys_back : (i : ℕ) → i < (keys_of s h style beatS).value.n → Backs (get_or (keys_of s h style beatS).value.at i past_note)
  keys_back i k = (note_at_lem i k).2
