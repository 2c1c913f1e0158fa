-- Every lead note is plain: sung on a quarter beat of the loop, then played behind it with an accent. Assumes nothing.
use mathlib.Core.Path.{◌≡◌, refl, sym, ap, ◌∙◌, subst}
use mathlib.Core.Bool.{Bool}
use mathlib.Core.List.{List}
use Prim.Native.Nat.{ℕ, zero, suc, ◌≤◌, ◌<◌}
use native.Mathlib.Omega.{arith}
use lib.Dec.{T, lit≤}
use lib.ListN.{get_or, length}
use lib.Ieee.{Float, nan, binary32, add, mul, of_int, of_bits, le}
use lib.Ieee.Bits.{of_bits-fits}
use lib.Ieee.Fits.{mul-fits}
use Rattle.laws.specs.Floats.{In}
use Rattle.laws.proofs.Bounds.{here, wider, add_in, mul_in, whole_in}
use Rattle.laws.proofs.Lanes.{Filled, filled_none, filled_push}
use Rattle.laws.proofs.Lists.{length_pad, get_d_any}
use Rattle.streams.specs.declared.stream.NoiseStream.{NoiseStream}
use Rattle.composer.specs.Chord.{past_chord}
use Rattle.composer.specs.Harmony.{Tonal}
use Rattle.composer.specs.Note.{zero32, past_note}
use Rattle.composer.specs.Plain.{latest, softest, loudest, shortest, longest, Fits32, PlainNote}
use Rattle.composer.specs.Spread.{draw_of, after_of}
use Rattle.composer.specs.Style.{lead_style_of}
use Rattle.composer.specs.Lead.{sung_of, lead_of}
use Rattle.composer.specs.Lead.Beats.{Beats, past_beats}
use Rattle.composer.specs.Lead.Ground.{ground_of}
use Rattle.composer.specs.Lead.Line.{place_of}
use Rattle.composer.specs.Lead.Melody.{past_lead, velocity_of, step_of, sing_of, bar_to, start_of, nothing_sung, bars_to, melody_of}
use Rattle.composer.specs.Lead.Played.{lead_lag, lead_accent, on_grid_of, played_note_of, play_of, play_to, silence_of, played_of}
use Rattle.composer.specs.Lead.Rhythm.{rhythm_of}
use Rattle.composer.specs.Lead.Role.{role_of}
use Rattle.composer.specs.Lead.Scale.{pool_of}
use Rattle.composer.specs.Lead.Settled.{Quarter}
use Rattle.composer.specs.declared.chord.Chord.{Chord}
use Rattle.composer.specs.declared.harmony.Harmony.{Harmony}
use Rattle.composer.specs.declared.style.LeadStyle.{LeadStyle}
use Rattle.composer.specs.declared.style.Style.{Style}
use Rattle.composer.specs.declared.style.Style.TheVariants.{Hiphop, Sleep}
use Rattle.composer.specs.declared.lead.ground.Ground.{Ground}
use Rattle.composer.specs.declared.lead.melody.LeadNote.{LeadNote}
use Rattle.composer.specs.declared.lead.melody.Sung.{Sung}
use Rattle.composer.specs.declared.lead.role.Role.{Role}
use Rattle.composer.specs.declared.lead.role.Role.TheVariants.{Quote, Close, Peak, Resolve, ChordTone, Passing}
use Rattle.composer.proofs.RangeLaws.{between_in, stays, draw_in, after_in, after_fits, quickest, slowest, start_in}
use Rattle.composer.proofs.lead.LeadLaws.{sung_good, lead_laid}
use Rattle.composer.proofs.lead.RhythmLaws.{rhythm_bar, rhythm_few, rhythm_quarter}

-- ---- the beats: up to 3.5
abbrev last_beat : Float
last_beat = of_bits binary32 0x4060_0000

quarter_in : (x : Float) → Quarter x → In zero32 last_beat x
unfolding of_bits of_int
quarter_in x q =
    subst (In zero32 last_beat) (sym q.is)
    (wider zero32 last_beat (mul_in binary32 (whole_in 2 14 q.times q.least q.most (lit≤ tt)) (here (of_bits binary32 0x3e80_0000) tt) (unfold mul in tt)) tt tt
    (unfold mul le in tt)
    (unfold mul le in tt))

module _ (s : NoiseStream) (style : LeadStyle) (k : ℕ) (h : k < 8) where
  abbrev bar : Beats
  bar = get_or (rhythm_of s style).value k past_beats

  seven : length bar.at ≡ 7
  seven = let t = rhythm_bar s style k h in ap (λ (b : Beats). length b.at) t.is ∙ length_pad zero32 7 t.beats t.few

  beat_in : (i : ℕ) → i < bar.n → In zero32 last_beat (get_or bar.at i nan)
  beat_in i l =
      subst (In zero32 last_beat) (get_d_any bar.at i zero32 nan (omega (arith, seven, rhythm_few s style k h)))
      (quarter_in (get_or bar.at i zero32) (rhythm_quarter s style k h i l))

-- ---- the melody: a velocity from 0.25 to 0.45, and the peak's up to 0.53125
abbrev least : Float
least = of_bits binary32 0x3e80_0000

abbrev most : Float
most = of_bits binary32 0x3ee6_6666

abbrev most_peak : Float
most_peak = of_bits binary32 0x3f08_0000

record PlainSung (x : LeadNote) : Type 0 where
  bar : x.bar ≤ 7
  beat : In zero32 last_beat x.beat
  vel : In least most_peak x.vel

abbrev Full : Sung → Type 0
Full m = Filled past_lead PlainSung m.notes.at m.notes.n

same_in : (x : Float) → In least most x → In least most_peak x
unfolding of_bits
same_in x i = wider least most_peak i tt tt (unfold le in tt) (unfold le in tt)

velocity_in : (role : Role) (x : Float) → In least most x → In least most_peak (velocity_of role x)
unfolding of_bits
velocity_in Quote x i = same_in x i
velocity_in Close x i = same_in x i
velocity_in Peak x i = wider least most_peak (add_in binary32 i (here (of_bits binary32 0x3d75_c28f) tt) (unfold add in tt)) tt tt (unfold add le in tt) (unfold add le in tt)
velocity_in Resolve x i = same_in x i
velocity_in ChordTone x i = same_in x i
velocity_in Passing x i = same_in x i

module _ (pool : List Bool) (g : Ground) (isFair : T (stays g.velocity least most)) (bar : ℕ) (in_loop : bar ≤ 7) (b : Beats)
    (beats : (i : ℕ) → i < b.n → In zero32 last_beat (get_or b.at i nan)) where
  bar_full : (m : Sung) (i : ℕ) → i ≤ b.n → Full m → Full (bar_to pool g bar b m i)
  unfolding bar_to sing_of step_of
  bar_full m zero h f = f
  bar_full m (suc i) h f =
      let before = bar_to pool g bar b m i in
      filled_push past_lead PlainSung before.notes.at before.notes.n _ (bar_full m i (omega arith) f)
      (record { bar = in_loop; beat = beats i (omega arith); vel = velocity_in (role_of before.line (place_of bar b i)).value _ (draw_in g.velocity least most isFair _) })

module _ (style : LeadStyle) (isFair : T (stays style.velocity least most)) (beats : List Beats)
    (fits : (k : ℕ) → k < 8 → (i : ℕ) → i < (get_or beats k past_beats).n → In zero32 last_beat (get_or (get_or beats k past_beats).at i nan)) where
  bars_full : (bars : List Chord) (pool : List Bool) (m : Sung) (k : ℕ) → k ≤ 8 → Full m → Full (bars_to beats bars pool style m k)
  unfolding bars_to ground_of
  bars_full bars pool m zero h f = f
  bars_full bars pool m (suc k) h f =
      let b = get_or beats k past_beats in
      bar_full pool (ground_of style (get_or bars k past_chord) pool) isFair k (omega arith) b (fits k (omega arith)) (bars_to beats bars pool style m k) b.n (omega arith)
      (bars_full bars pool m k (omega arith) f)

style_fair : (style : Style) → T (stays (lead_style_of style).velocity least most)
unfolding of_bits of_int mul add le
style_fair Hiphop = tt
style_fair Sleep = tt

sung_full : (s : NoiseStream) (h : Harmony) (style : Style) → Full (sung_of s h style)
unfolding sung_of melody_of nothing_sung
sung_full s h style =
    let l = lead_style_of style in
    let r = rhythm_of s l in
    let m = nothing_sung (start_of l (get_or h.bars 0 past_chord) (pool_of h.scale)) r.stream in
    bars_full l (style_fair style) r.value (beat_in s l) h.bars (pool_of h.scale) m 8 (omega arith) (filled_none past_lead PlainSung m.notes.at)

-- ---- as played
dur_in : (style : Style) → In shortest longest (lead_style_of style).dur
unfolding of_bits
dur_in Hiphop = between_in shortest longest (lead_style_of Hiphop).dur (unfold le in tt)
dur_in Sleep = between_in shortest longest (lead_style_of Sleep).dur (unfold le in tt)

dur_fits : (style : Style) → Fits32 (lead_style_of style).dur
dur_fits Hiphop = of_bits-fits binary32 _
dur_fits Sleep = of_bits-fits binary32 _

-- the accent is at most 1.09375
accented_in : (s : NoiseStream) (v : Float) → In least most_peak v → In softest loudest (mul binary32 v (draw_of lead_accent s).value)
unfolding of_bits of_int
accented_in s v i =
    let accent = draw_in lead_accent lead_accent.base (of_bits binary32 0x3f8c_0000) (unfold mul add le in tt) s in
    wider softest loudest (mul_in binary32 i accent (unfold mul in tt)) tt tt (unfold mul le in tt) (unfold mul le in tt)

module _ (beatS : Float) (beat : In quickest slowest beatS) where
  -- 27.0
  grid_in : (x : LeadNote) → PlainSung x → In zero32 (of_bits binary32 0x41d8_0000) (on_grid_of x beatS)
  unfolding of_bits
  grid_in x p =
      wider zero32 (of_bits binary32 0x41d8_0000) (add_in binary32 (start_in beatS beat x.bar p.bar) (mul_in binary32 p.beat beat (unfold mul in tt)) (unfold mul add in tt)) tt tt
      (unfold mul add le in tt)
      (unfold mul add le in tt)

  played_at : (s : NoiseStream) (x : LeadNote) → PlainSung x → In zero32 latest (after_of lead_lag (on_grid_of x beatS) s).value
  unfolding of_bits of_int
  played_at s x p =
      wider zero32 latest (after_in s lead_lag (grid_in x p) (here lead_lag.base tt) (here lead_lag.span tt) (unfold add in tt) (unfold mul in tt) (unfold add mul in tt)) tt tt
      (unfold add mul le in tt)
      (unfold add mul le in tt)

  module _ (m : Sung) (sung : (i : ℕ) → i < m.notes.n → PlainSung (get_or m.notes.at i past_lead)) (dur : Float) (held : In shortest longest dur)
      (fit : Fits32 dur) where
    play_full : (s : NoiseStream) (k : ℕ) → k ≤ m.notes.n → Filled past_note PlainNote (play_to m beatS dur (silence_of s) k).value.at (play_to m beatS dur (silence_of s) k).value.n
    unfolding play_to play_of played_note_of
    play_full s zero h = filled_none past_note PlainNote (silence_of s).value.at
    play_full s (suc k) h =
        let l = play_to m beatS dur (silence_of s) k in
        let x = sung k (omega arith) in
        filled_push past_note PlainNote l.value.at l.value.n _ (play_full s k (omega arith))
        (record {
          at = played_at l.stream (get_or m.notes.at k past_lead) x;
          vel = accented_in _ _ x.vel;
          dur = held;
          at_fits = after_fits lead_lag _ l.stream;
          vel_fits = mul-fits binary32 _ _;
          dur_fits = fit;
          spare = refl;
        })

  module _ (s : NoiseStream) (h : Harmony) (tonal : Tonal h) (style : Style) where
    sung_plain : (i : ℕ) → i < (sung_of s h style).notes.n → PlainSung (get_or (sung_of s h style).notes.at i past_lead)
    sung_plain i k = let good = sung_good s h tonal style in sung_full s h style i k (omega (arith, good.0.size, good.1))

    filled : Filled past_note PlainNote (lead_of s h style beatS).value.at (lead_of s h style beatS).value.n
    unfolding lead_of played_of
    filled = let m = sung_of s h style in play_full m sung_plain (lead_style_of style).dur (dur_in style) (dur_fits style) m.line.stream m.notes.n (omega arith)

    pub lead_plain : (i : ℕ) → i < (lead_of s h style beatS).value.n → PlainNote (get_or (lead_of s h style beatS).value.at i past_note)
    lead_plain i k = let laid = lead_laid s h tonal style beatS in filled i k (omega (arith, laid.size, laid.few))
