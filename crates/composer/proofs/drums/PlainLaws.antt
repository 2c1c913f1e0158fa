-- Every drum hit is plain: it falls within the loop, whichever way it is jittered, and its gain is neither too soft
-- nor too loud. Assumes nothing.
use mathlib.Core.Path.{refl}
use mathlib.Core.Bool.{◌&&◌}
use Prim.Native.Nat.{ℕ, zero, suc, ◌%◌, ◌≤◌, ◌<◌}
use native.Mathlib.Omega.{arith}
use lib.Dec.{T, eqb}
use lib.ListN.{get_or}
use lib.Ieee.{Float, nan, binary32, add, sub, mul, div, of_int, of_bits, le, lt, ne}
use lib.Ieee.Bits.{of_bits-fits}
use lib.Ieee.Fits.{cond-fits, add-fits, mul-fits}
use Rattle.laws.specs.Floats.{f32_of, fract_of, nonneg, In}
use Rattle.laws.proofs.Bools.{either}
use Rattle.laws.proofs.Bounds.{here, wider, add_in, mul_in, sub_in}
use Rattle.laws.proofs.Lanes.{Filled, filled_none, filled_push}
use Rattle.laws.proofs.Sizes.{size_of_in, add_size, held_in}
use Rattle.streams.specs.Draw.{chance_of, pick_of}
use Rattle.streams.specs.declared.stream.NoiseStream.{NoiseStream}
use Rattle.streams.proofs.DrawLaws.{pick_lt}
use Rattle.composer.specs.Drums.{wobble, bar_of, lay_bar_of, bars_to, no_hits, lay_groove_of, drums_of}
use Rattle.composer.specs.Drums.Grooves.{ghost_kick, hiphop_groove_of, sleep_groove}
use Rattle.composer.specs.Drums.Kit.{DrumLane, bar_at, ends_statement, drawn_on, hit_accent, kick_jitter, kick_slot_of, kick_beat_of, kick_hit_of, push_kick_of, lay_kicks_of, snare_drag_s, snare_jitter, snare_hit_of, push_snare_of, snares_to, lay_snares_of, hat_jitter, hat_slot_of, hat_hit_of, push_hat_of, lay_hat_of, hats_to}
use Rattle.composer.specs.Note.{zero32, past_hit}
use Rattle.composer.specs.Plain.{latest, softest, loudest, Fits32, PlainHit}
use Rattle.composer.specs.Spread.{draw_of, jitter_of}
use Rattle.composer.specs.Timing.{swing_delay_of, held_at_zero}
use Rattle.composer.specs.declared.spread.Jitter.{Jitter}
use Rattle.composer.specs.declared.style.Style.{Style}
use Rattle.composer.specs.declared.style.Style.TheVariants.{Hiphop, Sleep}
use Rattle.composer.specs.declared.drums.grooves.Kick.{Kick}
use Rattle.composer.specs.declared.drums.grooves.Groove.{Groove}
use Rattle.composer.specs.declared.drums.kit.Bar.{Bar}
use Rattle.composer.proofs.DrumsLaws.{drums_laid}
use Rattle.composer.proofs.drums.FairLaws.{last_beat, least_gain, most_gain, least_drag, most_drag, half, most_swing, least_hat, most_hat, fair_kick, fair, hiphop_fair, sleep_fair, ghost_fair, kick_beat, kick_gain, kicks_fair, drag_fair, snare_beat, snare_gain_lem, swing_fair, velocity_fair}
use Rattle.composer.proofs.RangeLaws.{draw_in, jitter_size, quickest, slowest, start_in, eighth_in, eighths_in, swing_in}

-- ---- a hit's time: a slot up to 27.25, and a jitter
abbrev last_slot : Float
last_slot = of_bits binary32 0x41da_0000

abbrev pub width_of : Jitter → Float
width_of j = mul binary32 (add binary32 (f32_of 1) j.early) j.width

hit_at_lem : (s : NoiseStream) (j : Jitter) (slot : Float) → In zero32 last_slot slot → T (nonneg j.early) → T (nonneg j.width)
    → T (nonneg (add binary32 (f32_of 1) j.early)) → T (nonneg (width_of j))
    → T (nonneg (add binary32 last_slot (width_of j))) → T (le (add binary32 last_slot (width_of j)) latest) → In zero32 latest (held_at_zero (add binary32 slot (jitter_of j s).value))
unfolding of_bits
hit_at_lem s j slot i e w t u v l =
    wider zero32 latest (held_in (add_size binary32 (size_of_in i) (jitter_size s j e w t u) v)) tt tt (unfold le in tt) l

at_fits : (slot jitter : Float) → Fits32 (held_at_zero (add binary32 slot jitter))
at_fits slot jitter = cond-fits binary32 (lt zero32 (add binary32 slot jitter)) (add binary32 slot jitter) zero32 (add-fits binary32 slot jitter) (of_bits-fits binary32 0)

-- a hat's delay off the beat: up to 0.109375
pub hat_swing : (beatS : Float) → In quickest slowest beatS → (x : Float) → In half most_swing x → In zero32 (of_bits binary32 0x3de0_0000) (swing_delay_of x (div binary32 beatS (of_bits binary32 0x4000_0000)))
unfolding of_bits
hat_swing beatS beat x i =
    wider zero32 (of_bits binary32 0x3de0_0000) (mul_in binary32 (sub_in binary32 i (here half tt) (unfold le in tt) (unfold sub in tt)) (eighth_in beatS beat) (unfold sub mul in tt)) tt tt
    (unfold sub mul le in tt)
    (unfold sub mul le in tt)

-- ---- how hard
-- the wobble up to 1.1015625, the accent up to 1.0625
abbrev least_wobble : Float
least_wobble = of_bits binary32 0x3f66_6666

abbrev most_wobble : Float
most_wobble = of_bits binary32 0x3f8d_0000

gain_in : (s : NoiseStream) (gain w : Float) → In least_gain most_gain gain → In least_wobble most_wobble w → In softest loudest (mul binary32 (mul binary32 gain w) (draw_of hit_accent s).value)
unfolding of_bits of_int
gain_in s gain w g i =
    let accent = draw_in hit_accent hit_accent.base (of_bits binary32 0x3f88_0000) (unfold mul add le in tt) s in
    wider softest loudest (mul_in binary32 (mul_in binary32 g i (unfold mul in tt)) accent (unfold mul in tt)) tt tt (unfold mul le in tt) (unfold mul le in tt)

-- ---- the lane
abbrev Full : DrumLane → Type 0
Full l = Filled past_hit PlainHit l.value.at l.value.n

module _ (beatS : Float) (beat : In quickest slowest beatS) (number : ℕ) (in_loop : number ≤ 7) (w : Float) (wobbles : In least_wobble most_wobble w) where
  abbrev bar : Bar
  bar = bar_of number beatS w

  -- 27.21875
  at_in : (x : Float) → In zero32 last_beat x → In zero32 (of_bits binary32 0x41d9_c000) (bar_at bar x)
  unfolding of_bits
  at_in x i =
      let beats = wider zero32 (of_bits binary32 0x404e_0000) (mul_in binary32 i beat (unfold mul in tt)) tt tt (unfold mul le in tt) (unfold mul le in tt) in
      wider zero32 (of_bits binary32 0x41d9_c000) (add_in binary32 (start_in beatS beat number in_loop) beats (unfold add in tt)) tt tt
      (unfold add le in tt)
      (unfold add le in tt)

  -- ---- kicks
  -- 27.2368
  dragged_in : (dragS x : Float) → In least_drag most_drag dragS → In zero32 last_beat x → In zero32 (of_bits binary32 0x41d9_e500) (add binary32 (bar_at bar x) dragS)
  unfolding of_bits
  dragged_in dragS x d i =
      wider zero32 (of_bits binary32 0x41d9_e500) (add_in binary32 (at_in x i) d (unfold add in tt)) tt tt (unfold add le in tt) (unfold add le in tt)

  kick_slot : (dragS x : Float) → In least_drag most_drag dragS → In zero32 last_beat x → In zero32 last_slot (kick_slot_of bar dragS x)
  unfolding of_bits
  kick_slot dragS x d i =
      let at = dragged_in dragS x d i in
      either (In zero32 last_slot) (ne (fract_of x) zero32) _ _
      (wider zero32 last_slot (add_in binary32 at (swing_in beatS beat) (unfold add in tt)) tt tt (unfold add le in tt) (unfold add le in tt))
      (wider zero32 last_slot at tt tt (unfold le in tt) (unfold le in tt))

  kick_full : (l : DrumLane) (dragS : Float) (k : Kick) → In least_drag most_drag dragS → T (fair_kick k) → Full l → Full (push_kick_of l bar dragS k)
  unfolding push_kick_of kick_hit_of of_bits of_int
  kick_full l dragS k d t f =
      filled_push past_hit PlainHit l.value.at l.value.n _ f
      (record {
        at = hit_at_lem l.stream kick_jitter _ (kick_slot dragS (kick_beat_of k number) d (kick_beat k t number)) tt tt (unfold add in tt) (unfold add mul in tt) (unfold add mul in tt) (unfold add mul le in tt);
        gain = gain_in (jitter_of kick_jitter l.stream).stream k.gain w (kick_gain k t) wobbles;
        at_fits = at_fits _ _;
        gain_fits = mul-fits binary32 _ _;
        spare = refl;
      })

  -- ---- snares
  snare_slot : (x : Float) → In (f32_of 1) last_beat x → In zero32 last_slot (add binary32 (bar_at bar x) snare_drag_s)
  unfolding of_bits
  snare_slot x i = wider zero32 last_slot (add_in binary32 (at_in x (wider zero32 last_beat i tt tt (unfold of_int le in tt) (unfold le in tt))) (here snare_drag_s tt) (unfold add in tt)) tt tt (unfold add le in tt) (unfold add le in tt)

  snare_full : (l : DrumLane) (x gain : Float) → In (f32_of 1) last_beat x → In least_gain most_gain gain → Full l → Full (push_snare_of l bar x gain)
  unfolding push_snare_of snare_hit_of of_bits of_int
  snare_full l x gain i g f =
      filled_push past_hit PlainHit l.value.at l.value.n _ f
      (record {
        at = hit_at_lem l.stream snare_jitter _ (snare_slot x i) tt tt (unfold add in tt) (unfold add mul in tt) (unfold add mul in tt) (unfold add mul le in tt);
        gain = gain_in (jitter_of snare_jitter l.stream).stream gain w g wobbles;
        at_fits = at_fits _ _;
        gain_fits = mul-fits binary32 _ _;
        spare = refl;
      })

  -- ---- hats
  hat_slot : (x : Float) → In half most_swing x → (e : ℕ) → e ≤ 7 → In zero32 last_slot (hat_slot_of bar x e)
  unfolding of_bits
  hat_slot x i e h =
      let at = eighths_in beatS beat number e in_loop h in
      either (In zero32 last_slot) (eqb (e % 2) 1) _ _
      (wider zero32 last_slot (add_in binary32 at (hat_swing beatS beat x i) (unfold add in tt)) tt tt (unfold add le in tt) (unfold add le in tt))
      (wider zero32 last_slot at tt tt (unfold le in tt) (unfold le in tt))

  hat_gain : (v : Float) → In least_hat most_hat v → In softest loudest (mul binary32 v w)
  unfolding of_bits
  hat_gain v i = wider softest loudest (mul_in binary32 i wobbles (unfold mul in tt)) tt tt (unfold mul le in tt) (unfold mul le in tt)

  module _ (g : Groove) (isFair : T (fair g)) where
    hat_full : (l : DrumLane) (e : ℕ) → e ≤ 7 → Full l → Full (push_hat_of l g bar e)
    unfolding push_hat_of hat_hit_of of_bits of_int
    hat_full l e h f =
        filled_push past_hit PlainHit l.value.at l.value.n _ f
        (record {
          at = hit_at_lem l.stream hat_jitter _ (hat_slot g.hats.swing (swing_fair g isFair) e h) tt tt (unfold add in tt) (unfold add mul in tt) (unfold add mul in tt) (unfold add mul le in tt);
          gain = hat_gain _ (draw_in g.hats.velocity least_hat most_hat (velocity_fair g isFair) (jitter_of hat_jitter l.stream).stream);
          at_fits = at_fits _ _;
          gain_fits = mul-fits binary32 _ _;
          spare = refl;
        })

    kicks_full : (l : DrumLane) → Full l → Full (lay_kicks_of l g bar)
    unfolding lay_kicks_of
    kicks_full l f =
        let v = kicks_fair g isFair in
        let d = drag_fair g isFair in
        let two = kick_full _ g.drag_s g.second d v.1 (kick_full l g.drag_s g.first d v.0 f) in
        either Full (g.ghost_pickup && ends_statement bar) _ _ (kick_full _ g.drag_s ghost_kick d ghost_fair two) two

    snares_full : (l : DrumLane) (i : ℕ) → i ≤ g.snares.n → Full l → Full (snares_to l g bar i)
    unfolding snares_to
    snares_full l zero h f = f
    snares_full l (suc i) h f =
        snare_full (snares_to l g bar i) (get_or g.snares.at i nan) g.snare_gain (snare_beat g isFair i (omega arith)) (snare_gain_lem g isFair) (snares_full l i (omega arith) f)

    lay_hat_full : (l : DrumLane) (e : ℕ) → e ≤ 7 → Full l → Full (lay_hat_of l g bar e)
    unfolding lay_hat_of
    lay_hat_full l e h f =
        let skip = chance_of l.stream g.hats.skip_p in
        either Full (g.hats.off_eighths_only && eqb (e % 2) 0) _ _ f (either Full skip.value _ _ f (hat_full (drawn_on l skip.stream) e h f))

    hats_full : (l : DrumLane) (e : ℕ) → e ≤ 8 → Full l → Full (hats_to l g bar e)
    unfolding hats_to
    hats_full l zero h f = f
    hats_full l (suc e) h f = lay_hat_full (hats_to l g bar e) e (omega arith) (hats_full l e (omega arith) f)

module _ (beatS : Float) (beat : In quickest slowest beatS) where
  module _ (g : Groove) (isFair : T (fair g)) where
    bar_full : (l : DrumLane) (n : ℕ) → n ≤ 7 → Full l → Full (lay_bar_of l g beatS n)
    unfolding lay_bar_of of_bits of_int
    bar_full l n h f =
        let d = draw_of wobble l.stream in
        let w = draw_in wobble least_wobble most_wobble (unfold mul add le in tt) l.stream in
        let b = bar_of n beatS d.value in
        let k = lay_kicks_of (drawn_on l d.stream) g b in
        let kf : Full k = kicks_full beatS beat n h d.value w g isFair (drawn_on l d.stream) f in
        let sf : Full (lay_snares_of k g b) = snares_full beatS beat n h d.value w g isFair k g.snares.n (omega arith) kf in
        hats_full beatS beat n h d.value w g isFair (lay_snares_of k g b) 8 (omega arith) sf

    bars_full : (l : DrumLane) (n : ℕ) → n ≤ 8 → Full l → Full (bars_to l g beatS n)
    unfolding bars_to
    bars_full l zero h f = f
    bars_full l (suc n) h f = bar_full (bars_to l g beatS n) n (omega arith) (bars_full l n (omega arith) f)

  filled : (s : NoiseStream) (style : Style) → Full (drums_of s style beatS)
  unfolding drums_of lay_groove_of
  filled s Hiphop =
      let p = pick_of s 4 in
      bars_full (hiphop_groove_of p.value) (hiphop_fair p.value (pick_lt s 4 (omega arith))) (no_hits p.stream) 8 (omega arith) (filled_none past_hit PlainHit (no_hits p.stream).value.at)
  filled s Sleep = bars_full sleep_groove sleep_fair (no_hits s) 8 (omega arith) (filled_none past_hit PlainHit (no_hits s).value.at)

  pub drums_plain : (s : NoiseStream) (style : Style) (i : ℕ) → i < (drums_of s style beatS).value.n → PlainHit (get_or (drums_of s style beatS).value.at i past_hit)
  drums_plain s style i h = let laid = drums_laid s style beatS in filled s style i h (omega (arith, laid.size, laid.few))
