-- Between what a draw lies, a beat, and the start of a bar, at every tempo of both styles. Assumes nothing.
use mathlib.Core.Bool.{Bool, ◌&&◌}
use Prim.Native.Nat.{ℕ, ◌/◌, ◌^◌, ◌≤◌}
use native.Mathlib.Omega.{arith}
use lib.Dec.{T, lit≤}
use lib.Ieee.{Float, binary32, add, sub, mul, div, of_int, of_bits, le}
use lib.Ieee.Fits.{add-fits}
use mir.Facts.{and_yes}
use Rattle.laws.specs.Floats.{f32_of, nonneg, In, Size}
use Rattle.laws.proofs.Bounds.{here, wider, add_in, mul_in, div_in, whole_in}
use Rattle.laws.proofs.Sizes.{size_of_in, sub_size, mul_size}
use Rattle.streams.specs.Stream.{word_at, unit_of}
use Rattle.streams.specs.declared.stream.NoiseStream.{NoiseStream}
use Rattle.streams.proofs.StreamLaws.{unit_is, unit_in}
use Rattle.composer.specs.Compose.{beat_s_of}
use Rattle.composer.specs.Note.{zero32}
use Rattle.composer.specs.Plain.{Fits32}
use Rattle.composer.specs.Spread.{draw_of, after_of, jitter_of}
use Rattle.composer.specs.Tempo.{beats_of}
use Rattle.composer.specs.Timing.{beats_per_bar, bar_s_of, bar_start_of, swing_delay_of}
use Rattle.composer.specs.declared.spread.Spread.{Spread}
use Rattle.composer.specs.declared.spread.Jitter.{Jitter}
use Rattle.composer.specs.declared.style.Style.{Style}
use Rattle.composer.specs.declared.style.Style.TheVariants.{Hiphop, Sleep}
use Rattle.composer.proofs.TempoLaws.{tempo_within}

-- ---- by computation
abbrev pub between : Float → Float → Float → Bool
between lo hi x = (nonneg lo && nonneg hi) && (nonneg x && (le lo x && le x hi))

pub between_in : (lo hi x : Float) → T (between lo hi x) → In lo hi x
between_in lo hi x t =
    let u = and_yes (nonneg lo && nonneg hi) (nonneg x && (le lo x && le x hi)) t in
    let ends = and_yes (nonneg lo) (nonneg hi) u.0 in
    let v = and_yes (nonneg x) (le lo x && le x hi) u.1 in
    let order = and_yes (le lo x) (le x hi) v.1 in
    record { lo_ok = ends.0; hi_ok = ends.1; ok = v.0; least = order.0; most = order.1 }

-- ---- draws
unit_range : (s : NoiseStream) → In (f32_of 0) (f32_of 1) (unit_of s).value
unit_range s = unit_in (word_at s 1 / 2 ^ 40) (unit_of s).value (unit_is s)

-- the spread's least and most, with the span at 0 and at 1
abbrev least_of : Spread → Float
least_of p = add binary32 p.base (mul binary32 p.span (f32_of 0))

abbrev most_of : Spread → Float
most_of p = add binary32 p.base (mul binary32 p.span (f32_of 1))

-- a spread that stays between lo and hi, as it computes
abbrev pub stays : Spread → Float → Float → Bool
stays p lo hi =
    ((nonneg p.base && nonneg p.span) && (nonneg (mul binary32 p.span (f32_of 1)) && nonneg (most_of p))) && ((nonneg lo && nonneg hi) && (le lo (least_of p) && le (most_of p) hi))

pub draw_in : (p : Spread) (lo hi : Float) → T (stays p lo hi) → (s : NoiseStream) → In lo hi (draw_of p s).value
unfolding draw_of
draw_in p lo hi t s =
    let u = and_yes ((nonneg p.base && nonneg p.span) && (nonneg (mul binary32 p.span (f32_of 1)) && nonneg (most_of p))) ((nonneg lo && nonneg hi) && (le lo (least_of p) && le (most_of p) hi)) t in
    let v = and_yes (nonneg p.base && nonneg p.span) (nonneg (mul binary32 p.span (f32_of 1)) && nonneg (most_of p)) u.0 in
    let w = and_yes (nonneg lo && nonneg hi) (le lo (least_of p) && le (most_of p) hi) u.1 in
    let own = and_yes (nonneg p.base) (nonneg p.span) v.0 in
    let tops = and_yes (nonneg (mul binary32 p.span (f32_of 1))) (nonneg (most_of p)) v.1 in
    let ends = and_yes (nonneg lo) (nonneg hi) w.0 in
    let order = and_yes (le lo (least_of p)) (le (most_of p) hi) w.1 in
    wider lo hi (add_in binary32 (here p.base own.0) (mul_in binary32 (here p.span own.1) (unit_range s) tops.0) tops.1) ends.0 ends.1 order.0 order.1

-- a time, delayed
pub after_in : (s : NoiseStream) (p : Spread) {tl th t bl bh sl sh : Float} → In tl th t → In bl bh p.base → In sl sh p.span
    → T (nonneg (add binary32 th bh)) → T (nonneg (mul binary32 sh (f32_of 1))) → T (nonneg (add binary32 (add binary32 th bh) (mul binary32 sh (f32_of 1))))
    → In (add binary32 (add binary32 tl bl) (mul binary32 sl (f32_of 0))) (add binary32 (add binary32 th bh) (mul binary32 sh (f32_of 1))) (after_of p t s).value
unfolding after_of
after_in s p i b w m n o = add_in binary32 (add_in binary32 i b m) (mul_in binary32 w (unit_range s) n) o

-- a draw is a value of f32
pub draw_fits : (p : Spread) (s : NoiseStream) → Fits32 (draw_of p s).value
unfolding draw_of
draw_fits p s = add-fits binary32 p.base (mul binary32 p.span (unit_of s).value)

pub after_fits : (p : Spread) (t : Float) (s : NoiseStream) → Fits32 (after_of p t s).value
unfolding after_of
after_fits p t s = add-fits binary32 (add binary32 t p.base) (mul binary32 p.span (unit_of s).value)

-- a jitter of either sign
pub jitter_size : (s : NoiseStream) (j : Jitter) → T (nonneg j.early) → T (nonneg j.width) → T (nonneg (add binary32 (f32_of 1) j.early))
    → T (nonneg (mul binary32 (add binary32 (f32_of 1) j.early) j.width)) → Size (mul binary32 (add binary32 (f32_of 1) j.early) j.width) (jitter_of j s).value
unfolding jitter_of
jitter_size s j e w t u =
    mul_size binary32 (sub_size binary32 (size_of_in (unit_range s)) (size_of_in (here j.early e)) t) (size_of_in (here j.width w)) u

-- ---- the tempo
-- a whole number from 70 to 82
pub tempo_between : (s : NoiseStream) (style : Style) → (70 ≤ beats_of s style) × (beats_of s style ≤ 82)
tempo_between s Hiphop = tempo_within s Hiphop
tempo_between s Sleep = (omega (arith, (tempo_within s Sleep).0), omega (arith, (tempo_within s Sleep).1))

pub tempo_in : (n : ℕ) → (70 ≤ n) × (n ≤ 82) → In (f32_of 70) (f32_of 82) (f32_of n)
tempo_in n h = whole_in 70 82 n h.0 h.1 (lit≤ tt)

-- 60 / 82 and 60 / 70
abbrev pub quickest : Float
quickest = of_bits binary32 0x3f3b_512c

abbrev pub slowest : Float
slowest = of_bits binary32 0x3f5b_6db7

pub beat_in : (n : ℕ) → (70 ≤ n) × (n ≤ 82) → In quickest slowest (beat_s_of (f32_of n))
unfolding of_bits of_int
beat_in n h =
    wider quickest slowest (div_in binary32 (here (of_bits binary32 0x4270_0000) tt) (tempo_in n h) tt (unfold div in tt)) tt tt (unfold div le in tt) (unfold div le in tt)

-- ---- times in the loop
module _ (beatS : Float) (beat : In quickest slowest beatS) where
  -- from 2.92 to 3.43
  pub bar_in_lem : In (of_bits binary32 0x403b_512c) (of_bits binary32 0x405b_6db7) (bar_s_of beatS)
  unfolding of_bits
  bar_in_lem =
      wider (of_bits binary32 0x403b_512c) (of_bits binary32 0x405b_6db7) (mul_in binary32 beat (here beats_per_bar tt) (unfold mul in tt)) tt tt
      (unfold mul le in tt)
      (unfold mul le in tt)

  -- 24 seconds
  pub start_in : (bar : ℕ) → bar ≤ 7 → In zero32 (of_bits binary32 0x41c0_0000) (bar_start_of bar beatS)
  unfolding of_bits of_int
  start_in bar h =
      wider zero32 (of_bits binary32 0x41c0_0000) (mul_in binary32 (whole_in 0 7 bar (omega arith) h (lit≤ tt)) bar_in_lem (unfold mul in tt)) tt tt
      (unfold mul le in tt)
      (unfold mul le in tt)

  -- half a beat: from 0.36 to 0.43
  pub eighth_in : In (of_bits binary32 0x3ebb_512c) (of_bits binary32 0x3edb_6db7) (div binary32 beatS (of_bits binary32 0x4000_0000))
  unfolding of_bits
  eighth_in =
      wider (of_bits binary32 0x3ebb_512c) (of_bits binary32 0x3edb_6db7) (div_in binary32 beat (here (of_bits binary32 0x4000_0000) tt) tt (unfold div in tt)) tt tt
      (unfold div le in tt)
      (unfold div le in tt)

  -- 27 seconds
  pub eighths_in : (bar e : ℕ) → bar ≤ 7 → e ≤ 7
      → In zero32 (of_bits binary32 0x41d8_0000) (add binary32 (bar_start_of bar beatS) (mul binary32 (f32_of e) (div binary32 beatS (of_bits binary32 0x4000_0000))))
  unfolding of_bits of_int
  eighths_in bar e h k =
      wider zero32 (of_bits binary32 0x41d8_0000)
      (add_in binary32 (start_in bar h) (mul_in binary32 (whole_in 0 7 e (omega arith) k (lit≤ tt)) eighth_in (unfold mul in tt)) (unfold mul add in tt)) tt tt
      (unfold mul add le in tt)
      (unfold mul add le in tt)

  -- a swing of 0.53: up to 0.01294
  pub swing_in : In zero32 (of_bits binary32 0x3c54_0000) (swing_delay_of (of_bits binary32 0x3f07_ae14) (div binary32 beatS (of_bits binary32 0x4000_0000)))
  unfolding of_bits
  swing_in =
      wider zero32 (of_bits binary32 0x3c54_0000)
      (mul_in binary32 (here (sub binary32 (of_bits binary32 0x3f07_ae14) (of_bits binary32 0x3f00_0000)) (unfold sub in tt)) eighth_in (unfold sub mul in tt)) tt tt
      (unfold sub mul le in tt)
      (unfold sub mul le in tt)
