-- Every tempo is within its style's window, and takes one draw. Assumes nothing.
use mathlib.Core.Path.{◌≡◌, ap, ◌∙◌}
use Prim.Native.Nat.{ℕ, ◌+◌, ◌/◌, ◌%◌, ◌^◌, ◌≤◌, ◌<◌}
use native.Mathlib.Omega.{arith}
use lib.Dec.{lit≤}
use lib.Ieee.{Float, binary32, add, sub, mul, of_int, of_bits, to_unsigned, le}
use Rattle.laws.specs.Floats.{f32_of, In}
use Rattle.laws.proofs.Bounds.{here, wider, add_in, mul_in}
use Rattle.laws.proofs.Rounding.{cut_le, round_within}
use Rattle.streams.specs.Stream.{word_at, unit_of}
use Rattle.streams.specs.Stage.{stream_of}
use Rattle.streams.specs.declared.stage.Stage.{Stage}
use Rattle.streams.specs.declared.stream.NoiseStream.{NoiseStream}
use Rattle.streams.proofs.StreamLaws.{unit_is, unit_in, after_counter}
use Rattle.streams.proofs.StageLaws.{stream_counter}
use Rattle.composer.specs.Spread.{spread_by, draw_of}
use Rattle.composer.specs.Style.{bpm_of}
use Rattle.composer.specs.Tempo.{beats_of, tempo_of, slowest_of, fastest_of}
use Rattle.composer.specs.declared.style.Style.{Style}
use Rattle.composer.specs.declared.style.Style.TheVariants.{Hiphop, Sleep}
use Rattle.composer.proofs.SpreadLaws.{draw_advances}

-- each end of the window is the spread at an end of the unit
window : (style : Style) (u : Float) → In (f32_of 0) (f32_of 1) u → In (f32_of (slowest_of style)) (f32_of (fastest_of style)) (spread_by (bpm_of style) u)
unfolding of_bits of_int
window Hiphop u i =
    wider (f32_of 70) (f32_of 82)
    (add_in binary32 (here (bpm_of Hiphop).base tt) (mul_in binary32 (here (bpm_of Hiphop).span (unfold sub in tt)) i (unfold sub mul in tt)) (unfold sub mul add in tt))
    tt tt (unfold sub mul add le in tt) (unfold sub mul add le in tt)
window Sleep u i =
    wider (f32_of 73) (f32_of 77)
    (add_in binary32 (here (bpm_of Sleep).base tt) (mul_in binary32 (here (bpm_of Sleep).span (unfold sub in tt)) i (unfold sub mul in tt)) (unfold sub mul add in tt))
    tt tt (unfold sub mul add le in tt) (unfold sub mul add le in tt)

module _ (s : NoiseStream) where
  pub drawn_in : (style : Style) → In (f32_of (slowest_of style)) (f32_of (fastest_of style)) (draw_of (bpm_of style) s).value
  unfolding draw_of
  drawn_in style = window style (unit_of s).value (unit_in (word_at s 1 / 2 ^ 40) (unit_of s).value (unit_is s))

  pub drawn_small : (style : Style) → to_unsigned 64 (draw_of (bpm_of style) s).value ≤ 2 ^ 24
  drawn_small Hiphop = omega (arith, cut_le (draw_of (bpm_of Hiphop) s).value 70 82 (lit≤ tt) (lit≤ tt) (drawn_in Hiphop))
  drawn_small Sleep = omega (arith, cut_le (draw_of (bpm_of Sleep) s).value 73 77 (lit≤ tt) (lit≤ tt) (drawn_in Sleep))

  -- 70 to 82, or 73 to 77
  pub tempo_within : (style : Style) → (slowest_of style ≤ beats_of s style) × (beats_of s style ≤ fastest_of style)
  unfolding beats_of
  tempo_within Hiphop = round_within (draw_of (bpm_of Hiphop) s).value 70 82 (lit≤ tt) (lit≤ tt) (drawn_in Hiphop) (unfold of_bits of_int sub le in tt) (unfold of_int sub in tt)
  tempo_within Sleep = round_within (draw_of (bpm_of Sleep) s).value 73 77 (lit≤ tt) (lit≤ tt) (drawn_in Sleep) (unfold of_bits of_int sub le in tt) (unfold of_int sub in tt)

  pub beats_byte : (style : Style) → beats_of s style < 256
  beats_byte Hiphop = omega (arith, (tempo_within Hiphop).1)
  beats_byte Sleep = omega (arith, (tempo_within Sleep).1)

-- one draw, always
pub tempo_counter : (seed : ℕ) (style : Style) → (tempo_of (stream_of Stage.Tempo seed) style).stream.counter ≡ 1
unfolding tempo_of
tempo_counter seed style =
    ap (λ (t : NoiseStream). t.counter) (draw_advances (stream_of Stage.Tempo seed) (bpm_of style))
    ∙ after_counter (stream_of Stage.Tempo seed) 1 ∙ ap (λ (n : ℕ). (n + 1) % 2 ^ 64) (stream_counter Stage.Tempo seed)
