-- Times in a bar. Definitions only.
use Rattle.std.specs.Prelude.{cond, ℕ, Float}
use Rattle.std.specs.Float.{binary32}
use Rattle.std.specs.Float.Ieee.{of_bits, lt, sub, mul}
use Rattle.laws.specs.Floats.{f32_of}

-- 4.0
abbrev pub beats_per_bar : Float
beats_per_bar = of_bits binary32 0x4080_0000

-- 0.25
abbrev pub sixteenth_beats : Float
sixteenth_beats = of_bits binary32 0x3e80_0000

abbrev pub bar_s_of : Float → Float
bar_s_of beatS = mul binary32 beatS beats_per_bar

-- the start of a loop bar, its bar line
abbrev pub bar_start_of : ℕ → Float → Float
bar_start_of bar beatS = mul binary32 (f32_of bar) (bar_s_of beatS)

-- (s - 0.5) * eighth
abbrev pub swing_delay_of : Float → Float → Float
swing_delay_of s eighthS = mul binary32 (sub binary32 s (of_bits binary32 0x3f00_0000)) eighthS

-- t, or 0 where t is not above it
abbrev pub held_at_zero : Float → Float
held_at_zero t = cond (lt (of_bits binary32 0) t) t (of_bits binary32 0)
