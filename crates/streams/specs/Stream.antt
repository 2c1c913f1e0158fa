-- A stream of draws. Definitions only.
use Rattle.std.specs.Prelude.{ℕ, ◌+◌, ◌/◌, ◌%◌, ◌^◌, ◌<◌, false, T, Float}
use Rattle.std.specs.Float.{binary32}
use Rattle.std.specs.Float.Ieee.{div, of_int, of_bits, le, lt}
use Rattle.std.specs.Float.Ieee.Exact.{HasValue}
use Rattle.laws.specs.Floats.{f32_of}
use Rattle.streams.specs.Mix.{splitmix_draw_of}
use Rattle.streams.specs.declared.stream.NoiseStream.{NoiseStream}
use Rattle.streams.specs.declared.stream.Draw.{Draw}

abbrev pub new_of : ℕ → NoiseStream
new_of seed = record { seed = seed; counter = 0 }

-- the stream after n draws more
unfoldable pub after : NoiseStream → ℕ → NoiseStream
after s n = record { seed = s.seed; counter = (s.counter + n) % 2 ^ 64 }

-- the n-th draw from here, counting from 1
unfoldable pub word_at : NoiseStream → ℕ → ℕ
word_at s n = splitmix_draw_of s.seed ((s.counter + n) % 2 ^ 64)

unfoldable pub next_u64_of : NoiseStream → Draw ℕ
next_u64_of s = record { value = word_at s 1; stream = after s 1 }

-- a unit by its top 24 bits k: k / 2 ^ 24
unfoldable pub unit_by : ℕ → Float
unfolding div of_int of_bits
unit_by k = div binary32 (f32_of k) (of_bits binary32 0x4b80_0000)

-- the n-th draw from here as a unit
unfoldable pub unit_at : NoiseStream → ℕ → Float
unit_at s n = unit_by (word_at s n / 2 ^ 40)

unfoldable pub unit_of : NoiseStream → Draw Float
unit_of s = record { value = unit_at s 1; stream = after s 1 }

-- u is the unit of the top bits k: exactly k / 2 ^ 24, at least 0 and below 1
pub record IsUnit (k : ℕ) (u : Float) : Type 0 where
  pub digits : k < 2 ^ 24
  pub exact : HasValue u false k (2 ^ 24)
  pub least : T (le (f32_of 0) u)
  pub most : T (lt u (f32_of 1))
