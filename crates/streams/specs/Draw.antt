-- Picks, chances and coins. Definitions only.
use Rattle.std.specs.Prelude.{Bool, ℕ, ◌-◌, min, from_bits, Float}
use Rattle.std.specs.Float.{binary32}
use Rattle.std.specs.Float.Ieee.{mul, lt, to_unsigned}
use Rattle.laws.specs.Floats.{f32_of}
use Rattle.streams.specs.Stream.{unit_of}
use Rattle.streams.specs.declared.stream.NoiseStream.{NoiseStream}
use Rattle.streams.specs.declared.stream.Draw.{Draw}

-- u * n rounded to f32, truncated, capped at n - 1
unfoldable pub picked_of : Float → ℕ → ℕ
unfolding mul to_unsigned
picked_of u n = min (to_unsigned 64 (mul binary32 u (f32_of n))) (n - 1)

unfoldable pub pick_of : NoiseStream → ℕ → Draw ℕ
pick_of s n = record { value = picked_of (unit_of s).value n; stream = (unit_of s).stream }

unfoldable pub chance_of : NoiseStream → Float → Draw Bool
chance_of s p = record { value = lt (unit_of s).value p; stream = (unit_of s).stream }

-- a chance of 0.5
unfoldable pub coin_of : NoiseStream → Draw Bool
coin_of s = chance_of s (from_bits binary32 0x3f00_0000)
