-- Words for single-precision values. Definitions only.
use Rattle.std.specs.Prelude.{ℕ, ◌+◌, Bool, false, not, cond, pos, T, Float}
use Rattle.std.specs.Float.{nan, inf, fin, binary32}
use Rattle.std.specs.Float.Ieee.{of_int, of_bits, sub, le, lt, to_unsigned}
use Rattle.std.specs.Float.Ieee.Scale.{finite}

-- a whole number as an f32
abbrev pub f32_of : ℕ → Float
f32_of n = of_int binary32 (pos n)

-- the whole number nearest to x, halves away from zero, for x that is not negative
unfoldable pub round_of : Float → ℕ
unfolding to_unsigned sub le of_bits of_int
round_of x = cond (le (of_bits binary32 0x3f00_0000) (sub binary32 x (f32_of (to_unsigned 64 x)))) (to_unsigned 64 x + 1) (to_unsigned 64 x)

-- the fraction of x that is not negative; from 2 ^ 24 on there are only whole ones
unfoldable pub fract_of : Float → Float
unfolding lt sub of_int of_bits to_unsigned
fract_of x = cond (lt x (of_bits binary32 0x4b80_0000)) (sub binary32 x (f32_of (to_unsigned 64 x))) (of_bits binary32 0)

-- finite with a clear sign: zero is in, -0 is not
abbrev pub nonneg : Float → Bool
nonneg nan = false
nonneg (inf s) = false
nonneg (fin s m e) = not s

-- x is between lo and hi, all three finite with clear signs
pub record In (lo hi x : Float) : Type 0 where
  pub lo_ok : T (nonneg lo)
  pub hi_ok : T (nonneg hi)
  pub ok : T (nonneg x)
  pub least : T (le lo x)
  pub most : T (le x hi)

-- a float without its sign
abbrev pub abs : Float → Float
abs nan = nan
abs (inf s) = inf false
abs (fin s m e) = fin false m e

-- x is finite, of either sign, and its size is at most hi
pub record Size (hi x : Float) : Type 0 where
  pub hi_ok : T (nonneg hi)
  pub ok : T (finite x)
  pub most : T (le (abs x) hi)
