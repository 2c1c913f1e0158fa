-- From 0 to 2^23 the definition's test holds, and `whole` has the truncated value; other beats are left to `fract_any`. Assumes nothing.
use Rattle.std.proofs.Common.{◌≡◌, ◌+◌, ◌*◌, ◌^◌, true, false, arith, ltb-true, lt-ltb}
use lib.Ieee.{Float, nan, inf, fin, binary32, of_bits, lt, up, down}
use lib.Ieee.Fits.{down_pos}
use Rattle.laws.specs.Floats.{fract_of}
use Rattle.streams.proofs.float.fract.Goals as goal

-- what is below 2^23 is below 2^24
below : (x : Float) → lt x (of_bits binary32 0x4b00_0000) ≡ true → lt x (of_bits binary32 0x4b80_0000) ≡ true
unfolding lt of_bits
below nan h = h
below (inf s) h = h
below (fin true m e) h = lt-ltb 0 (m * up e * 1 + 2 ^ 24 * down e) (omega (arith, down_pos e))
below (fin false m e) h = lt-ltb (m * up e * 1) (2 ^ 24 * down e) (omega (arith, ltb-true (m * up e * 1) (2 ^ 23 * down e) h))

pub returns-then-x-2 : goal.returns-then-x-2
unfolding fract_of
returns-then-x-2 c = rw (below c.args.x c.if-x-2.true, c.whole.ensures)
