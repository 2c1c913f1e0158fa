-- A NaN differs from itself, and no other value does. Assumes nothing.
use Rattle.std.proofs.Common.{◌≡◌, true, false, not, T, sym, ap, subst}
use lib.Ieee.{Float, nan, inf, fin, binary32, ne, is_nan, to_bits}
use lib.Ieee.Compare.{differs_from_itself}
use Rattle.streams.proofs.float.bits_of.Goals as goal

no_nan : (x : Float) → ne x x ≡ false → T (not (is_nan x))
unfolding ne is_nan
no_nan nan h = subst T h tt
no_nan (inf s) h = tt
no_nan (fin s m e) h = tt

at_nan : (x : Float) → ne x x ≡ true → 0x7fc0_0000 ≡ to_bits binary32 x
unfolding to_bits
at_nan x h = ap (to_bits binary32) (sym (differs_from_itself x (subst T (sym h) tt)))

pub float_to_bits-result : goal.float_to_bits-result
float_to_bits-result c = no_nan c.args.x c.if-x.false

pub returns-then-x : goal.returns-then-x
returns-then-x c = at_nan c.args.x c.if-x.true
