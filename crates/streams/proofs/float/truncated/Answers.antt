-- From 0 to 2^23 the whole part is a float, whose cast loses nothing (`whole_cast`); other values are left to the library. Assumes nothing.
use Rattle.std.proofs.Common.{◌≡◌, T, arith}
use lib.Ieee.{binary32, to_unsigned, in_unsigned}
use lib.Ieee.Casts.{to_unsigned-lt}
use Rattle.laws.proofs.Whole.{whole_cast}
use Rattle.streams.proofs.float.truncated.Goals as goal
use Rattle.streams.proofs.float.truncated.Goals.{After-whole-w}

-- the whole part, as an integer
cast : (a : After-whole-w) → T (in_unsigned binary32 32 a.whole-w.result) × (to_unsigned 32 a.whole-w.result ≡ to_unsigned 64 a.args.x)
cast a = whole_cast a.args.x a.whole-w.result a.if-x-2.true a.whole-w.ensures

pub float_to_int-result : goal.float_to_int-result
float_to_int-result c = (cast (goal.at.float_to_int-result c).After-whole-w).0

pub overflow_cast-result : goal.overflow_cast-result
overflow_cast-result c = omega (arith, to_unsigned-lt 32 c.whole-w.result)

pub returns-then-x-2 : goal.returns-then-x-2
returns-then-x-2 c = (cast (goal.at.returns-then-x-2 c).After-whole-w).1
