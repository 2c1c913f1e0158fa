-- The test is the definition's, and below 2^24 the truncated value is an f32. Assumes nothing.
use Rattle.std.proofs.Common.{ℕ, ◌^◌, ◌≤◌, T, sym, subst}
use lib.Ieee.{Float, binary32, of_bits, lt, to_unsigned}
use Rattle.laws.proofs.Exact.{exact}
use Rattle.laws.proofs.Bounds.{cut_under}
use Rattle.laws.specs.Floats.{fract_of}
use Rattle.streams.proofs.float.fract_any.Goals as goal

small : (x : Float) → T (lt x (of_bits binary32 0x4b80_0000)) → to_unsigned 64 x ≤ 2 ^ 24
unfolding of_bits to_unsigned
small x h = cut_under 64 x (of_bits binary32 0x4b80_0000) tt h

pub int_to_float-result : goal.int_to_float-result
int_to_float-result c =
    let t = c.truncated in
    exact t.result (subst (λ (n : ℕ). n ≤ 2 ^ 24) (sym t.ensures) (small c.args.x (subst T (sym c.if-x.true) tt)))

pub returns-then-x : goal.returns-then-x
unfolding fract_of
returns-then-x c = rw (c.if-x.true, c.truncated.ensures)

pub returns-else-x : goal.returns-else-x
unfolding fract_of
returns-else-x c = rw c.if-x.false
