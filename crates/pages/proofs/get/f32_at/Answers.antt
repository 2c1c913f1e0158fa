-- A finite value is no NaN. Assumes nothing.
use mathlib.Core.Path.{sym, subst}
use mathlib.Core.Bool.{Bool, not}
use lib.Dec.{T}
use lib.Ieee.{binary32, of_bits}
use lib.Ieee.Bits.{nan_bits_is}
use Rattle.laws.proofs.Bounds.{no_nan}
use Rattle.pages.proofs.get.f32_at.Goals as goal

pub float_from_bits-result : goal.float_from_bits-result
float_from_bits-result c =
    let n = c.u32_at-n.result in
    subst (λ (b : Bool). T (not b)) (sym (nan_bits_is binary32 n)) (no_nan (of_bits binary32 n) (rw c.u32_at-n.ensures c.requires.finite))
