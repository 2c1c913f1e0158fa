-- Above the infinities' bits stand the NaNs', and there is one NaN. Assumes nothing.
use mathlib.Core.Path.{◌≡◌, refl, sym, ◌∙◌, subst}
use mathlib.Core.Bool.{Bool, not}
use Prim.Native.Nat.{ℕ, ◌%◌, ◌<◌, ◌≤◌}
use native.Mathlib.Nat.{not-le_of_lt}
use lib.Dec.{T, ltb, lt→ltb, ltb→lt, not_T}
use lib.Ieee.{Float, nan, inf, fin, binary32, div, of_bits, is_nan, nan_bits}
use lib.Ieee.Bits.{nan_bits_is, nan_bits_above}
use Rattle.probe.proofs.kicks.float_by.Goals as goal

only_nan : (x : Float) → T (is_nan x) → nan ≡ x
unfolding is_nan
only_nan nan t = refl
only_nan (inf s) t = absurd t
only_nan (fin s m e) t = absurd t

is : (n : ℕ) → 0x7f80_0000 < n % 0x8000_0000 → nan ≡ of_bits binary32 n
is n h = only_nan (of_bits binary32 n) (subst T (sym (nan_bits_above binary32 n) ∙ nan_bits_is binary32 n) (lt→ltb 0x7f80_0000 (n % 0x8000_0000) h))

is_not : (n : ℕ) → n % 0x8000_0000 ≤ 0x7f80_0000 → T (not (nan_bits binary32 n))
is_not n h =
    let above = ltb 0x7f80_0000 (n % 0x8000_0000) in
    subst (λ (b : Bool). T (not b)) (sym (nan_bits_above binary32 n)) (not_T above (λ (t : T above). not-le_of_lt (ltb→lt 0x7f80_0000 (n % 0x8000_0000) t) h))

none : div binary32 (of_bits binary32 0) (of_bits binary32 0) ≡ nan
unfolding div of_bits
none = refl

pub float_from_bits-result : goal.float_from_bits-result
float_from_bits-result c = is_not c.args.bits c.if-bits-gt2139095040.false

pub returns-then-bits-gt2139095040 : goal.returns-then-bits-gt2139095040
returns-then-bits-gt2139095040 c = none ∙ is c.args.bits c.if-bits-gt2139095040.true
